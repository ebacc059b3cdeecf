-- Windows replaced one by one, and the ends of the periods that a test keeps.
use Rattle.std.specs.Prelude.{◌≡◌, ℕ, zero, suc, ◌+◌, ◌-◌, ◌<◌, ◌≤◌, Bool, true, false, cond, ◌⊎◌, List, [], ◌∷◌, length, Some, None, Option, slice_index_or, refl}
use Rattle.std.proofs.Common.{sym, ap, subst, ◌∙◌, inl, inr, arith}
use Rattle.std.specs.List.{range_with_len}
use Rattle.windows.specs.declared.window.Window.{Window}
use Rattle.windows.specs.WindowSets.{WindowSet, window, nowhere}
use Rattle.windows.specs.Schedules.{kept, periods_in}
use Rattle.windows.specs.Hulls.{Among}
use Rattle.windows.proofs.Members.{kept_out, counting_out}
use Rattle.windows.proofs.Hulls.{some_inj, not_some, same_window}
use Rattle.rated.specs.Rates.{final_of, ends_of, joint, replaced, over}

joint_some : (o : Option Window) (r : Option (List Window)) (vs : List Window) → joint o r ≡ Some vs → (u : Window) × (us : List Window) × (o ≡ Some u) × (r ≡ Some us) × ((u ∷ us) ≡ vs)
joint_some None r vs e = absurd (not_some vs e)
joint_some (Some u) None vs e = absurd (not_some vs e)
joint_some (Some u) (Some us) vs e = (u, us, refl, refl, some_inj (u ∷ us) vs e)

joint_none : (o : Option Window) (r : Option (List Window)) → joint o r ≡ None → (o ≡ None) ⊎ (r ≡ None)
joint_none None r e = inl refl
joint_none (Some u) None e = inr refl
joint_none (Some u) (Some us) e = absurd (not_some (u ∷ us) (sym e))

joint_empty : (o : Option Window) → joint o None ≡ None
joint_empty None = refl
joint_empty (Some u) = refl

-- f gives a window for each batch of ws, and these are vs.
pub record Gives (f : ℕ → Window → Option Window) (ws vs : List Window) : Type 0 where
  pub same_size : length vs ≡ length ws
  pub each : (k : ℕ) → k < length ws → f k (slice_index_or ws k nowhere) ≡ Some (slice_index_or vs k nowhere)

pub replaced_some : (f : ℕ → Window → Option Window) (ws vs : List Window) → replaced f ws ≡ Some vs → Gives f ws vs
replaced_some f [] vs e = subst (λ (us : List Window). Gives f [] us) (some_inj [] vs e) (record { same_size = refl; each = λ k h. absurd (omega arith) })
replaced_some f (w ∷ ws) vs e =
    let p = joint_some (f 0 w) (replaced (λ i. f (suc i)) ws) vs e in
    let r = replaced_some (λ i. f (suc i)) ws p.1 p.3 in
    subst (λ (us : List Window). Gives f (w ∷ ws) us) p.4 (record { same_size = ap suc r.same_size; each = each p.0 p.1 p.2 r.each })
  where
    each : (u : Window) (us : List Window) → f 0 w ≡ Some u → ((k : ℕ) → k < length ws → f (suc k) (slice_index_or ws k nowhere) ≡ Some (slice_index_or us k nowhere)) → (k : ℕ) → k < length (w ∷ ws) → f k (slice_index_or (w ∷ ws) k nowhere) ≡ Some (slice_index_or (u ∷ us) k nowhere)
    each u us a b zero h = a
    each u us a b (suc k) h = b k (omega arith)

pub replaced_is : (f : ℕ → Window → Option Window) (ws vs : List Window) → Gives f ws vs → replaced f ws ≡ Some vs
replaced_is f [] [] g = refl
replaced_is f [] (v ∷ vs) g = absurd (let n = g.same_size in omega arith)
replaced_is f (w ∷ ws) [] g = absurd (let n = g.same_size in omega arith)
replaced_is f (w ∷ ws) (v ∷ vs) g =
    let n = g.same_size in
    let r = replaced_is (λ i. f (suc i)) ws vs (record { same_size = omega arith; each = λ k h. g.each (suc k) (omega arith) }) in
    ap (λ (o : Option Window). joint o (replaced (λ i. f (suc i)) ws)) (g.each 0 (omega arith)) ∙ ap (joint (Some v)) r

pub replaced_none : (f : ℕ → Window → Option Window) (ws : List Window) → replaced f ws ≡ None → (k : ℕ) × (k < length ws) × (f k (slice_index_or ws k nowhere) ≡ None)
replaced_none f [] e = absurd (let s : List Window = [] in not_some s (sym e))
replaced_none f (w ∷ ws) e =
    elim (joint_none (f 0 w) (replaced (λ i. f (suc i)) ws) e) [
      | inl g ↦ (0, omega arith, g)
      | inr g ↦ (let r = replaced_none (λ i. f (suc i)) ws g in (suc r.0, omega (arith, r.1), r.2))
    ]

pub replaced_empty : (f : ℕ → Window → Option Window) (ws : List Window) (k : ℕ) → k < length ws → f k (slice_index_or ws k nowhere) ≡ None → replaced f ws ≡ None
replaced_empty f [] k h e = absurd (omega arith)
replaced_empty f (w ∷ ws) zero h e = ap (λ (o : Option Window). joint o (replaced (λ i. f (suc i)) ws)) e
replaced_empty f (w ∷ ws) (suc k) h e = ap (joint (f 0 w)) (replaced_empty (λ i. f (suc i)) ws k (omega arith) e) ∙ joint_empty (f 0 w)

-- Windows over T periods.
pub over_some : (T : ℕ) (o : Option (List Window)) (v : WindowSet) → over T o ≡ Some v → (v.periods ≡ T) × (o ≡ Some v.each)
over_some T None v e = absurd (not_some v e)
over_some T (Some ws) v e = let s = some_inj (record { periods = T; each = ws }) v e in (sym (ap (λ (u : WindowSet). u.periods) s), ap (λ (u : WindowSet). Some u.each) s)

pub over_none : (T : ℕ) (o : Option (List Window)) → over T o ≡ None → o ≡ None
over_none T None e = refl
over_none T (Some ws) e = absurd (not_some (record { periods = T; each = ws }) (sym e))

-- The periods that a test keeps stay in order.
abbrev Rising : List ℕ → Type 0
Rising [] = Unit {0}
Rising (a ∷ xs) = ((b : ℕ) → Among b xs → a ≤ b) × Rising xs

counting_rising : (a n : ℕ) → Rising (range_with_len a n)
counting_rising a zero = tt
counting_rising a (suc n) = ((λ b m. omega (arith, (counting_out b (a + 1) n m).0)), counting_rising (a + 1) n)

kept_rising : (p : ℕ → Bool) (xs : List ℕ) → Rising xs → Rising (kept p xs)
kept_rising p [] u = tt
kept_rising p (a ∷ xs) u = go (p a) (kept_rising p xs u.1)
  where
    go : (b : Bool) → Rising (kept p xs) → Rising (cond b (a ∷ kept p xs) (kept p xs))
    go true r = ((λ b m. u.0 b (kept_out p b xs m).0), r)
    go false r = r

final_in : (a : ℕ) (xs : List ℕ) → Among (final_of a xs) (a ∷ xs)
final_in a [] = inl refl
final_in a (b ∷ xs) = inr (final_in b xs)

final_high : (a : ℕ) (xs : List ℕ) (t : ℕ) → Rising (a ∷ xs) → Among t (a ∷ xs) → t ≤ final_of a xs
final_high a [] t u (inl e) = omega arith
final_high a [] t u (inr m) = absurd m
final_high a (b ∷ xs) t u (inl e) = omega (arith, u.0 b (inl refl), final_high b xs b u.1 (inl refl))
final_high a (b ∷ xs) t u (inr m) = final_high b xs t u.1 m

-- The window from the first to the last of some periods.
pub record Ends (xs : List ℕ) (w : Window) : Type 0 where
  pub first : Among w.earliest xs
  pub final : Among w.latest xs
  pub low : (t : ℕ) → Among t xs → w.earliest ≤ t
  pub high : (t : ℕ) → Among t xs → t ≤ w.latest

rising_ends : (a : ℕ) (xs : List ℕ) → Rising (a ∷ xs) → Ends (a ∷ xs) (window a (final_of a xs))
rising_ends a xs u = record { first = inl refl; final = final_in a xs; low = λ t m. elim m [ inl f ↦ omega arith | inr n ↦ u.0 t n ]; high = λ t m. final_high a xs t u m }

module _ (p : ℕ → Bool) (w : Window) where
  rising : Rising (kept p (periods_in w))
  rising = kept_rising p (periods_in w) (counting_rising w.earliest (w.latest + 1 - w.earliest))

  pub ends_some : (v : Window) → ends_of (kept p (periods_in w)) ≡ Some v → Ends (kept p (periods_in w)) v
  ends_some v e = go (kept p (periods_in w)) rising e
    where
      go : (xs : List ℕ) → Rising xs → ends_of xs ≡ Some v → Ends xs v
      go [] u f = absurd (not_some v f)
      go (a ∷ xs) u f = subst (λ (z : Window). Ends (a ∷ xs) z) (some_inj (window a (final_of a xs)) v f) (rising_ends a xs u)

  pub ends_is : (v : Window) → Ends (kept p (periods_in w)) v → ends_of (kept p (periods_in w)) ≡ Some v
  ends_is v n = go (kept p (periods_in w)) rising n
    where
      go : (xs : List ℕ) → Rising xs → Ends xs v → ends_of xs ≡ Some v
      go [] u m = absurd m.first
      go (a ∷ xs) u m =
          let r = rising_ends a xs u in
          ap (λ (z : Window). Some z) (same_window a (final_of a xs) v.earliest v.latest (omega (arith, r.low v.earliest m.first, m.low a r.first)) (omega (arith, r.high v.latest m.final, m.high (final_of a xs) r.final)))

pub ends_none : (xs : List ℕ) (t : ℕ) → ends_of xs ≡ None → Among t xs → ⊥
ends_none [] t e m = m
ends_none (a ∷ xs) t e m = not_some (window a (final_of a xs)) (sym e)

pub ends_empty : (xs : List ℕ) → ((t : ℕ) → Among t xs → ⊥) → ends_of xs ≡ None
ends_empty [] h = refl
ends_empty (a ∷ xs) h = absurd (h a (inl refl))
