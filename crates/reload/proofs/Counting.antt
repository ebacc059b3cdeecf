-- What `any` over the numbers of a range tells, numbers of batches that a filter counts, and periods that batches share.
use Rattle.std.proofs.Common.{◌≡◌, ℕ, zero, suc, ◌+◌, ◌-◌, ◌<◌, ◌≤◌, Bool, true, false, not, ◌&&◌, ◌||◌, cond, eqb, ltb, leb, List, ◌∷◌, [], replicate, Some, Option, MatchBool, length, get_or, ⊎_elim, sym, refl, ap, ◌∙◌, arith}
use Rattle.std.specs.Prelude.{IsTrue, count_by}
use Rattle.std.specs.Option.{option_map}
use Rattle.std.specs.Range.{range_inclusive_start, range_inclusive_end, range_inclusive_exhausted}
use Rattle.std.specs.Fn.{Called}
use Rattle.std.specs.List.{list_any, range_with_len}
use Rattle.std.specs.Iterator.Runs.{Run, SomeRun, AnyItemGives, AllItemsGive, CallKeepsClosure}
use Rattle.std.specs.declared.ops.RangeInclusive.{RangeInclusive}
use Rattle.std.proofs.iter.runs.Sources.{nat_range_inclusive_steps, inclusive_listed}
use Rattle.std.proofs.lemmas.List.FromFn.{length-range_with_len, get_or-range_with_len}
use Rattle.std.proofs.lemmas.List.Recursion.{is_sum_by}
use Rattle.std.proofs.lemmas.Bool.{cases_Bool, cond-false, eqb-true, ltb-true, leb-true, le-leb, and_from, and_parts}
use Rattle.std.proofs.lemmas.Bool.Decides.{nat_tests}
use Rattle.windows.specs.declared.window.Window.{Window}
use Rattle.windows.specs.WindowSets.{nowhere}
use Rattle.windows.specs.Schedules.{count}
use Rattle.rule.proofs.Entries.{some_here, none_some, each_not}
use Rattle.flat.specs.Tests.{within}
use Rattle.flat.proofs.Scans.{item, item_and}
use Rattle.reload.specs.Rules.{places_of}
use Rattle.reload.specs.Settled.{length_places, place_at}
use denote.Param.Members.{Mut}

module _ {F : Type 0} {g : Mut F (ℕ × Unit {0}) Bool} {f : F} (test : ℕ → Bool) (computes : (v : ℕ) (b : Bool) (q : F) → Called g f (v, tt) b q → (q ≡ f) × (b ≡ test v)) where
  keeps : CallKeepsClosure g f
  keeps a r q e = (computes a.0 r q e).0

  -- The k-th item of the run is a + k, and there are n.
  told : {S : Type 0} {steps : S → Option ℕ → S → Type 0} (p : Run steps) (a n : ℕ) → p.len ≤ n → (p.whole ≡ true → p.len ≡ n) → ((k : ℕ) → k < p.len → option_map (λ y. y) (p.at k) ≡ Some (a + k)) →
      (r : Bool) → MatchBool r (AnyItemGives p g f true) (IsTrue p.whole × AllItemsGive p g f false) → r ≡ list_any test (range_with_len a n)
  told p a n most all at true h =
      let i = h keeps in
      sym (some_here test (range_with_len a n) 0 i.0 (omega (arith, length-range_with_len a n))
      (ap test (get_or-range_with_len a n i.0 0 (omega (arith, i.1))) ∙ sym (computes (a + i.0) true f (item_and p i.0 (a + i.0) (λ v. Called g f (v, tt) true f) (at i.0 i.1) i.2)).1))
  told p a n most all at false h =
      sym (none_some test (range_with_len a n) 0 (λ k b.
      (let within : k < n = omega (arith, length-range_with_len a n) in
      ap test (get_or-range_with_len a n k 0 within) ∙ sym (computes (a + k) false f (item p k (a + k) (λ v. Called g f (v, tt) false f) (at k (omega (arith, all h.0))) (h.1 keeps k))).1)))

  pub any_up : (s : RangeInclusive ℕ) (a n : ℕ) → range_inclusive_exhausted s ≡ false → range_inclusive_start s ≡ a → range_inclusive_end s + 1 ≡ a + n → (r : Bool) → SomeRun nat_range_inclusive_steps s (λ p. MatchBool r (AnyItemGives p g f true) (IsTrue p.whole × AllItemsGive p g f false)) → r ≡ list_any test (range_with_len a n)
  any_up s a n fresh from to r h =
      let p = h.0 in
      let l = inclusive_listed p p.seen in
      let start : l.0 ≡ a = l.2 ∙ ap range_inclusive_start h.1 ∙ from in
      let size : l.1 - l.0 ≡ n = omega (arith, l.2, l.3, ap range_inclusive_start h.1, ap range_inclusive_end h.1, from, to) in
      let c = (l.4 (ap range_inclusive_exhausted h.1 ∙ fresh)).0 in
      told p a n (omega (arith, c.0)) (λ w. omega (arith, c.1 w)) (λ k b. c.3 k b ∙ ap (λ v. Some (v + k)) start) r h.2

not_more : (c : ℕ) → leb c 1 ≡ not (ltb 1 c)
not_more c = grind (arith, nat_tests)

neither : (a b : Bool) → (not a && not b) ≡ not (a || b)
neither true b = refl
neither false b = refl

-- Periods from t on with at most one batch each are periods of which none has more.
pub uncrowded : (T t : ℕ) (x : List ℕ) → within (replicate T 1) t x ≡ not (list_any (λ s. ltb 1 (count s x)) (range_with_len t T))
uncrowded zero t x = refl
uncrowded (suc T) t x =
    ap (λ b. b && within (replicate T 1) (t + 1) x) (not_more (count t x))
    ∙ ap (λ b. not (ltb 1 (count t x)) && b) (uncrowded T (t + 1) x)
    ∙ neither (ltb 1 (count t x)) (list_any (λ s. ltb 1 (count s x)) (range_with_len (t + 1) T))

-- The batches of a period, counted over their windows.
pub count_places : (t : ℕ) (ws : List Window) → count t (places_of ws) ≡ count_by (λ w. eqb w.earliest t) ws
count_places t ws = is_sum_by (λ vs. count t (places_of vs)) (λ w. cond (eqb w.earliest t) 1 0) refl (λ w vs. refl) ws

-- A period that is counted is that of some batch.
counted : (t : ℕ) (x : List ℕ) → 1 ≤ count t x → (k : ℕ) × (k < length x) × (get_or x k 0 ≡ t)
counted t [] h = absurd (omega arith)
counted t (v ∷ x) h =
    ⊎_elim (λ e. (0, omega arith, eqb-true v t e))
    (λ e. (let r = counted t x (omega (arith, cond-false {A = ℕ} _ 1 0 e)) in (suc r.0, omega (arith, r.1), r.2)))
    (cases_Bool (eqb v t))

alike : (a b : Bool) → (a ≡ false → b ≡ false) → (b ≡ false → a ≡ false) → a ≡ b
alike true true f g = refl
alike true false f g = g refl
alike false b f g = sym (f refl)

-- A period has more than one batch, and a batch is in such a one of the T.
module _ (T : ℕ) (ws : List Window) where
  abbrev pub crowd : ℕ → Bool
  crowd s = ltb 1 (count s (places_of ws))

  abbrev pub crowds : Window → Bool
  crowds w = (leb 1 w.earliest && leb w.earliest T) && crowd w.earliest

  out : (w : Window) → list_any crowd (range_with_len 1 T) ≡ false → crowds w ≡ false
  out w e =
      ⊎_elim
      (λ i.
      (let l = and_parts (leb 1 w.earliest) (leb w.earliest T) i in
      let lo = leb-true 1 w.earliest l.0 in
      let hi = leb-true w.earliest T l.1 in
      let z : 1 + (w.earliest - 1) ≡ w.earliest = omega (arith, lo) in
      let c : crowd w.earliest ≡ false = ap crowd (sym (get_or-range_with_len 1 T (w.earliest - 1) 0 (omega (arith, lo, hi)) ∙ z)) ∙ each_not crowd (range_with_len 1 T) 0 e (w.earliest - 1) (omega (arith, lo, hi, length-range_with_len 1 T)) in
      rw (i, c)))
      (λ i. rw i)
      (cases_Bool (leb 1 w.earliest && leb w.earliest T))

  into : (k : ℕ) → k < T → list_any crowds ws ≡ false → crowd (1 + k) ≡ false
  into k h e =
      ⊎_elim
      (λ c.
      (let f = counted (1 + k) (places_of ws) (omega (arith, ltb-true 1 (count (1 + k) (places_of ws)) c)) in
      let b : f.0 < length ws = omega (arith, f.1, length_places ws) in
      let is : (get_or ws f.0 nowhere).earliest ≡ 1 + k = sym (place_at ws f.0 b) ∙ f.2 in
      let inside : (leb 1 (1 + k) && leb (1 + k) T) ≡ true = and_from _ _ (le-leb 1 (1 + k) (omega arith)) (le-leb (1 + k) T (omega (arith, h))) in
      sym (ap (λ b. b && crowd (1 + k)) inside) ∙ sym (ap (λ s. (leb 1 s && leb s T) && crowd s) is) ∙ each_not crowds ws nowhere e f.0 b))
      (λ c. c)
      (cases_Bool (crowd (1 + k)))

  -- Only the periods that batches have need be counted.
  pub own_periods : not (list_any crowds ws) ≡ within (replicate T 1) 1 (places_of ws)
  own_periods =
      ap not
      (sym (alike (list_any crowd (range_with_len 1 T)) (list_any crowds ws)
      (λ e. none_some crowds ws nowhere (λ k b. out (get_or ws k nowhere) e))
      (λ e. none_some crowd (range_with_len 1 T) 0 (λ k b. (let h : k < T = omega (arith, length-range_with_len 1 T) in ap crowd (get_or-range_with_len 1 T k 0 h) ∙ into k h e)))))
      ∙ sym (uncrowded T 1 (places_of ws))
