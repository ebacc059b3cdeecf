-- The hull of a set of schedules: all of them lie in it, and each end of each window is attained.
use Rattle.std.proofs.Common.{◌≡◌, ℕ, zero, suc, ◌<◌, ◌≤◌, min, max, ◌⊎◌, List, [], ◌∷◌, length, get_or, Some, None, sym, refl, ap, ◌∙◌, subst, inl, inr, le_of_suc-le-suc, arith}
use native.Mathlib.Nat.{suc_inj}
use Rattle.std.proofs.lemmas.Bool.{cases_lt}
use Rattle.std.proofs.lemmas.List.{ext_get_or}
use Rattle.windows.specs.declared.window.Window.{Window}
use Rattle.windows.specs.WindowSets.{WindowSet, Lies, Inside, earliest_of, latest_of, nowhere, window}
use Rattle.windows.specs.Schedules.{alone, cover, covers, hull}
use Rattle.windows.specs.Hulls.{Among, Hull}
use Rattle.windows.proofs.Lying.{Nonempty}

pub some_inj : {X : Type 0} (a b : X) → Some a ≡ Some b → a ≡ b
some_inj a b e = cc

pub not_some : {X : Type 0} (a : X) → None ≡ Some a → ⊥
not_some a e = let z : ◌≡◌ {A = ℕ} 0 1 = cc in omega arith

pub same_window : (a b c d : ℕ) → a ≡ c → b ≡ d → window a b ≡ window c d
same_window a b c d e f = cc

pub hull_same : (P Q : List ℕ → Type 0) (vs : List Window) → ((x : List ℕ) → P x → Q x) → ((x : List ℕ) → Q x → P x) → Hull P vs → Hull Q vs
hull_same P Q vs to back h =
    record {
      some = (h.some.0, to h.some.0 h.some.1);
      lies = λ x q. h.lies x (back x q);
      first = λ k b. (let r = h.first k b in (r.0, to r.0 r.1, r.2));
      final = λ k b. (let r = h.final k b in (r.0, to r.0 r.1, r.2));
    }

pub hull_unique : (P : List ℕ → Type 0) (us vs : List Window) → Hull P us → Hull P vs → us ≡ vs
hull_unique P us vs g h = ext_get_or nowhere us vs long (λ k b. same_window (earliest_of us k) (latest_of us k) (earliest_of vs k) (latest_of vs k) (lows k b) (highs k b))
  where
    long : length us ≡ length vs
    long = sym (g.lies g.some.0 g.some.1).same_size ∙ (h.lies g.some.0 g.some.1).same_size

    lows : (k : ℕ) → k < length us → earliest_of us k ≡ earliest_of vs k
    lows k b =
        let c : k < length vs = omega (arith, long) in
        let p = g.first k b in
        let q = h.first k c in
        omega (arith, p.2, q.2, (h.lies p.0 p.1).not_before k c, (g.lies q.0 q.1).not_before k b)

    highs : (k : ℕ) → k < length us → latest_of us k ≡ latest_of vs k
    highs k b =
        let c : k < length vs = omega (arith, long) in
        let p = g.final k b in
        let q = h.final k c in
        omega (arith, p.2, q.2, (h.lies p.0 p.1).not_after k c, (g.lies q.0 q.1).not_after k b)

pub hull_holds : (P : List ℕ → Type 0) (vs : List Window) → Hull P vs → Nonempty vs
hull_holds P vs h k b = let l = h.lies h.some.0 h.some.1 in omega (arith, l.not_before k b, l.not_after k b)

-- A hull lies inside any windows in which all the schedules lie.
pub hull_inside : (P : List ℕ → Type 0) (vs ws : List Window) → Hull P vs → ((x : List ℕ) → P x → Lies x ws) → Inside vs ws
hull_inside P vs ws h l = record { same_size = long; not_before = not_before; not_after = not_after }
  where
    long : length vs ≡ length ws
    long = sym (h.lies h.some.0 h.some.1).same_size ∙ (l h.some.0 h.some.1).same_size

    not_before : (k : ℕ) → k < length ws → earliest_of ws k ≤ earliest_of vs k
    not_before k b = let r = h.first k (omega (arith, long)) in omega (arith, r.2, (l r.0 r.1).not_before k b)

    not_after : (k : ℕ) → k < length ws → latest_of vs k ≤ latest_of ws k
    not_after k b = let r = h.final k (omega (arith, long)) in omega (arith, r.2, (l r.0 r.1).not_after k b)

length_alone : (x : List ℕ) → length (alone x) ≡ length x
length_alone [] = refl
length_alone (a ∷ x) = ap suc (length_alone x)

earliest_alone : (x : List ℕ) (k : ℕ) → earliest_of (alone x) k ≡ get_or x k 0
earliest_alone [] k = refl
earliest_alone (a ∷ x) zero = refl
earliest_alone (a ∷ x) (suc k) = earliest_alone x k

latest_alone : (x : List ℕ) (k : ℕ) → latest_of (alone x) k ≡ get_or x k 0
latest_alone [] k = refl
latest_alone (a ∷ x) zero = refl
latest_alone (a ∷ x) (suc k) = latest_alone x k

lies_alone : (x : List ℕ) → Lies x (alone x)
lies_alone x = record { same_size = sym (length_alone x); not_before = λ k b. omega (arith, earliest_alone x k); not_after = λ k b. omega (arith, latest_alone x k) }

pub alone_hull : (x : List ℕ) → Hull (λ y. x ≡ y) (alone x)
alone_hull x =
    record {
      some = (x, refl);
      lies = λ y e. subst (λ (z : List ℕ). Lies z (alone x)) e (lies_alone x);
      first = λ k b. (x, refl, sym (earliest_alone x k));
      final = λ k b. (x, refl, sym (latest_alone x k));
    }

length_cover : (ws : List Window) (x : List ℕ) → length x ≡ length ws → length (cover ws x) ≡ length ws
length_cover [] x e = refl
length_cover (w ∷ ws) [] e = e
length_cover (w ∷ ws) (a ∷ x) e = ap suc (length_cover ws x (suc_inj e))

earliest_cover : (ws : List Window) (x : List ℕ) (k : ℕ) → length x ≡ length ws → k < length ws → earliest_of (cover ws x) k ≡ min (earliest_of ws k) (get_or x k 0)
earliest_cover [] x k e b = absurd (omega arith)
earliest_cover (w ∷ ws) [] k e b = absurd (omega arith)
earliest_cover (w ∷ ws) (a ∷ x) zero e b = refl
earliest_cover (w ∷ ws) (a ∷ x) (suc k) e b = earliest_cover ws x k (suc_inj e) (le_of_suc-le-suc b)

latest_cover : (ws : List Window) (x : List ℕ) (k : ℕ) → length x ≡ length ws → k < length ws → latest_of (cover ws x) k ≡ max (latest_of ws k) (get_or x k 0)
latest_cover [] x k e b = absurd (omega arith)
latest_cover (w ∷ ws) [] k e b = absurd (omega arith)
latest_cover (w ∷ ws) (a ∷ x) zero e b = refl
latest_cover (w ∷ ws) (a ∷ x) (suc k) e b = latest_cover ws x k (suc_inj e) (le_of_suc-le-suc b)

pub cover_hull : (P : List ℕ → Type 0) (ws : List Window) (x : List ℕ) → Hull P ws → length x ≡ length ws → Hull (λ y. P y ⊎ (x ≡ y)) (cover ws x)
cover_hull P ws x h e =
    record { some = (h.some.0, inl h.some.1); lies = lies; first = first; final = final }
  where
    n : length (cover ws x) ≡ length ws
    n = length_cover ws x e

    lies : (y : List ℕ) → P y ⊎ (x ≡ y) → Lies y (cover ws x)
    lies y (inl p) = let l = h.lies y p in record {
      same_size = l.same_size ∙ sym n;
      not_before = λ k b. (let c : k < length ws = omega (arith, n) in omega (arith, earliest_cover ws x k e c, l.not_before k c));
      not_after = λ k b. (let c : k < length ws = omega (arith, n) in omega (arith, latest_cover ws x k e c, l.not_after k c));
    }
    lies y (inr q) = subst (λ (z : List ℕ). Lies z (cover ws x)) q (record {
      same_size = e ∙ sym n;
      not_before = λ k b. (let c : k < length ws = omega (arith, n) in omega (arith, earliest_cover ws x k e c));
      not_after = λ k b. (let c : k < length ws = omega (arith, n) in omega (arith, latest_cover ws x k e c));
    })

    first : (k : ℕ) → k < length (cover ws x) → (y : List ℕ) × (P y ⊎ (x ≡ y)) × (get_or y k 0 ≡ earliest_of (cover ws x) k)
    first k b =
        let c : k < length ws = omega (arith, n) in
        let f = earliest_cover ws x k e c in
        let r = h.first k c in
        elim (cases_lt (get_or x k 0) (earliest_of ws k)) [
          | inl l ↦ (x, inr refl, omega arith)
          | inr g ↦ (r.0, inl r.1, omega (arith, r.2))
        ]

    final : (k : ℕ) → k < length (cover ws x) → (y : List ℕ) × (P y ⊎ (x ≡ y)) × (get_or y k 0 ≡ latest_of (cover ws x) k)
    final k b =
        let c : k < length ws = omega (arith, n) in
        let f = latest_cover ws x k e c in
        let r = h.final k c in
        elim (cases_lt (latest_of ws k) (get_or x k 0)) [
          | inl l ↦ (x, inr refl, omega arith)
          | inr g ↦ (r.0, inl r.1, omega (arith, r.2))
        ]

pub covers_hull : (P : List ℕ → Type 0) (ws : List Window) (xs : List (List ℕ)) → Hull P ws → ((x : List ℕ) → Among x xs → length x ≡ length ws) → Hull (λ x. P x ⊎ Among x xs) (covers ws xs)
covers_hull P ws [] h e = hull_same P (λ x. P x ⊎ ⊥) ws (λ x p. inl p) (λ x q. elim q [ inl p ↦ p | inr m ↦ absurd m ]) h
covers_hull P ws (x ∷ xs) h e =
    hull_same (λ y. (P y ⊎ (x ≡ y)) ⊎ Among y xs) (λ y. P y ⊎ ((x ≡ y) ⊎ Among y xs)) (covers (cover ws x) xs)
    (λ y q. elim q [ inl (inl p) ↦ inl p | inl (inr f) ↦ inr (inl f) | inr m ↦ inr (inr m) ])
    (λ y q. elim q [ inl p ↦ inl (inl p) | inr (inl f) ↦ inl (inr f) | inr (inr m) ↦ inr m ])
    (covers_hull (λ y. P y ⊎ (x ≡ y)) (cover ws x) xs (cover_hull P ws x h (e x (inl refl))) (λ y m. e y (inr m) ∙ sym (length_cover ws x (e x (inl refl)))))

-- The hull of a list of schedules of one length.
listed : (x : List ℕ) (xs : List (List ℕ)) (n : ℕ) → ((y : List ℕ) → Among y (x ∷ xs) → length y ≡ n) → Hull (λ y. Among y (x ∷ xs)) (covers (alone x) xs)
listed x xs n e = covers_hull (λ y. x ≡ y) (alone x) xs (alone_hull x) (λ y m. e y (inr m) ∙ (sym (e x (inl refl)) ∙ sym (length_alone x)))

pub hull_some : (T : ℕ) (S : List (List ℕ)) (n : ℕ) (v : WindowSet) → ((x : List ℕ) → Among x S → length x ≡ n) → hull T S ≡ Some v → (v.periods ≡ T) × Hull (λ x. Among x S) v.each
hull_some T [] n v e h = absurd (not_some v h)
hull_some T (x ∷ xs) n v e h =
    let s = some_inj (record { periods = T; each = covers (alone x) xs }) v h in
    (sym (ap (λ (u : WindowSet). u.periods) s), subst (λ (u : WindowSet). Hull (λ y. Among y (x ∷ xs)) u.each) s (listed x xs n e))

pub hull_none : (T : ℕ) (S : List (List ℕ)) (x : List ℕ) → hull T S ≡ None → Among x S → ⊥
hull_none T [] x h m = m
hull_none T (y ∷ ys) x h m = not_some (record { periods = T; each = covers (alone y) ys }) (sym h)

-- Windows with the hull's properties are the hull.
pub hull_is : (T : ℕ) (S : List (List ℕ)) (vs : List Window) → Hull (λ x. Among x S) vs → hull T S ≡ Some (record { periods = T; each = vs })
hull_is T [] vs h = absurd h.some.1
hull_is T (x ∷ xs) vs h = ap (λ (us : List Window). Some (record { periods = T; each = us })) (hull_unique (λ y. Among y (x ∷ xs)) (covers (alone x) xs) vs (listed x xs (length vs) (λ y m. (h.lies y m).same_size)) h)

pub hull_empty : (T : ℕ) (S : List (List ℕ)) → ((x : List ℕ) → Among x S → ⊥) → hull T S ≡ None
hull_empty T [] e = refl
hull_empty T (x ∷ xs) e = absurd (e x (inl refl))
