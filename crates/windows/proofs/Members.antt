-- Membership in the enumerations: filters, periods, schedules.
use Rattle.std.proofs.Common.{◌≡◌, ℕ, zero, suc, ◌+◌, ◌-◌, ◌<◌, ◌≤◌, Bool, true, false, cond, ◌⊎◌, List, [], ◌∷◌, ◌++◌, map, sym, refl, ap, ◌∙◌, subst, inl, inr, arith}
use Rattle.std.specs.List.{range_with_len}
use Rattle.std.proofs.lemmas.Bool.{cases_lt, both_ways}
use Rattle.windows.specs.declared.window.Window.{Window}
use Rattle.windows.specs.WindowSets.{Lies}
use Rattle.windows.specs.Schedules.{joined, kept, periods_in, schedules}
use Rattle.windows.specs.Hulls.{Among}
use Rattle.windows.proofs.Lying.{lies_cons, lies_tail, lies_low, lies_high, lies_empty}

pub among_left : {X : Type 0} (x : X) (xs ys : List X) → Among x xs → Among x (xs ++ ys)
among_left x [] ys m = absurd m
among_left x (y ∷ xs) ys (inl e) = inl e
among_left x (y ∷ xs) ys (inr m) = inr (among_left x xs ys m)

pub among_right : {X : Type 0} (x : X) (xs ys : List X) → Among x ys → Among x (xs ++ ys)
among_right x [] ys m = m
among_right x (y ∷ xs) ys m = inr (among_right x xs ys m)

pub among_split : {X : Type 0} (x : X) (xs ys : List X) → Among x (xs ++ ys) → Among x xs ⊎ Among x ys
among_split x [] ys m = inr m
among_split x (y ∷ xs) ys (inl e) = inl (inl e)
among_split x (y ∷ xs) ys (inr m) = elim (among_split x xs ys m) [ inl l ↦ inl (inr l) | inr r ↦ inr r ]

pub kept_in : {X : Type 0} (p : X → Bool) (x : X) (xs : List X) → Among x xs → p x ≡ true → Among x (kept p xs)
kept_in p x [] m t = m
kept_in {X} p x (y ∷ xs) (inl e) t = go (p y) refl
  where
    go : (b : Bool) → p y ≡ b → Among x (cond b (y ∷ kept p xs) (kept p xs))
    go true f = inl e
    go false f = absurd (both_ways (p y) f (ap p e ∙ t))
kept_in {X} p x (y ∷ xs) (inr m) t = go (p y) (kept_in p x xs m t)
  where
    go : (b : Bool) → Among x (kept p xs) → Among x (cond b (y ∷ kept p xs) (kept p xs))
    go true r = inr r
    go false r = r

pub kept_out : {X : Type 0} (p : X → Bool) (x : X) (xs : List X) → Among x (kept p xs) → Among x xs × (p x ≡ true)
kept_out p x [] m = absurd m
kept_out {X} p x (y ∷ xs) m = go (p y) refl m (kept_out p x xs)
  where
    go : (b : Bool) → p y ≡ b → Among x (cond b (y ∷ kept p xs) (kept p xs)) → (Among x (kept p xs) → Among x xs × (p x ≡ true)) → Among x (y ∷ xs) × (p x ≡ true)
    go true f (inl e) r = (inl e, ap p (sym e) ∙ f)
    go true f (inr l) r = (inr (r l).0, (r l).1)
    go false f l r = (inr (r l).0, (r l).1)

-- Tests that agree on a list keep the same of it.
pub kept_same : {X : Type 0} (p q : X → Bool) (xs : List X) → ((x : X) → Among x xs → p x ≡ q x) → kept p xs ≡ kept q xs
kept_same p q [] h = refl
kept_same p q (x ∷ xs) h = ap (λ b. cond b (x ∷ kept p xs) (kept p xs)) (h x (inl refl)) ∙ ap (λ l. cond (q x) (x ∷ l) l) (kept_same p q xs (λ y m. h y (inr m)))

pub map_in : {X Y : Type 0} (f : X → Y) (x : X) (xs : List X) → Among x xs → Among (f x) (map f xs)
map_in f x [] m = absurd m
map_in f x (y ∷ xs) (inl e) = inl (ap f e)
map_in f x (y ∷ xs) (inr m) = inr (map_in f x xs m)

pub map_out : {X Y : Type 0} (f : X → Y) (y : Y) (xs : List X) → Among y (map f xs) → (x : X) × Among x xs × (f x ≡ y)
map_out f y [] m = absurd m
map_out f y (x ∷ xs) (inl e) = (x, inl refl, e)
map_out f y (x ∷ xs) (inr m) = let r = map_out f y xs m in (r.0, inr r.1, r.2)

pub joined_in : {X Y : Type 0} (f : X → List Y) (y : Y) (x : X) (xs : List X) → Among x xs → Among y (f x) → Among y (joined f xs)
joined_in f y x [] m n = absurd m
joined_in f y x (z ∷ xs) (inl e) n = among_left y (f z) (joined f xs) (subst (λ u. Among y (f u)) (sym e) n)
joined_in f y x (z ∷ xs) (inr m) n = among_right y (f z) (joined f xs) (joined_in f y x xs m n)

pub joined_out : {X Y : Type 0} (f : X → List Y) (y : Y) (xs : List X) → Among y (joined f xs) → (x : X) × Among x xs × Among y (f x)
joined_out f y [] m = absurd m
joined_out {X} f y (x ∷ xs) m = go (among_split y (f x) (joined f xs) m) (joined_out f y xs)
  where
    go : Among y (f x) ⊎ Among y (joined f xs) → (Among y (joined f xs) → (z : X) × Among z xs × Among y (f z)) → (z : X) × Among z (x ∷ xs) × Among y (f z)
    go (inl l) r = (x, inl refl, l)
    go (inr l) r = ((r l).0, inr (r l).1, (r l).2)

pub counting_in : (t a n : ℕ) → a ≤ t → t < a + n → Among t (range_with_len a n)
counting_in t a zero lo hi = absurd (omega arith)
counting_in t a (suc n) lo hi = elim (cases_lt a t) [ inl l ↦ inr (counting_in t (a + 1) n (omega arith) (omega arith)) | inr g ↦ inl (omega arith) ]

pub counting_out : (t a n : ℕ) → Among t (range_with_len a n) → (a ≤ t) × (t < a + n)
counting_out t a zero m = absurd m
counting_out t a (suc n) (inl e) = (omega arith, omega arith)
counting_out t a (suc n) (inr m) = let r = counting_out t (a + 1) n m in (omega arith, omega arith)

pub periods_in_in : (t : ℕ) (w : Window) → w.earliest ≤ t → t ≤ w.latest → Among t (periods_in w)
periods_in_in t w lo hi = counting_in t w.earliest (w.latest + 1 - w.earliest) lo (omega arith)

pub periods_in_out : (t : ℕ) (w : Window) → Among t (periods_in w) → (w.earliest ≤ t) × (t ≤ w.latest)
periods_in_out t w m = let r = counting_out t w.earliest (w.latest + 1 - w.earliest) m in (r.0, omega arith)

-- The schedules of windows are those that lie in them.
pub schedules_in : (x : List ℕ) (ws : List Window) → Lies x ws → Among x (schedules ws)
schedules_in [] [] l = inl refl
schedules_in [] (w ∷ ws) l = lies_empty l
schedules_in (a ∷ x) [] l = absurd (let e = l.same_size in omega arith)
schedules_in (a ∷ x) (w ∷ ws) l = joined_in (λ t. map (λ y. t ∷ y) (schedules ws)) (a ∷ x) a (periods_in w) (periods_in_in a w (lies_low l) (lies_high l)) (map_in (λ y. a ∷ y) x (schedules ws) (schedules_in x ws (lies_tail l)))

pub schedules_out : (x : List ℕ) (ws : List Window) → Among x (schedules ws) → Lies x ws
schedules_out x [] (inl e) = subst (λ (y : List ℕ). Lies y []) e (record { same_size = refl; not_before = λ k h. absurd (omega arith); not_after = λ k h. absurd (omega arith) })
schedules_out x [] (inr m) = absurd m
schedules_out x (w ∷ ws) m =
    let j = joined_out (λ t. map (λ y. t ∷ y) (schedules ws)) x (periods_in w) m in
    let p = map_out (λ y. j.0 ∷ y) x (schedules ws) j.2 in
    let b = periods_in_out j.0 w j.1 in
    subst (λ (y : List ℕ). Lies y (w ∷ ws)) p.2 (lies_cons j.0 p.0 w ws b.0 b.1 (schedules_out p.0 ws p.1))
