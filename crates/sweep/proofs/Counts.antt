-- What a write does to a count and to a total.
use Rattle.std.proofs.Common.{◌≡◌, ℕ, zero, suc, ◌+◌, ◌<◌, ◌≤◌, cond, eqb, List, [], ◌∷◌, length, get_or, take, set, replicate, sym, refl, subst, ⊎_elim, add-zero, arith, get_or-set_other, get_or-set_same}
use Rattle.std.proofs.lemmas.Bool.{eq-eqb, ne_eqb, cases_eq, cases_lt, cond-true, cond-false}
use Rattle.windows.specs.Schedules.{count}
use Rattle.sweep.specs.Feasible.{total}

-- what a period v adds to the count of t
abbrev pub hit : ℕ → ℕ → ℕ
hit t v = cond (eqb v t) 1 0

pub hit_is : (t x : ℕ) → x ≡ t → hit t x ≡ 1
hit_is t x e = cond-true (eqb x t) 1 0 (eq-eqb x t e)

pub hit_other : (t x : ℕ) → (x ≡ t → ⊥) → hit t x ≡ 0
hit_other t x ne = cond-false (eqb x t) 1 0 (ne_eqb x t ne)

pub count_set : (s : ℕ) (xs : List ℕ) (i v : ℕ) → i < length xs → count s (set xs i v) + hit s (get_or xs i 0) ≡ count s xs + hit s v
count_set s [] i v h = absurd (omega arith)
count_set s (x ∷ xs) zero v h = omega arith
count_set s (x ∷ xs) (suc i) v h = omega (arith, count_set s xs i v (omega arith))

pub total_set : (f : ℕ → ℕ → ℕ) (j : ℕ) (xs : List ℕ) (i v : ℕ) → i < length xs → total f j (set xs i v) + f (j + i) (get_or xs i 0) ≡ total f j xs + f (j + i) v
total_set f j [] i v h = absurd (omega arith)
total_set f j (x ∷ xs) zero v h = rw add-zero (omega arith)
total_set f j (x ∷ xs) (suc i) v h =
    let e : suc j + i ≡ j + suc i = omega arith in
    let r = rw e at (total_set f (suc j) xs i v (omega arith)) in
    omega arith

-- what holds of the write and of each other place holds of every place
pub set_each : (P : ℕ → ℕ → Type 0) (xs : List ℕ) (i v : ℕ) → i < length xs → P i v → ((k : ℕ) → (k ≡ i → ⊥) → P k (get_or xs k 0)) → (k : ℕ) → P k (get_or (set xs i v) k 0)
set_each P xs i v h here others k =
    ⊎_elim
    (λ e. subst (λ a. P a (get_or (set xs i v) a 0)) (sym e) (subst (P i) (sym (get_or-set_same xs i v 0 h)) here))
    (λ ne. subst (P k) (sym (get_or-set_other xs i k v 0 ne)) (others k ne))
    (cases_eq k i)

-- where ys has t more often than xs, some place has it in ys alone
pub more_here : (t : ℕ) → 1 ≤ t → (xs ys : List ℕ) → count t xs < count t ys → (k : ℕ) × (k < length ys) × (get_or ys k 0 ≡ t) × (get_or xs k 0 ≡ t → ⊥)
more_here t pos xs [] h = absurd (omega arith)
more_here t pos [] (y ∷ ys) h =
    ⊎_elim
    (λ e. (0, omega arith, e, λ z. omega arith))
    (λ ne. let r = more_here t pos [] ys (omega (arith, hit_other t y ne)) in (suc r.0, omega (arith, r.1), r.2, λ z. omega arith))
    (cases_eq y t)
more_here t pos (x ∷ xs) (y ∷ ys) h =
    ⊎_elim
    (λ e. ⊎_elim
    (λ e'. let r = more_here t pos xs ys (omega (arith, hit_is t y e, hit_is t x e')) in (suc r.0, omega (arith, r.1), r.2, r.3))
    (λ ne. (0, omega arith, e, ne))
    (cases_eq x t))
    (λ ne. let r = more_here t pos xs ys (omega (arith, hit_other t y ne)) in (suc r.0, omega (arith, r.1), r.2, r.3))
    (cases_eq y t)

-- where ys has t in each place that xs has it, ys has it at least as often
pub count_mono : (t : ℕ) → 1 ≤ t → (xs ys : List ℕ) → ((k : ℕ) → get_or xs k 0 ≡ t → get_or ys k 0 ≡ t) → count t xs ≤ count t ys
count_mono t pos xs ys same =
    ⊎_elim (λ h. let r = more_here t pos ys xs h in absurd (r.3 (same r.0 r.2))) (λ h. h) (cases_lt (count t ys) (count t xs))

pub count_take : (s n : ℕ) (xs : List ℕ) → count s (take n xs) ≤ count s xs
count_take s zero xs = omega arith
count_take s (suc n) [] = omega arith
count_take s (suc n) (x ∷ xs) = omega (arith, count_take s n xs)

pub count_none : (s n : ℕ) → 1 ≤ s → count s (replicate n 0) ≡ 0
count_none s zero pos = refl
count_none s (suc n) pos = omega (arith, count_none s n pos, hit_other s 0 (omega arith))
