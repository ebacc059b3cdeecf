-- Tests of the entries of a list, and tables that begin with a list.
use Rattle.std.proofs.Common.{◌≡◌, ℕ, zero, suc, ◌+◌, ◌-◌, ◌<◌, ◌≤◌, min, Bool, true, false, ◌||◌, ltb, List, [], ◌∷◌, ◌++◌, length, get_or, take, drop, replicate, sym, refl, ap, ◌∙◌, ⊎_elim, arith}
use Rattle.std.proofs.lemmas.List.{ext_get_or, get_or-take, get_or-replicate, get_or_append_left, get_or-append_right, get_or_past, length-append, length-take-le, length-replicate, drop-replicate, take-replicate, take-append-le, append-nil}
use Rattle.std.proofs.Math.Seq.{take-length, take-append-add}
use Rattle.std.proofs.lemmas.Bool.{or_left, or_right, or_from, or_parts, cases_lt}
use Rattle.std.proofs.lemmas.Bool.Decides.{nat_tests}
use Rattle.std.specs.List.{list_any}
use Rattle.rule.specs.Tables.{outside}

pub some_here : {X : Type 0} (p : X → Bool) (vs : List X) (d : X) (k : ℕ) → k < length vs → p (get_or vs k d) ≡ true → list_any p vs ≡ true
some_here p [] d k h t = absurd (omega arith)
some_here p (v ∷ vs) d zero h t = or_left (p v) (list_any p vs) t
some_here p (v ∷ vs) d (suc k) h t = or_right (p v) (list_any p vs) (some_here p vs d k (omega arith) t)

pub none_some : {X : Type 0} (p : X → Bool) (vs : List X) (d : X) → ((k : ℕ) → k < length vs → p (get_or vs k d) ≡ false) → list_any p vs ≡ false
none_some p [] d h = refl
none_some p (v ∷ vs) d h = or_from (p v) (list_any p vs) (h 0 (omega arith)) (none_some p vs d (λ k b. h (suc k) (omega arith)))

pub each_not : {X : Type 0} (p : X → Bool) (vs : List X) (d : X) → list_any p vs ≡ false → (k : ℕ) → k < length vs → p (get_or vs k d) ≡ false
each_not p [] d e k h = absurd (omega arith)
each_not p (v ∷ vs) d e zero h = (or_parts (p v) (list_any p vs) e).0
each_not p (v ∷ vs) d e (suc k) h = each_not p vs d (or_parts (p v) (list_any p vs) e).1 k (omega arith)

-- Each entry of a list of which none is outside lies within the limits.
pub each_inside : (a b : ℕ) (vs : List ℕ) → outside a b vs ≡ false → (k : ℕ) → k < length vs → (a ≤ get_or vs k 0) × (get_or vs k 0 ≤ b)
each_inside a b vs e k h =
    let n = each_not (λ v. ltb v a || ltb b v) vs 0 e k h in
    let p = or_parts (ltb (get_or vs k 0) a) (ltb b (get_or vs k 0)) n in
    (grind (arith, nat_tests), grind (arith, nat_tests))

-- Tables of zeros.
pub length_zeros : (n : ℕ) → length {A = ℕ} (replicate n 0) ≡ n
length_zeros n = length-replicate n 0

pub zeros : (n k : ℕ) → get_or {A = ℕ} (replicate n 0) k 0 ≡ 0
zeros n k = ⊎_elim (λ h. get_or-replicate n k 0 0 h) (λ h. get_or_past (replicate n 0) k 0 (omega (arith, length_zeros n))) (cases_lt k n)

-- A table of one number.
pub repeated_most : (n a k : ℕ) → get_or {A = ℕ} (replicate n a) k 0 ≤ a
repeated_most n a k = ⊎_elim (λ h. omega (arith, get_or-replicate {A = ℕ} n k a 0 h)) (λ h. omega (arith, get_or_past {X = ℕ} (replicate n a) k 0 (omega (arith, length-replicate {A = ℕ} n a)))) (cases_lt k n)

-- The entries of a list with zeros after it.
pub padded_at : (n : ℕ) (vs : List ℕ) (k : ℕ) → get_or (vs ++ replicate n 0) k 0 ≡ get_or vs k 0
padded_at n vs k =
    ⊎_elim
    (λ h. get_or_append_left vs (replicate n 0) 0 k h)
    (λ h. get_or-append_right vs (replicate n 0) (length vs) k 0 refl h ∙ zeros n (k - length vs) ∙ sym (get_or_past vs k 0 h))
    (cases_lt k (length vs))

-- A table of blanks with a list copied over its start.
pub padded_is : {X : Type 0} (n m : ℕ) (vs : List X) (b : X) → m ≡ min (length vs) n → take m vs ++ drop m (replicate n b) ≡ take n (vs ++ replicate n b)
padded_is n m vs b is = ⊎_elim short long (cases_lt (length vs) n)
  where
    short : length vs < n → take m vs ++ drop m (replicate n b) ≡ take n (vs ++ replicate n b)
    short h =
        let k = n - length vs in
        let e : m ≡ length vs = omega arith in
        let f : n ≡ length vs + k = omega arith in
        ap (λ j. take j vs ++ drop j (replicate n b)) e
        ∙ ap (λ s. s ++ drop (length vs) (replicate n b)) (take-length vs)
        ∙ ap (λ s. vs ++ s) (drop-replicate (length vs) n b ∙ sym (take-replicate k n b (omega arith)))
        ∙ sym (ap (λ j. take j (vs ++ replicate n b)) f ∙ take-append-add vs (replicate n b) k)

    long : n ≤ length vs → take m vs ++ drop m (replicate n b) ≡ take n (vs ++ replicate n b)
    long h =
        let e : m ≡ n = omega arith in
        let z : n - n ≡ 0 = omega arith in
        ap (λ j. take j vs ++ drop j (replicate n b)) e
        ∙ ap (λ s. take n vs ++ s) (drop-replicate n n b ∙ ap (λ j. replicate j b) z)
        ∙ append-nil (take n vs)
        ∙ sym (take-append-le n vs (replicate n b) h)

-- The table of a list that is not too long begins with the list.
pub length_padded : (n : ℕ) (vs : List ℕ) → length (take n (vs ++ replicate n 0)) ≡ n
length_padded n vs = length-take-le n (vs ++ replicate n 0) (omega (arith, length-append vs (replicate n 0), length_zeros n))

pub padded_entry : (n : ℕ) (vs : List ℕ) (k : ℕ) → k < n → get_or (take n (vs ++ replicate n 0)) k 0 ≡ get_or vs k 0
padded_entry n vs k h = get_or-take n (vs ++ replicate n 0) k 0 h ∙ padded_at n vs k

pub padded_front : (n m : ℕ) (vs : List ℕ) → length vs ≡ m → m ≤ n → take m (take n (vs ++ replicate n 0)) ≡ vs
padded_front n m vs is h =
    let table = take n (vs ++ replicate n 0) in
    let l = length-take-le m table (omega (arith, length_padded n vs)) in
    ext_get_or 0 (take m table) vs (l ∙ sym is) (λ k b. get_or-take m table k 0 (omega arith) ∙ padded_entry n vs k (omega arith))

-- It keeps a bound on the list's entries.
pub padded_most : (n b : ℕ) (vs : List ℕ) → ((k : ℕ) → k < length vs → get_or vs k 0 ≤ b) → (k : ℕ) → get_or (take n (vs ++ replicate n 0)) k 0 ≤ b
padded_most n b vs h k =
    ⊎_elim
    (λ inn. ⊎_elim
    (λ here. omega (arith, padded_entry n vs k inn, h k here))
    (λ past. omega (arith, padded_entry n vs k inn, get_or_past vs k 0 past))
    (cases_lt k (length vs)))
    (λ out. omega (arith, get_or_past (take n (vs ++ replicate n 0)) k 0 (omega (arith, length_padded n vs))))
    (cases_lt k n)
