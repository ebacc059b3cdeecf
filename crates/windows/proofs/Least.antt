-- The least of a list: attained, and below all.
use Rattle.std.proofs.Common.{◌≡◌, ℕ, ◌≤◌, min, List, [], ◌∷◌, Some, None, sym, refl, ap, subst, inl, inr, arith}
use Rattle.std.proofs.lemmas.Bool.{cases_lt}
use Rattle.windows.specs.Schedules.{least_of, least}
use Rattle.windows.specs.Hulls.{Among, Least}
use Rattle.windows.proofs.Hulls.{some_inj, not_some}

least_cons : (a : ℕ) (xs : List ℕ) → Least (a ∷ xs) (least_of a xs)
least_cons a [] = record { attained = inl refl; below = λ b m. elim m [ inl e ↦ omega arith | inr n ↦ absurd n ] }
least_cons a (b ∷ xs) = go (least_cons (min a b) xs)
  where
    go : Least (min a b ∷ xs) (least_of (min a b) xs) → Least (a ∷ (b ∷ xs)) (least_of (min a b) xs)
    go r = record { attained = found r.attained; below = below }
      where
        first : (c : ℕ) → min a b ≡ c → Among c (a ∷ (b ∷ xs))
        first c e = elim (cases_lt b a) [ inl l ↦ inr (inl (omega arith)) | inr g ↦ inl (omega arith) ]

        found : Among (least_of (min a b) xs) (min a b ∷ xs) → Among (least_of (min a b) xs) (a ∷ (b ∷ xs))
        found (inl e) = first (least_of (min a b) xs) e
        found (inr m) = inr (inr m)

        below : (c : ℕ) → Among c (a ∷ (b ∷ xs)) → least_of (min a b) xs ≤ c
        below c (inl e) = omega (arith, r.below (min a b) (inl refl))
        below c (inr (inl e)) = omega (arith, r.below (min a b) (inl refl))
        below c (inr (inr m)) = r.below c (inr m)

pub least_some : (xs : List ℕ) (a : ℕ) → least xs ≡ Some a → Least xs a
least_some [] a e = absurd (not_some a e)
least_some (b ∷ xs) a e = subst (λ (c : ℕ). Least (b ∷ xs) c) (some_inj (least_of b xs) a e) (least_cons b xs)

pub least_none : (xs : List ℕ) (b : ℕ) → least xs ≡ None → Among b xs → ⊥
least_none [] b e m = m
least_none (a ∷ xs) b e m = not_some (least_of a xs) (sym e)

pub least_unique : (xs : List ℕ) (a b : ℕ) → Least xs a → Least xs b → a ≡ b
least_unique xs a b p q = omega (arith, p.below b q.attained, q.below a p.attained)

pub least_is : (xs : List ℕ) (a : ℕ) → Least xs a → least xs ≡ Some a
least_is [] a l = absurd l.attained
least_is (b ∷ xs) a l = ap (λ (c : ℕ). Some c) (least_unique (b ∷ xs) (least_of b xs) a (least_cons b xs) l)

pub least_empty : (xs : List ℕ) → ((b : ℕ) → Among b xs → ⊥) → least xs ≡ None
least_empty [] e = refl
least_empty (b ∷ xs) e = absurd (e b (inl refl))
