-- The order of schedules by the first batch where they differ.
use Rattle.std.proofs.Common.{◌≡◌, ℕ, zero, suc, ◌<◌, ◌⊎◌, List, [], ◌∷◌, length, get_or, sym, refl, subst, inl, inr, suc-le-suc, le_of_suc-le-suc, arith}
use native.Mathlib.Nat.{suc_inj}
use Rattle.std.proofs.lemmas.Bool.{cases_order}
use Rattle.runs.specs.Law.{Later}

pub later_here : (a b : ℕ) (x y : List ℕ) → b < a → Later (a ∷ x) (b ∷ y)
later_here a b x y h = record { at = 0; within = omega arith; same = λ j l. absurd (omega arith); more = h }

pub later_cons : (a b : ℕ) (x y : List ℕ) → a ≡ b → Later x y → Later (a ∷ x) (b ∷ y)
later_cons a b x y e l = record { at = suc l.at; within = suc-le-suc l.within; same = same; more = l.more }
  where
    same : (j : ℕ) → j < suc l.at → get_or (a ∷ x) j 0 ≡ get_or (b ∷ y) j 0
    same zero h = e
    same (suc j) h = l.same j (le_of_suc-le-suc h)

pub not_both_later : (x y : List ℕ) → Later x y → Later y x → ⊥
not_both_later x y l r = elim (cases_order l.at r.at) [
  | inl e ↦ omega (arith, l.more, subst (λ (k : ℕ). get_or x k 0 < get_or y k 0) (sym e) r.more)
  | inr (inl h) ↦ omega (arith, l.more, r.same l.at h)
  | inr (inr h) ↦ omega (arith, r.more, l.same r.at h)
]

pub three_ways : (x y : List ℕ) → length x ≡ length y → (x ≡ y) ⊎ (Later x y ⊎ Later y x)
three_ways [] [] e = inl refl
three_ways [] (b ∷ y) e = absurd (omega arith)
three_ways (a ∷ x) [] e = absurd (omega arith)
three_ways (a ∷ x) (b ∷ y) e = by_head (cases_order a b) (three_ways x y (suc_inj e))
  where
    by_tail : a ≡ b → (x ≡ y) ⊎ (Later x y ⊎ Later y x) → ((a ∷ x) ≡ (b ∷ y)) ⊎ (Later (a ∷ x) (b ∷ y) ⊎ Later (b ∷ y) (a ∷ x))
    by_tail h (inl t) = inl (cc)
    by_tail h (inr (inl t)) = inr (inl (later_cons a b x y h t))
    by_tail h (inr (inr t)) = inr (inr (later_cons b a y x (sym h) t))

    by_head : (a ≡ b) ⊎ ((a < b) ⊎ (b < a)) → (x ≡ y) ⊎ (Later x y ⊎ Later y x) → ((a ∷ x) ≡ (b ∷ y)) ⊎ (Later (a ∷ x) (b ∷ y) ⊎ Later (b ∷ y) (a ∷ x))
    by_head (inl h) t = by_tail h t
    by_head (inr (inl h)) t = inr (inr (later_here b a y x h))
    by_head (inr (inr h)) t = inr (inl (later_here a b x y h))
