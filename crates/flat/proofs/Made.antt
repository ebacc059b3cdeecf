-- The elements of an array made by a closure that its calls leave as it was.
use Rattle.std.proofs.Common.{◌≡◌, ℕ, zero, suc, ◌+◌, ◌<◌, ◌≤◌, List, get_or, sym, ap, ◌∙◌, subst, ⊎_elim, arith}
use Rattle.std.specs.Fn.{Called}
use Rattle.std.specs.Array.{IsFromFnResult, IsFromFnResultFrom}
use Rattle.std.proofs.lemmas.Bool.{cases_lt}
use denote.Param.Members.{Mut}

module _ {F B : Type 0} (g : Mut F (ℕ × Unit {0}) B) (f : F) (h : ℕ → B) (ys : List B) (computes : (k : ℕ) (y : B) (q : F) → Called g f (k, tt) y q → (q ≡ f) × (y ≡ h k)) where
  made_from : (n i : ℕ) → IsFromFnResultFrom g f ys i n → (k : ℕ) (d : B) → i ≤ k → k < i + n → get_or ys k d ≡ h k
  made_from zero i made k d low high = absurd (omega arith)
  made_from (suc n) i made k d low high =
      let call = computes i made.1 made.0 made.3 in
      ⊎_elim
      (λ l. made_from n (i + 1) (subst (λ q. IsFromFnResultFrom g q ys (i + 1) n) call.0 made.4) k d (omega arith) (omega arith))
      (λ l. (let here : k ≡ i = omega arith in ap (λ j. get_or ys j d) here ∙ made.2.1 d ∙ call.1 ∙ ap h (sym here)))
      (cases_lt i k)

  pub made_at : (n : ℕ) → IsFromFnResult g f ys n → (k : ℕ) (d : B) → k < n → get_or ys k d ≡ h k
  made_at n made k d low = made_from n 0 made.each k d (omega arith) (omega arith)
