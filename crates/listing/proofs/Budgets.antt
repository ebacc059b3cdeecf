-- Steps under a budget.
use Rattle.std.proofs.Common.{◌≡◌, ℕ, zero, suc, ◌+◌, ◌-◌, ◌<◌, true, false, refl, ap, ◌∙◌, arith}
use Rattle.std.proofs.lemmas.Bool.{cond-true, cond-false}
use Rattle.rule.specs.Meaning.{Meaning}
use Rattle.runs.specs.Run.{State, step, is_done, next}
use Rattle.listing.specs.Running.{steps_until_done}

pub none_left : (m : Meaning) (k : ℕ) (s : State) → k ≡ 0 → steps_until_done m k s ≡ s
unfolding steps_until_done
none_left m zero s e = refl
none_left m (suc k) s e = absurd (omega arith)

pub at_end : (m : Meaning) (k : ℕ) (s : State) → is_done s.phase ≡ true → steps_until_done m k s ≡ s
unfolding steps_until_done
at_end m zero s e = refl
at_end m (suc k) s e = cond-true (is_done s.phase) s _ e

pub one_more : (m : Meaning) (k : ℕ) (s : State) → is_done s.phase ≡ false → steps_until_done m (suc k) s ≡ steps_until_done m k (next m s step)
unfolding steps_until_done
one_more m k s e = cond-false (is_done s.phase) s _ e

pub goes_on : (m : Meaning) (k i : ℕ) (s : State) → i < k → is_done s.phase ≡ false → steps_until_done m (k - i) s ≡ steps_until_done m (k - (i + 1)) (next m s step)
goes_on m k i s h e = let q : k - i ≡ suc (k - (i + 1)) = omega arith in ap (λ (j : ℕ). steps_until_done m j s) q ∙ one_more m (k - (i + 1)) s e
