-- The front of a line.
use Rattle.std.proofs.Common.{◌≡◌, ℕ, Bool, List, length, Some, None, Option, arith, MatchOption}
use Rattle.std.specs.List.{IsFirstBest}
use Rattle.line.specs.Fronts.{Front}

-- the first best of a whole line is its front
pub front_of_best : {X : Type 0} (leads : X → X → Bool) (xs : List X) (i : ℕ) (best : Option ℕ) → i ≡ length xs →
    MatchOption best (i ≡ 0) (λ p. IsFirstBest leads xs i p) → MatchOption best (length xs ≡ 0) (λ p. Front leads xs p)
front_of_best leads xs i None all h = omega arith
front_of_best leads xs i (Some p) all h = record {
  inside = omega (arith, h.0);
  unled = λ k d l. h.1 k d (omega arith);
  first = λ q l. (p, omega (arith, h.0), λ d. h.2 q d l);
}
