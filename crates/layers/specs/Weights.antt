-- What making a weight answers.
use Rattle.std.specs.Prelude.{◌≡◌, ℕ, Bool, ◌||◌, List, [], ◌∷◌, Ok, Err, Result, nat_lt}
use Rattle.windows.specs.declared.refusal.Refusal.{Refusal}
use Rattle.windows.specs.Refusals.{number, struck}
use Rattle.layers.specs.declared.weight.Weight.{Weight}

-- A weight is 1 to 100.
abbrev pub weight_checks : ℕ → List (ℕ × Bool)
weight_checks value = (3, nat_lt value 1 || nat_lt 100 value) ∷ []

-- The weight has the value, or the refusal's number is that of the check that strikes.
abbrev pub Weighed : ℕ → Result Weight Refusal → Type 0
Weighed value (Ok w) = (struck (weight_checks value) ≡ 0) × (w.value ≡ value)
Weighed value (Err e) = struck (weight_checks value) ≡ number e
