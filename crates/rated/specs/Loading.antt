-- What Rated was filled with, and the checks of its fill.
use Rattle.std.specs.Prelude.{ℕ, Bool, not, ◌&&◌, ◌||◌, List, [], ◌∷◌, length, take, ◌==◌}
use Rattle.windows.specs.Sizes.{out_of_size}
use Rattle.rule.specs.Meaning.{Meaning}
use Rattle.rule.specs.Tables.{outside}
use Rattle.rated.specs.declared.rated.Rated.{Rated}
use Rattle.rated.specs.Rates.{rated}

-- The greatest rate.
abbrev pub max_rate : ℕ
max_rate = 10000

-- The meaning of the code's rule.
abbrev pub rated_of : Rated → Meaning
rated_of r = rated r.extent.batches r.extent.periods (take r.extent.periods r.capacities) (take r.extent.batches r.dues) (take r.extent.batches r.rates)

-- n and T, then the lengths of the lists, then each capacity, 0 to 32, each due period, 1 to T, and each rate.
abbrev pub rated_checks : ℕ → ℕ → List ℕ → List ℕ → List ℕ → List (ℕ × Bool)
rated_checks n T cs ds rs =
    (3, out_of_size n T) ∷
    ((4, not (length cs == T && (length ds == n && length rs == n))) ∷
    ((5, outside 0 32 cs || (outside 1 T ds || outside 0 max_rate rs)) ∷ []))
