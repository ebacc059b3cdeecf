-- What a rule was filled with, and the checks of the fill calls.
use Rattle.std.specs.Prelude.{ℕ, Bool, not, ◌&&◌, ◌||◌, List, [], ◌∷◌, length, take, ◌==◌}
use Rattle.windows.specs.Sizes.{out_of_size}
use Rattle.rule.specs.Meaning.{Meaning}
use Rattle.rule.specs.Tables.{outside}
use Rattle.flat.specs.declared.slots.Slots.{Slots}
use Rattle.flat.specs.declared.flat.Flat.{Flat}
use Rattle.flat.specs.Rules.{slots, flat}

-- The meaning of the code's rules.
abbrev pub slots_of : Slots → Meaning
slots_of s = slots s.extent.batches s.extent.periods (take s.extent.periods s.capacities)

abbrev pub flat_of : Flat → Meaning
flat_of f = flat f.slots.extent.batches f.slots.extent.periods (take f.slots.extent.periods f.slots.capacities) (take f.slots.extent.batches f.dues)

-- n and T, then the lengths of the lists, then each capacity, 0 to 32, and each due period, 1 to T.
abbrev pub slots_checks : ℕ → ℕ → List ℕ → List (ℕ × Bool)
slots_checks n T cs =
    (3, out_of_size n T) ∷
    ((4, not (length cs == T)) ∷
    ((5, outside 0 32 cs) ∷ []))

abbrev pub flat_checks : ℕ → ℕ → List ℕ → List ℕ → List (ℕ × Bool)
flat_checks n T cs ds =
    (3, out_of_size n T) ∷
    ((4, not (length cs == T && length ds == n)) ∷
    ((5, outside 0 32 cs || outside 1 T ds) ∷ []))
