-- Worked figures: small tasks with the answers that they must have, over the definitions that the contracts cite.
use Rattle.std.specs.Prelude.{◌≡◌, ℕ, Bool, List, [], ◌∷◌, replicate, Some, None, Option}
use Rattle.windows.specs.declared.window.Window.{Window}
use Rattle.windows.specs.Refusals.{struck}
use Rattle.windows.specs.WindowSets.{WindowSet, window}
use Rattle.rule.specs.Meaning.{Meaning}
use Rattle.rule.specs.Narrowing.{narrow_checks}
use Rattle.flat.specs.Rules.{slots, flat}
use Rattle.rated.specs.Rates.{rated}
use Rattle.runs.specs.declared.phase.Phase.TheVariants.{Running, Done}
use Rattle.runs.specs.Run.{Plan, State, Call, «open», step, tighten, checks, after}

-- A figure: the cut of some windows under a cap, their floor, the state that a list of calls leaves (the newest call first), or
-- the number of the first check of a call that strikes.
pub data Figure : Type 0 where
  cut_is : Meaning → WindowSet → ℕ → Option WindowSet → Figure
  floor_is : Meaning → WindowSet → ℕ → Figure
  run_ends_in : Meaning → List Call → State → Figure
  refused_by : List (ℕ × Bool) → ℕ → Figure

abbrev pub Holds : Figure → Type 0
Holds (cut_is m w limit o) = m.cut w limit ≡ o
Holds (floor_is m w charge) = m.floor w ≡ charge
Holds (run_ends_in m cs s) = after m cs ≡ s
Holds (refused_by cs number) = struck cs ≡ number

-- Every figure of a list holds.
abbrev pub AllHold : List Figure → Type 0
AllHold [] = Unit {0}
AllHold (f ∷ fs) = Holds f × AllHold fs

-- Windows over T periods.
abbrev pub over : ℕ → List Window → WindowSet
over T ws = record { periods = T; each = ws }

-- A search without open parts.
abbrev pub ended : ℕ → Option Plan → State
ended limit plan = record { phase = Done; cap = limit; parts = []; plan = plan }

-- Flat: five batches over eight periods of capacity 1.
abbrev pub five : Meaning
five = flat 5 8 (replicate 8 1) (3 ∷ 6 ∷ 7 ∷ 7 ∷ 8 ∷ [])

abbrev pub five_windows : WindowSet
five_windows = over 8 (window 1 3 ∷ window 1 6 ∷ window 1 7 ∷ window 1 7 ∷ window 1 8 ∷ [])

-- Slots: three batches over four periods, of which the first takes none.
abbrev pub three : Meaning
three = slots 3 4 (0 ∷ 1 ∷ 1 ∷ 1 ∷ [])

-- Rated: six batches over eight periods, of which the third takes none; and four batches over four periods.
abbrev pub six : Meaning
six = rated 6 8 (1 ∷ 1 ∷ 0 ∷ 1 ∷ 1 ∷ 1 ∷ 1 ∷ 1 ∷ []) (4 ∷ 5 ∷ 4 ∷ 5 ∷ 8 ∷ 8 ∷ []) (3 ∷ 10 ∷ 4 ∷ 2 ∷ 2 ∷ 4 ∷ [])

abbrev pub six_windows : WindowSet
six_windows = over 8 (window 1 4 ∷ window 1 5 ∷ window 1 4 ∷ window 1 5 ∷ window 1 8 ∷ window 1 8 ∷ [])

abbrev pub four : Meaning
four = rated 4 4 (replicate 4 1) (4 ∷ 3 ∷ 3 ∷ 4 ∷ []) (1 ∷ 10 ∷ 20 ∷ 2 ∷ [])

abbrev pub four_windows : WindowSet
four_windows = over 4 (window 1 4 ∷ window 1 3 ∷ window 1 3 ∷ window 1 4 ∷ [])

-- Flat in a search: two batches over two periods of capacity 1, opened under the cap 5; after two steps one part is open.
abbrev pub two : Meaning
two = flat 2 2 (1 ∷ 1 ∷ []) (2 ∷ 2 ∷ [])

abbrev pub two_opened : List Call
two_opened = «open» (over 2 (window 1 2 ∷ window 1 2 ∷ [])) 5 ∷ []

abbrev pub two_plan : Plan
two_plan = record { schedule = 2 ∷ 1 ∷ []; charge = 1 }

-- Slots without batches in a search.
abbrev pub empty : Meaning
empty = slots 0 1 (0 ∷ [])

abbrev pub empty_stepped : List Call
empty_stepped = step ∷ «open» (over 1 []) 7 ∷ []

abbrev pub figures : List Figure
figures =
    cut_is five five_windows 4 (Some (over 8 (window 1 3 ∷ window 4 6 ∷ window 4 7 ∷ window 4 7 ∷ window 8 8 ∷ []))) ∷
    (floor_is five five_windows 2 ∷
    (cut_is five five_windows 1 None ∷
    (refused_by (narrow_checks five 1 five_windows) 9 ∷
    (cut_is three (over 4 (window 3 4 ∷ window 3 4 ∷ window 1 4 ∷ [])) 0 (Some (over 4 (window 3 4 ∷ window 3 4 ∷ window 2 2 ∷ []))) ∷
    (floor_is six six_windows 16 ∷
    (cut_is four four_windows 20 (Some (over 4 (window 1 4 ∷ window 2 2 ∷ window 3 3 ∷ window 1 4 ∷ []))) ∷
    (run_ends_in two (step ∷ step ∷ two_opened) (record { phase = Running; cap = 5; parts = over 2 (window 1 1 ∷ window 1 2 ∷ []) ∷ []; plan = Some two_plan }) ∷
    (run_ends_in two (step ∷ step ∷ step ∷ two_opened) (ended 5 (Some two_plan)) ∷
    (run_ends_in two (tighten 1 ∷ step ∷ step ∷ step ∷ two_opened) (ended 1 (Some two_plan)) ∷
    (run_ends_in two (tighten 0 ∷ tighten 1 ∷ step ∷ step ∷ step ∷ two_opened) (ended 0 None) ∷
    (run_ends_in empty empty_stepped (ended 7 (Some (record { schedule = []; charge = 0 }))) ∷
    (refused_by (checks empty (after empty empty_stepped) step) 11 ∷ []))))))))))))
