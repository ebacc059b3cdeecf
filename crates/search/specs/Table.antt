-- The table of open parts, and the room in it.
use Rattle.std.specs.Prelude.{ℕ, ◌+◌, ◌≤◌, List, [], ◌∷◌, map, reverse, length, take}
use Rattle.windows.specs.declared.windows.Windows.{Windows}
use Rattle.windows.specs.WindowSets.{WindowSet}
use Rattle.windows.specs.Filling.{set_of}
use Rattle.runs.specs.Sizes.{Sized}

-- The first n parts of a table, the newest first.
abbrev pub stack : List Windows → ℕ → List WindowSet
stack table n = reverse (map set_of (take n table))

-- Each part can be split at most as often as there is room above it for new ones.
abbrev pub Roomy : List WindowSet → Type 0
Roomy [] = Unit {0}
Roomy (p ∷ ps) = ((t : ℕ) × (t + length ps ≤ 192) × Sized p.each t) × Roomy ps
