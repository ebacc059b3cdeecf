-- The two ends of a window.
use Rattle.std.specs.Prelude.{ℕ, ◌+◌, ◌-◌, List}
use Rattle.windows.specs.declared.window.Window.{Window}
use Rattle.rated.specs.declared.measure.Forcing.{Forcing}
use Rattle.rated.specs.declared.scan.End.{End}
use Rattle.rated.specs.declared.scan.End.TheVariants.{Earliest, Latest}
use Rattle.rated.specs.Measures.{First, Final}

-- The period so many steps inward from one end of a window from a to z.
abbrev pub inward : End → ℕ → ℕ → ℕ → ℕ
inward Earliest a z steps = a + steps
inward Latest a z steps = z - steps

-- v is the outermost period, from one end of the window of batch k, into which the batch can be forced up to the cap.
abbrev pub Outermost : End → Forcing → List Window → ℕ → ℕ → Type 0
Outermost Earliest f ws k v = First f ws k v
Outermost Latest f ws k v = Final f ws k v
