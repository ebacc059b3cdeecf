use Rattle.std.proofs.Common.{◌≡◌, take}
use Rattle.windows.specs.Filling.{set_of}
use Rattle.windows.specs.Halves.{first_periods}
use Rattle.wake.specs.Exports.{last_periods}
use Rattle.wake.proofs.tables.writing.write_windows.Given as goal

abbrev pub invariant-loop-batch : goal.invariant-loop-batch
invariant-loop-batch l =
    (take l.batch l.earliest ≡ first_periods (take l.batch (set_of l.windows).each)) × (take l.batch l.latest ≡ last_periods (take l.batch (set_of l.windows).each))
