use Rattle.std.proofs.Common.{◌≡◌, ◌++◌, take, drop}
use Rattle.windows.specs.Halves.{first_periods}
use Rattle.windows.proofs.windows.Windows.write_earliest.Given as goal

abbrev pub invariant-loop-batch : goal.invariant-loop-batch
invariant-loop-batch l = l.memory ≡ take l.batch (first_periods l.windows) ++ drop l.batch l.initial.memory
