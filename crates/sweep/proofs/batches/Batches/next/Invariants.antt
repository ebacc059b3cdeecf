use Rattle.std.proofs.Common.{◌≡◌, length}
use Rattle.sweep.specs.Turns.{Waiting, element}
use Rattle.sweep.proofs.Lines.{Line}
use Rattle.sweep.proofs.batches.Batches.next.Given as goal

abbrev pub invariant-loop-k : goal.invariant-loop-k
invariant-loop-k g l = (length l.line ≡ 32) × Line (element g.E.Waits.made l.batch-items) (Waiting l.batch-items l.placed l.period) l.k l.count l.line
