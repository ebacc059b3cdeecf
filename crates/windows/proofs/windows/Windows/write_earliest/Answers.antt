use Rattle.std.proofs.Common.{arith}
use Rattle.windows.proofs.Halving.{write_window}
use Rattle.windows.proofs.windows.Windows.write_earliest.Goals as goal

pub loop-batch-preserved : goal.loop-batch-preserved
loop-batch-preserved c = write_window _ c.args.memory.now c.loop-batch.memory c.loop-batch.batch (omega arith) (omega arith) c.loop-batch.invariant
