use Rattle.std.proofs.Common.{Some, ap, ◌∙◌}
use Rattle.flat.proofs.Cutting.{none_least, some_least, full_least}
use Rattle.flat.proofs.flat.Flat.least_waited.Goals as goal

pub returns-in_err-batches : goal.returns-in_err-batches
returns-in_err-batches c = rw c.from_residual.ensures (none_least c.args.self.now c.args.windows.now c.in_err-batches.ensures)

pub returns-in_err-placed : goal.returns-in_err-placed
returns-in_err-placed c = rw c.from_residual-in_err-placed.ensures (full_least c.args.self.now c.args.windows.now c.in_ok-batches.batches c.in_ok-batches.ensures c.in_err-placed.ensures)

pub returns : goal.returns
returns c = ap Some c.waited.ensures ∙ some_least c.args.self.now c.args.windows.now c.in_ok-batches.batches c.in_ok-batches.ensures c.in_ok-placed.placed c.in_ok-placed.ensures
