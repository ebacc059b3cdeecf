use Rattle.std.proofs.Common.{arith}
use Rattle.line.proofs.Best.{front_of_best}
use Rattle.line.proofs.head.front.Goals as goal

pub returns : goal.returns
returns g c = front_of_best g.E.Waits.leads c.args.line.now c.loop-i.i c.loop-i.best (omega arith) c.loop-i.invariant
