use Rattle.std.proofs.Common.{arith}
use Rattle.search.proofs.Tables.{stack_push, room_one}
use Rattle.search.proofs.inner.Inner.start.Goals as goal

pub invariant_of-self-clause-room : goal.invariant_of-self-clause-room
invariant_of-self-clause-room c = rw (stack_push c.args.self.now.parts 0 c.args.windows.now (omega (arith, c.args.self.now.long))) (room_one c.args.windows.now)
