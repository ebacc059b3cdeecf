use Rattle.std.proofs.Common.{arith}
use Rattle.sweep.specs.Held.{listed, last_of}
use Rattle.sweep.proofs.Sounds.{listed_sound}
use Rattle.sweep.proofs.Worths.{answered}
use Rattle.sweep.proofs.batches.Batches.latest.Goals as goal

pub returns : goal.returns
returns c =
    let b = c.args.self.now in
    answered _ _ (listed b) c.args.capacities.now (last_of b) (λ _. 1) (listed_sound b) (record { rises = λ b u t _ le. omega arith; swaps = λ b k u t _ _ _ lt. omega arith }) _ c.sweep.result c.sweep.ensures
