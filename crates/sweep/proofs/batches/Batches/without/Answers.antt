use Rattle.std.proofs.Common.{take, refl, ap, ◌-◌, ◌∙◌, arith}
use Rattle.sweep.proofs.Removal.{removed_copied}
use Rattle.sweep.proofs.batches.Batches.without.Goals as goal

pub returns : goal.returns
returns c =
    let b = c.args.self.now in
    (ap (take (b.count - 1)) c.copy_within.ensures.after ∙ removed_copied b.each b.count c.args.batch c.if-batch-self.false (omega (arith, b.long, b.sound.few)), refl)
