use Rattle.flat.proofs.Found.{still_supported}
use Rattle.flat.proofs.ends.scan.Found.hold.Goals as goal

pub invariant_of-self : goal.invariant_of-self
invariant_of-self c =
    let f = c.args.self.now in
    let p = c.in-Some.placed in record { supported = still_supported f.sought f.ends c.holding-self.result p c.holding-self.ensures (c.requires p c.in-Some.is) f.supported }
