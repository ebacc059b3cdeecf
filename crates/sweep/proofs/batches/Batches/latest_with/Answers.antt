use Rattle.std.proofs.Common.{subst₂, MatchOption}
use Rattle.sweep.specs.Charges.{Impossible, Cheapest}
use Rattle.sweep.specs.Held.{listed, last_of}
use Rattle.sweep.proofs.Narrowed.{forced_answer}
use Rattle.sweep.proofs.batches.Batches.latest_with.Goals as goal

pub returns : goal.returns
returns c =
    let b = c.args.self.now in
    let cs = c.args.capacities.now in
    let r = c.latest.result in
    let held = c.in_ok-pinned.ensures in
    forced_answer (listed b) cs (last_of b) c.args.batch c.args.period held.2 r
    (subst₂ (λ bs last. MatchOption r (Impossible bs cs last) (λ p. Cheapest (λ _. 1) bs cs last p)) held.0 held.1 c.latest.ensures)
