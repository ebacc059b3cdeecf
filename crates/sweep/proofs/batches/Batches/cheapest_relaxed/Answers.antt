use Rattle.std.proofs.Common.{subst₂, mul-le-mul_left, MatchOption}
use Rattle.line.specs.Keyed.{keyed_behind}
use Rattle.sweep.specs.Charges.{at, Impossible, Cheapest}
use Rattle.sweep.specs.Held.{listed, last_of}
use Rattle.sweep.proofs.Sounds.{listed_sound}
use Rattle.sweep.proofs.Worths.{answered, rate_gains}
use Rattle.sweep.proofs.batches.Batches.cheapest_relaxed.Goals as goal

pub returns : goal.returns
returns c =
    let o = c.relaxed.result in
    let bs = listed o in
    let cs = c.args.capacities.now in
    let r = c.sweep.result in
    subst₂ (λ bs last. MatchOption r (Impossible bs cs last) (λ p. Cheapest (λ b. b.rate) bs cs last p)) c.relaxed.ensures.0 c.relaxed.ensures.1
    (answered _ _ bs cs (last_of o) (λ b. b.rate) (listed_sound o) (record {
      rises = λ b u t _ le. mul-le-mul_left _ le;
      swaps = λ b k u t _ _ e lt. rate_gains (at bs k).rate (at bs b).rate u t (keyed_behind (at bs k).rate k (at bs b).rate b e) lt;
    }) _ r c.sweep.ensures)
