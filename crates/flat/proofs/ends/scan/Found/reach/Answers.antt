use Rattle.std.proofs.Common.{ℕ, ◌<◌, ◌≤◌, List, length, get_or, sym, subst}
use Rattle.sweep.specs.Held.{listed}
use Rattle.flat.specs.Ends.{Good, Reached}
use Rattle.flat.proofs.Found.{ends_inside, held_earliest, held_latest}
use Rattle.flat.proofs.ends.scan.Found.reach.Goals as goal

pub latest-after-requires-clause-inside : goal.latest-after-requires-clause-inside
latest-after-requires-clause-inside c =
    let f = c.hold.new.self in
    ends_inside f.sought f.ends c.args.i (subst (λ s. c.args.i < length (listed s.batches)) (sym c.hold.ensures.same) c.requires) f.supported

pub returns-clause-reached : goal.returns-clause-reached
returns-clause-reached c =
    let s = c.args.self.now.sought in
    let d = c.args.self.now.ends in
    let i = c.args.i in
    let f = c.hold.new.self in
    let same = c.hold.ensures.same in
    let one = subst (λ s. i < length (listed s.batches)) (sym same) c.requires in
    let low : (x : List ℕ) → Good f.sought x → get_or f.ends.earliest i 0 ≤ get_or x i 0 = λ x good.
    held_earliest s d f.ends i c.requires c.earliest-before.result c.earliest-before.ensures c.hold.ensures.held x (subst (λ s. Good s x) same good) in
    subst (λ s. Reached s c.hold-2.new.self.ends i) (sym c.hold-2.ensures.same) (held_latest f.sought f.ends c.hold-2.new.self.ends i one c.latest-after.result c.latest-after.ensures c.hold-2.ensures.held low)
