use Rattle.windows.specs.Filling.{set_of}
use Rattle.windows.proofs.Held.{held_proper}
use Rattle.layers.proofs.Settling.{Onward, settled, onward}
use Rattle.layers.proofs.rounds.Narrowing.cut.Given as given
use Rattle.layers.proofs.rounds.Narrowing.cut.Goals as goal

another : (g : given.Over) (c : goal.Else-slack g) → let n = c.loop-after.before in Onward (g.L.Rule.meaning n.left.now) (g.R.Rule.meaning n.right.now) n.limit (set_of n.windows) (set_of c.in_ok-after.after.windows)
another g c =
    let n = c.loop-after.before in
    onward (g.L.Rule.meaning n.left.now) (g.R.Rule.meaning n.right.now) (g.met.L.Rule.lawful n.left.now) (g.met.R.Rule.lawful n.right.now) n.limit n.low (set_of n.windows) (set_of c.in_ok-after.after.windows) (held_proper n.windows) c.in_ok-after.ensures.windows
    (λ e. c.if-slack.false (cc))

pub loop-after-smaller : goal.loop-after-smaller
loop-after-smaller g c = (another g c).less

pub loop-after-preserved : goal.loop-after-preserved
loop-after-preserved g c =
    let i = c.loop-after.invariant in
    let o = (another g c).same_cut in
    let s = c.in_ok-after.ensures.same in
    cc

pub returns-then-slack : goal.returns-then-slack
returns-then-slack g c =
    let n = c.loop-after.before in
    let i = c.loop-after.invariant in
    let e = settled (g.L.Rule.meaning n.left.now) (g.R.Rule.meaning n.right.now) (g.met.L.Rule.lawful n.left.now) (g.met.R.Rule.lawful n.right.now) n.limit n.low (set_of n.windows) (set_of c.in_ok-after.after.windows) (held_proper n.windows) c.in_ok-after.ensures.windows (cc) in
    cc
