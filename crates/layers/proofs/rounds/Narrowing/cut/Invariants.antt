use Rattle.std.proofs.Common.{◌≡◌}
use Rattle.windows.specs.Filling.{set_of}
use Rattle.layers.specs.Layers.{slack, pair}
use Rattle.layers.proofs.rounds.Narrowing.cut.Given as goal

-- The windows now and those at the start have the same cut.
abbrev pub invariant-loop-after : goal.invariant-loop-after
invariant-loop-after g l =
    let n = l.before in
    let s = l.fn.self in
    (pair (g.L.Rule.meaning n.left.now) (g.R.Rule.meaning n.right.now)).cut (set_of n.windows) n.limit
    ≡ (pair (g.L.Rule.meaning s.left.now) (g.R.Rule.meaning s.right.now)).cut (set_of s.windows) s.limit

abbrev pub decreases-loop-after : goal.decreases-loop-after
decreases-loop-after g l = slack (set_of l.before.windows).each
