use Rattle.std.proofs.Common.{◌≡◌, MatchOption}
use Rattle.std.specs.List.{IsFirstBest}
use Rattle.line.proofs.head.front.Given as goal

abbrev pub invariant-loop-i : goal.invariant-loop-i
invariant-loop-i g l = MatchOption l.best (l.i ≡ 0) (λ b. IsFirstBest g.E.Waits.leads l.line l.i b)
