use Rattle.std.proofs.Common.{◌≡◌, map, reverse, take}
use Rattle.runs.specs.Run.{after}
use Rattle.search.specs.Held.{state, call_of}
use Rattle.search.proofs.history.replay.Given as goal

abbrev pub invariant-loop-call : goal.invariant-loop-call
invariant-loop-call g l = record {
  same : l.search.rule ≡ l.fn.rule;
  exact : state l.search.inner ≡ after (g.R.Rule.meaning l.fn.rule) (reverse (map call_of (take l.call-index l.calls)));
}
