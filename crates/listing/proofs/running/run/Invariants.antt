use Rattle.std.proofs.Common.{◌≡◌, ◌-◌}
use Rattle.search.specs.Held.{state}
use Rattle.listing.specs.Running.{steps_until_done}
use Rattle.listing.proofs.running.run.Given as goal

-- What is left to do is what was to do from the start.
abbrev pub invariant-loop : goal.invariant-loop
invariant-loop g l = record {
  same : l.search.rule ≡ l.initial.search.rule;
  left : steps_until_done (g.R.Rule.meaning l.initial.search.rule) l.budget (state l.initial.search.inner) ≡ steps_until_done (g.R.Rule.meaning l.initial.search.rule) (l.budget - l.counter) (state l.search.inner);
}
