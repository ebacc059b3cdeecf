use Rattle.std.proofs.Common.{◌≡◌, sym, subst, rules}
use Rattle.windows.specs.Filling.{set_of}
use Rattle.windows.proofs.Held.{held_proper}
use Rattle.search.specs.Held.{state}
use Rattle.listing.specs.Running.{searched, Ended}
use Rattle.listing.proofs.Reached.{ended}
use Rattle.listing.proofs.Readings.{plan_sized, opened}
use Rattle.listing.proofs.running.search_for.Given as given
use Rattle.listing.proofs.running.search_for.Goals as goal
use Rattle.listing.proofs.running.search_for.Goals.{After-run}

-- What is known of the state that the run leaves.
known : (g : given.Over) (c : After-run g) → Ended (g.R.Rule.meaning c.args.rule) (record { windows = set_of c.args.windows.now; cap = c.args.limit }) 1000000 (state c.run.new.search.inner)
known g c =
    let m = g.R.Rule.meaning c.args.rule in
    let w = set_of c.args.windows.now in
    let came : state c.run.new.search.inner ≡ searched m w c.args.limit 1000000 = search rules in
    subst (Ended m (record { windows = w; cap = c.args.limit }) 1000000) (sym came) (ended m (g.met.R.Rule.lawful c.args.rule) w c.args.limit 1000000 (held_proper c.args.windows.now) (opened m w c.args.limit (search rules)))

pub held_plan-plan-requires-clause-awake : goal.held_plan-plan-requires-clause-awake
held_plan-plan-requires-clause-awake g c = (known g (goal.at.held_plan-plan-requires-clause-awake g c).After-run).awake

pub held_plan-plan-requires-clause-sized : goal.held_plan-plan-requires-clause-sized
held_plan-plan-requires-clause-sized g c =
    let e = known g (goal.at.held_plan-plan-requires-clause-sized g c).After-run in
    rw c.batches.ensures (plan_sized (g.R.Rule.meaning c.args.rule) (record { windows = set_of c.args.windows.now; cap = c.args.limit }) _ (state c.run.new.search.inner).plan e.kept)

pub returns-then-eq-clause-ended : goal.returns-then-eq-clause-ended
returns-then-eq-clause-ended g c = ended (g.R.Rule.meaning c.args.rule) (g.met.R.Rule.lawful c.args.rule) (set_of c.args.windows.now) c.args.limit 1000000 (held_proper c.args.windows.now)

pub returns-clause-ended : goal.returns-clause-ended
returns-clause-ended g c = ended (g.R.Rule.meaning c.args.rule) (g.met.R.Rule.lawful c.args.rule) (set_of c.args.windows.now) c.args.limit 1000000 (held_proper c.args.windows.now)
