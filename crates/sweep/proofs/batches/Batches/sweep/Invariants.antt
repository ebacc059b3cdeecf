use Rattle.std.proofs.Common.{◌≡◌, ◌-◌, ◌≤◌, length}
use Rattle.sweep.specs.Charges.{capacity_at}
use Rattle.sweep.specs.Held.{last_of}
use Rattle.sweep.proofs.Runs.{Going}
use Rattle.sweep.proofs.batches.Batches.sweep.Given as goal

abbrev pub invariant-loop : goal.invariant-loop
invariant-loop g l = (length l.placed ≡ 32) × Going g.E.Waits.leads g.E.Waits.made l.self l.capacities l.period (l.end - l.counter) l.placed

abbrev pub invariant-loop-period : goal.invariant-loop-period
invariant-loop-period g l = (length l.placed ≡ 32) × (l.period ≤ last_of l.self) × Going g.E.Waits.leads g.E.Waits.made l.self l.capacities l.period (capacity_at l.capacities l.period) l.placed
