use Rattle.std.proofs.Common.{◌≡◌, ◌-◌, refl, ◌∙◌, subst, inl, inr, ⊎_elim, arith, length-set}
use Rattle.std.proofs.lemmas.Bool.{cases_lt}
use Rattle.sweep.specs.Charges.{latest_at, capacity_at}
use Rattle.sweep.specs.Held.{listed}
use Rattle.sweep.proofs.Runs.{Going, Filled, going_start, going_put, going_close, going_stuck, going_done}
use Rattle.sweep.proofs.batches.Batches.sweep.Given as given
use Rattle.sweep.proofs.batches.Batches.sweep.Goals as goal
use Rattle.sweep.proofs.batches.Batches.sweep.Goals.{Left-loop, else-loop-test, then-loop-test+in_default}

pub loop-period-init : goal.loop-period-init
loop-period-init g c = (refl, omega arith, going_start g.E.Waits.leads g.E.Waits.made c.args.self.now c.args.capacities.now)

pub loop-preserved : goal.loop-preserved
loop-preserved g c = (
  length-set c.loop.placed c.in-Some.next c.loop-period.period ∙ c.loop.invariant.0,
  going_put g.E.Waits.leads g.E.Waits.made c.args.self.now c.args.capacities.now c.requires.order c.loop-period.period _ _ c.in-Some.next c.loop.placed
      c.loop.invariant.1 (omega (arith, c.loop-period-test.true)) (omega (arith, c.loop-test.true)) c.in-Some.ensures,
)

filled : (g : given.Over) (c : Left-loop g) → Filled c.args.self.now c.loop-period.period (capacity_at c.args.capacities.now c.loop-period.period - c.loop.counter) c.loop.placed
filled g c =
    elim c.loop-test.branch [
      | else-loop-test w ↦ inl (omega (arith, w.loop-test.false))
      | then-loop-test+in_default w ↦ inr (λ k h pk. ⊎_elim (λ l. l) (λ l. absurd (w.in_default.ensures k h (pk, l))) (cases_lt (latest_at (listed c.args.self.now) k) c.loop-period.period))
    ]

pub returns-then-some_stranded : goal.returns-then-some_stranded
returns-then-some_stranded g c =
    going_stuck g.E.Waits.leads g.E.Waits.made c.args.self.now c.args.capacities.now c.loop-period.period _ c.loop.placed
    c.loop.invariant.1 (omega (arith, c.loop-period-test.true)) (filled g (goal.at.returns-then-some_stranded g c).Left-loop) c.if-some_stranded.ensures

pub loop-period-preserved : goal.loop-period-preserved
loop-period-preserved g c = (
  c.loop.invariant.0,
  omega (arith, c.loop-period.invariant.1),
  going_close g.E.Waits.leads g.E.Waits.made c.args.self.now c.args.capacities.now c.loop-period.period _ c.loop.placed
      c.loop.invariant.1 (omega (arith, c.loop-period-test.true)) (filled g (goal.at.loop-period-preserved g c).Left-loop) c.if-some_stranded.ensures,
)

pub returns : goal.returns
returns g c =
    let cs = c.args.capacities.now in
    let zero : c.loop-period.period ≡ 0 = omega (arith, c.loop-period-test.false) in
    going_done g.E.Waits.leads g.E.Waits.made c.args.self.now cs _ c.loop-period.placed c.loop-period.invariant.0
    (subst (λ a. Going g.E.Waits.leads g.E.Waits.made c.args.self.now cs a (capacity_at cs a) c.loop-period.placed) zero c.loop-period.invariant.2)
