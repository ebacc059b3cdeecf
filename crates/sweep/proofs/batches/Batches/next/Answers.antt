use Rattle.std.proofs.Common.{◌≡◌, ◌+◌, ◌≤◌, length, set, sym, ap, ◌∙◌, subst, subst₂, arith, length-set}
use Rattle.sweep.specs.Charges.{at}
use Rattle.sweep.specs.Turns.{Waiting, Next, element}
use Rattle.sweep.proofs.Lines.{Line, line_skips, line_joins, line_next}
use Rattle.sweep.proofs.batches.Batches.next.Goals as goal
use Rattle.sweep.proofs.batches.Batches.next.Goals.{then-placed-k-eq0+then-period-batch, else-placed-k-eq0, else-placed-k-eq0-via-then-placed-k-eq0+else-period-batch, else-placed-k-eq0-via-else-placed-k-eq0}

pub loop-k-preserved : goal.loop-k-preserved
loop-k-preserved g c =
    let bs = c.each-batch-items.result.now in
    let made = element g.E.Waits.made bs in
    let waits = Waiting bs c.args.placed.now c.args.period in
    let k = c.loop-k.k in
    let m = c.loop-k.count in
    let xs = c.loop-k.line in
    let long = c.loop-k.invariant.0 in
    let line = c.loop-k.invariant.1 in
    elim c.if-placed-k-eq0.branch [
      | then-placed-k-eq0+then-period-batch w ↦
          subst₂ (λ a ys. (length ys ≡ 32) × Line made waits (k + 1) a ys) (sym w.count-is) (sym (w.line-is ∙ ap (set xs m) w.of.ensures))
          (length-set xs m (made k) ∙ long, line_joins made waits k m xs line (omega (arith, long, line.short, c.each-batch-items.ensures.few, c.loop-k-test.true)) (w.if-placed-k-eq0.true, w.if-period-batch.true))
      | else-placed-k-eq0 w ↦
          subst₂ (λ a ys. (length ys ≡ 32) × Line made waits (k + 1) a ys) (sym w.count-is) (sym w.line-is) (
            long,
            line_skips made waits k m xs line (λ h. elim w.else-placed-k-eq0.branch [
              | else-placed-k-eq0-via-then-placed-k-eq0+else-period-batch w' ↦ omega (arith, h.1)
              | else-placed-k-eq0-via-else-placed-k-eq0 w' ↦ omega (arith, h.0)
            ]),
          )
    ]

pub returns : goal.returns
returns g c =
    let bs = c.each-batch-items.result.now in
    let p = c.args.placed.now in
    let made = element g.E.Waits.made bs in
    let waits = Waiting bs p c.args.period in
    let xs = c.loop-k.line in
    let room : c.loop-k.count ≤ length xs = omega (arith, c.loop-k.invariant.0, c.loop-k.invariant.1.short, c.each-batch-items.ensures.few) in
    let r = line_next made waits g.E.Waits.leads g.E.Waits.number (λ j. g.met.E.Waits.numbered (at bs j) j) c.loop-k.k c.loop-k.count c.in_ok-front.front xs c.index-waiting-front.result c.number.result
    c.loop-k.invariant.1 room c.in_ok-front.ensures c.index-waiting-front.is c.number.ensures in
    subst (λ bs. Next g.E.Waits.leads g.E.Waits.made bs p c.args.period c.number.result) c.each-batch-items.ensures.all (record {
      inside = omega (arith, r.0);
      waits = r.1;
      unled = λ k h w. r.2 k (omega arith) w;
    })
