use Rattle.std.proofs.Common.{ℕ, ◌<◌, true, false, length, Decides, ap, ◌∙◌, subst, arith, length-set}
use Rattle.windows.specs.Filling.{set_of}
use Rattle.windows.proofs.Held.{held_proper}
use Rattle.rated.specs.Ends.{Outermost}
use Rattle.rated.specs.Measures.{Affords}
use Rattle.rated.proofs.Scanned.{each_written, none_more, none_found, outermost_found}
use Rattle.rated.proofs.measure.Forcing.outermost.Goals as goal

-- that the period asked about is the one stepped to is left to arithmetic, in each of the three
pub batches-preserved : goal.batches-preserved
batches-preserved c =
    let f = c.args.self.now in
    let i = c.batches.batch in
    let v = c.inward-period.result in
    let inv = c.loop-steps.invariant in
    let w = c.args.windows.now in
    let same = c.each-window-items.ensures in
    let inside : i < length (set_of w).each = omega (arith, ap length same) in
    let o = outermost_found f c.loop-steps.self inv.back c.args.end c.each-window-items.result.now (set_of w).each same i c.loop-steps.steps v c.inward-period.ensures inv.none ((held_proper w).holds i inside) c.loop-steps-test.true (subst (λ p. Decides true (Affords c.loop-steps.self i p)) (omega arith) c.if-affords.ensures.told) in
    record {
      back = c.affords.ensures.back ∙ inv.back;
      long = omega (arith, length-set {A = ℕ}, ap length inv.kept);
      each = each_written (Outermost c.args.end f (set_of w).each) c.batches.found c.loop-steps.found i v inv.kept (omega (arith, (held_proper w).few, ap length inv.kept)) c.batches.invariant.each o;
    }

pub loop-steps-preserved : goal.loop-steps-preserved
loop-steps-preserved c =
    let inv = c.loop-steps.invariant in
    record {
      back = c.affords.ensures.back ∙ inv.back;
      kept = inv.kept;
      none = none_more c.args.self.now c.loop-steps.self inv.back c.args.end c.each-window-items.result.now (set_of c.args.windows.now).each c.each-window-items.ensures c.batches.batch c.loop-steps.steps c.inward-period.result c.inward-period.ensures inv.none
          (subst (λ p. Decides false (Affords c.loop-steps.self c.batches.batch p)) (omega arith) c.if-affords.ensures.told);
    }

pub returns-else-affords-clause-found : goal.returns-else-affords-clause-found
returns-else-affords-clause-found c =
    let inv = c.loop-steps.invariant in
    let inside : c.batches.batch < length (set_of c.args.windows.now).each = omega (arith, ap length c.each-window-items.ensures) in
    none_found c.args.self.now c.loop-steps.self inv.back c.args.end c.each-window-items.result.now (set_of c.args.windows.now).each c.each-window-items.ensures c.batches.batch c.loop-steps.steps c.inward-period.result c.inward-period.ensures inv.none inside (omega arith)
    (subst (λ p. Decides false (Affords c.loop-steps.self c.batches.batch p)) (omega arith) c.if-affords.ensures.told)
