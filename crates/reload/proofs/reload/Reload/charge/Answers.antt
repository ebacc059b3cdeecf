use Rattle.std.proofs.Common.{◌∙◌, arith}
use Rattle.std.proofs.lemmas.List.{length-map}
use Rattle.reload.specs.Rules.{places_of}
use Rattle.reload.proofs.Drawing.{draws_opens, turn_skips, turn_draws, turn_fits}
use Rattle.reload.proofs.reload.Reload.charge.Goals as goal

pub loop-window-init : goal.loop-window-init
loop-window-init c =
    let each = c.args.each.now in
    draws_opens c.args.self.now (places_of each) (length-map each (λ w. w.earliest) ∙ c.requires) c.loop-t.t c.loop-t.total c.loop-t.before c.loop-t-test.true c.loop-t.invariant

pub overflow_add-total : goal.overflow_add-total
overflow_add-total c =
    omega (
      arith,
      turn_fits c.args.self.now c.args.each.now c.loop-window.yielded c.into_iter-window-iterator.result c.loop-window.window-iterator c.next.new.self c.next.result (cc) (cc) c.loop-window.yielded_by (c.in-Some.window, c.in-Some.field-0-1) c.in-Some.is c.next.ensures.steps
          c.requires c.loop-t.t c.loop-window.total c.loop-window.before c.loop-window.invariant c.if-window-t.true c.load-total.result c.load-total.ensures,
    )

pub loop-window-preserved-then-window-t : goal.loop-window-preserved-then-window-t
loop-window-preserved-then-window-t c =
    turn_draws c.args.self.now c.args.each.now c.loop-window.yielded c.into_iter-window-iterator.result c.loop-window.window-iterator c.next.new.self c.next.result (cc) (cc) c.loop-window.yielded_by (c.in-Some.window, c.in-Some.field-0-1) c.in-Some.is c.next.ensures.steps
    c.requires c.loop-t.t c.loop-window.total c.loop-window.before c.loop-window.invariant c.if-window-t.true c.load-total.result c.load-total.ensures

pub loop-window-preserved : goal.loop-window-preserved
loop-window-preserved c =
    turn_skips c.args.self.now c.args.each.now c.loop-window.yielded c.into_iter-window-iterator.result c.loop-window.window-iterator c.next.new.self c.next.result (cc) (cc) c.loop-window.yielded_by (c.in-Some.window, c.in-Some.field-0-1) c.in-Some.is c.next.ensures.steps
    c.requires c.loop-t.t c.loop-window.total c.loop-window.before c.loop-window.invariant c.if-window-t.false
