use Rattle.std.proofs.Common.{sym, refl}
use Rattle.sweep.specs.Held.{listed}
use Rattle.sweep.proofs.Narrowed.{pinned_listed, in_window}
use Rattle.sweep.proofs.batches.Batches.pinned.Goals as goal

pub returns : goal.returns
returns c =
    let b = c.args.self.now in
    let i = c.args.batch in
    let o = c.in_ok-window.window in
    let e = sym c.in_ok-window.ensures in
    (pinned_listed b i c.args.period o e, refl, in_window (listed b) i c.args.period o e c.if-period-window.false c.if-window-period.false)
