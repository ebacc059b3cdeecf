use Rattle.std.proofs.lemmas.Result.{err_from_is_err_and}
use Rattle.std.proofs.Common.{sym, ◌∙◌}
use Rattle.windows.specs.Filling.{set_of}
use Rattle.wake.proofs.Narrows.{given}
use Rattle.wake.proofs.tables.Tables.narrowed.Goals as goal

pub returns-in_err-narrow : goal.returns-in_err-narrow
returns-in_err-narrow g c =
    let t = c.args.self.now in
    let p = err_from_is_err_and c.from_residual-in_err-narrow.result c.from_residual-in_err-narrow.ensures.1 in
    let k = given (g.R.Rule.meaning c.args.rule.now) t.size.batches t.size.periods t.limit t.earliest.now t.latest.now c.fill.new.self (g.met.R.Rule.lawful c.args.rule.now) c.requires c.in_ok-fill.ensures.0 c.in_ok-fill.ensures.1 in
    rw (p.1, p.2) (k.checked ∙ c.in_err-narrow.ensures.0)

pub returns : goal.returns
returns g c =
    let t = c.args.self.now in
    let k = given (g.R.Rule.meaning c.args.rule.now) t.size.batches t.size.periods t.limit t.earliest.now t.latest.now c.fill.new.self (g.met.R.Rule.lawful c.args.rule.now) c.requires c.in_ok-fill.ensures.0 c.in_ok-fill.ensures.1 in
    let h = c.in_ok-narrow.ensures in
    (k.checked ∙ h.0, k.cut (set_of c.narrow.new.windows) h.1, k.long (set_of c.narrow.new.windows) h.1 h.0 ∙ sym t.starts)
