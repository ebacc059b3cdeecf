use Rattle.std.proofs.lemmas.Result.{err_from_is_err_and}
use Rattle.sheet.proofs.Fills.{reload_refused}
use Rattle.sheet.proofs.frame.Frame.reload.Goals as goal

pub returns-in_err-fill : goal.returns-in_err-fill
returns-in_err-fill c =
    let s = c.args.self.now in
    let p = err_from_is_err_and c.from_residual.result c.from_residual.ensures.1 in
    let h = rw (c.size-size.ensures, c.charge_count-square.ensures) at c.in_err-fill.ensures.0 in
    rw (p.1, p.2) (reload_refused s.bytes.now s.head s.framed _ _ c.column-kinds.ensures c.charge_table-charges.ensures c.in_err-fill.field-0.0 h)
