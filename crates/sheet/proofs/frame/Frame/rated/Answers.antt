use Rattle.std.proofs.lemmas.Result.{err_from_is_err_and}
use Rattle.sheet.proofs.Fills.{rated_refused}
use Rattle.sheet.proofs.frame.Frame.rated.Goals as goal

pub returns-in_err-fill : goal.returns-in_err-fill
returns-in_err-fill c =
    let s = c.args.self.now in
    let p = err_from_is_err_and c.from_residual.result c.from_residual.ensures.1 in
    let h = rw c.size-size.ensures at c.in_err-fill.ensures.0 in
    rw (p.1, p.2) (rated_refused s.bytes.now s.head s.framed _ _ _ c.capacities.ensures c.column-dues.ensures c.rates-rates.ensures c.in_err-fill.field-0.0 h)
