use Rattle.std.proofs.Common.{take, refl, arith}
use Rattle.std.proofs.lemmas.Option.{MatchOption-at_none, MatchOption-at_some}
use Rattle.std.proofs.lemmas.Result.{err_from_is_err_and}
use Rattle.flat.proofs.Cutting.{none_cut, full_cut, filled_cut}
use Rattle.flat.proofs.flat.Flat.cut.Goals as goal

pub returns-in_err-batches : goal.returns-in_err-batches
returns-in_err-batches c =
    let p = err_from_is_err_and c.from_residual.result c.from_residual.ensures.1 in
    let none = c.in_err-batches.ensures.ok_part in
    rw (p.1, p.2) (none_cut c.args.self.now c.args.windows.now c.args.limit (MatchOption-at_none _ _ none c.batches.ensures), grind arith, refl)

pub returns-in_err-ends : goal.returns-in_err-ends
returns-in_err-ends c =
    let p = err_from_is_err_and c.from_residual-in_err-ends.result c.from_residual-in_err-ends.ensures.1 in
    let clips = MatchOption-at_some _ _ _ c.in_ok-batches.ensures.ok_part c.batches.ensures in
    rw (p.1, p.2) (full_cut c.args.self.now c.args.windows.now c.in_ok-batches.batches clips c.args.limit (MatchOption-at_none _ _ c.in_err-ends.ensures.ok_part c.ends.ensures), grind arith, refl)

pub returns : goal.returns
returns c =
    let size = c.size-size.result in
    let e = c.in_ok-ends.ends in
    let clips = MatchOption-at_some _ _ _ c.in_ok-batches.ensures.ok_part c.batches.ensures in
    filled_cut c.args.self.now c.args.windows.now c.in_ok-batches.batches clips c.args.limit size.batches size.periods (take size.batches e.earliest) (take size.batches e.latest) e
    c.size-size.ensures.batches c.size-size.ensures.periods refl refl (MatchOption-at_some _ _ _ c.in_ok-ends.ensures.ok_part c.ends.ensures) c.fill.new.self c.fill.result c.fill.ensures
