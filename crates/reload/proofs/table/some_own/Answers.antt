use Rattle.std.proofs.Common.{not, eqb, rules, arith}
use Rattle.reload.specs.Loads.{reload_charge}
use Rattle.reload.proofs.Counting.{any_up}
use Rattle.reload.proofs.table.some_own.Goals as goal

pub returns : goal.returns
returns c =
    let K = c.args.kinds_count in
    let q = c.args.charges.now in
    any_up (λ a. not (eqb (reload_charge K q a a) 0)) (λ v b k e. search rules) c.new.result 1 K c.new.ensures.exhausted c.new.ensures.start (omega (arith, c.new.ensures.end)) c.any.result c.any.ensures.runs
