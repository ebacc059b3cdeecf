use Rattle.std.proofs.Common.{not, rules, tests, ap, ◌∙◌}
use Rattle.std.proofs.lemmas.Iterator.{YieldsList-from_slice}
use Rattle.std.proofs.lemmas.Iterator.Search.{any_from_yields_List}
use Rattle.reload.proofs.Counting.{crowds, own_periods}
use Rattle.reload.proofs.schedule.apart.Goals as goal

pub returns : goal.returns
returns c =
    let T = c.args.periods in
    let each = c.args.each.now in
    ap not (any_from_yields_List (crowds T each) _ _ c.any.result c.any.ensures.ran (YieldsList-from_slice each (cc)) (λ x b q k. search (rules, tests))) ∙ own_periods T each
