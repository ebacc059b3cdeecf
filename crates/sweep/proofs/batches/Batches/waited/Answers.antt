use Rattle.std.proofs.Common.{ℕ, ◌-◌, ◌*◌, ◌∙◌, rules}
use Rattle.std.proofs.lemmas.Iterator.{YieldsList-from_slice, YieldsList-from_zip, YieldsList-from_map}
use Rattle.std.proofs.lemmas.Iterator.Consumers.{YieldsList-at, sum_by_from_yields_List}
use Rattle.std.specs.List.{zip}
use Rattle.line.specs.declared.batch.Batch.{Batch}
use Rattle.sweep.specs.Held.{listed}
use Rattle.sweep.proofs.Worths.{charge_sum}
use Rattle.sweep.proofs.batches.Batches.waited.Goals as goal

pub returns : goal.returns
returns c =
    let bs = c.each.result.now in
    let x = c.args.placed.now in
    let h = λ (p : Batch × ℕ). 1 * (p.0.due - p.1) in
    sum_by_from_yields_List h (zip bs x) _ _ c.sum.ensures.ran
    (YieldsList-from_map _ h (YieldsList-at c.map.ensures.source (YieldsList-from_zip (YieldsList-from_slice bs cc) (YieldsList-from_slice x cc))) c.map.ensures.closure (λ x r q k. search rules)) ∙
    charge_sum (λ _. 1) (listed c.args.self.now) bs x c.each.ensures.all
