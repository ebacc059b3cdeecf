use Rattle.std.proofs.Common.{◌≡◌, ℕ, ◌-◌, ◌*◌, ◌^◌, ◌<◌, min, sum_by, ◌∙◌, arith, rules}
use Rattle.std.proofs.lemmas.Iterator.{YieldsList-from_slice, YieldsList-from_zip, YieldsList-from_map}
use Rattle.std.proofs.lemmas.Iterator.Consumers.{YieldsList-at, sum_by_from_yields_List}
use Rattle.std.specs.List.{zip}
use Rattle.line.specs.declared.batch.Batch.{Batch}
use Rattle.sweep.specs.Held.{listed}
use Rattle.sweep.proofs.Worths.{charge_sum, small_sum}
use Rattle.sweep.proofs.batches.Batches.charge.Goals as goal

-- the sum is that of what each pair of a batch and its period is charged
summed : (c : goal.After-sum) (h : Batch × ℕ → ℕ) → ((p : Batch × ℕ) (r : ℕ) → r ≡ p.0.rate * (p.0.due - p.1) → r < 2 ^ 40 → r ≡ h p) →
    c.sum.result ≡ sum_by h (zip c.each.result.now c.args.placed.now)
summed c h is =
    sum_by_from_yields_List h (zip c.each.result.now c.args.placed.now) _ _ c.sum.ensures.ran
    (YieldsList-from_map _ h (YieldsList-at c.map.ensures.source (YieldsList-from_zip (YieldsList-from_slice c.each.result.now cc) (YieldsList-from_slice c.args.placed.now cc)))
    c.map.ensures.closure (λ x r q k. search (rules, is)))

pub returns-clause-exact : goal.returns-clause-exact
returns-clause-exact c =
    summed c (λ p. p.0.rate * (p.0.due - p.1)) (λ p r e l. e) ∙
    charge_sum (λ b. b.rate) (listed c.args.self.now) c.each.result.now c.args.placed.now c.each.ensures.all

pub returns-clause-small : goal.returns-clause-small
returns-clause-small c =
    let f = λ (p : Batch × ℕ). p.0.rate * (p.0.due - p.1) in
    let e = summed c (λ p. min (f p) (2 ^ 40 - 1)) (λ p r e l. omega arith) in
    omega (arith, e, small_sum c.each.result.now c.args.placed.now (2 ^ 40 - 1) f, c.each.ensures.few)
