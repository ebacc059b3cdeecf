use Rattle.std.proofs.Common.{ap, ◌∙◌}
use Rattle.wake.proofs.Narrows.{same_fits, few, rated_answered}
use Rattle.wake.proofs.tables.Tables.by_rated.Goals as goal

pub narrowed-requires : goal.narrowed-requires
narrowed-requires c =
    let s = c.args.self.now.size in
    ap (λ m. m.fits s.batches s.periods) c.in_ok-fill.ensures.1 ∙ same_fits s.batches s.periods

pub returns : goal.returns
returns c =
    let t = c.args.self.now in
    let f = c.in_ok-fill.ensures in
    let n = t.size.batches in
    rated_answered n t.size.periods t.limit c.args.capacities.now c.args.dues.now t.earliest.now t.latest.now _ c.narrowed.result t.sized t.starts t.ends c.narrowed.ensures _ c.args.rates.now c.if-rates-batches.false (c.rate_table-rates.ensures n (few n t.size.periods t.sized)) f.0 f.1
