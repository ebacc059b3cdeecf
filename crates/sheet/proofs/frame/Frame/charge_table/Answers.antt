use Rattle.std.proofs.Common.{ℕ, ◌*◌, List, ap, ◌∙◌, arith}
use Rattle.reload.specs.Tables.{square_most}
use Rattle.sheet.specs.Layout.{word, charge_bytes}
use Rattle.sheet.proofs.Fronts.{front_is, entry_more}
use Rattle.sheet.proofs.frame.Frame.charge_table.Goals as goal

pub loop-k-preserved : goal.loop-k-preserved
loop-k-preserved c =
    let s = c.args.self.now in
    entry_more (λ (k : ℕ). word 2 c.charges-charges.result.now (2 * k)) 64 c.loop-k.k c.number_at.result c.loop-k.table (omega (arith, c.charge_count-k-end.ensures, square_most s.head.kinds s.framed.kinds_most)) c.number_at.ensures c.loop-k.invariant

pub returns : goal.returns
returns c =
    let s = c.args.self.now in
    front_is (λ (k : ℕ). word 2 (charge_bytes s.bytes.now) (2 * k)) (s.head.kinds * s.head.kinds) _ c.loop-k.table (ap (λ (k : ℕ). k * k) s.framed.head.kinds) (omega (arith, c.loop-k.invariant.0, square_most s.head.kinds s.framed.kinds_most))
    (λ k h. c.loop-k.invariant.1 k (omega (arith, c.charge_count-k-end.ensures)) ∙ ap (λ (l : List ℕ). word 2 l (2 * k)) c.charges-charges.ensures)
