use Rattle.std.proofs.Common.{ℕ, ◌+◌, ◌*◌, List, ap, ◌∙◌, arith}
use Rattle.sheet.specs.Layout.{word, batch_bytes}
use Rattle.sheet.proofs.Fronts.{front_is}
use Rattle.sheet.proofs.frame.Frame.rates.Goals as goal

pub returns : goal.returns
returns c =
    let s = c.args.self.now in
    front_is (λ (k : ℕ). word 2 (batch_bytes s.bytes.now) (6 * k + 4)) s.head.batches _ c.loop-k.table s.framed.head.batches (omega (arith, c.loop-k.invariant.0, s.framed.few))
    (λ k h. c.loop-k.invariant.1 k (omega arith) ∙ ap (λ (l : List ℕ). word 2 l (6 * k + 4)) c.batches-batches.ensures)
