use Rattle.std.proofs.Common.{ℕ, ◌+◌, ◌*◌, List, get_or, ap, ◌∙◌, arith}
use Rattle.sheet.specs.Layout.{batch_bytes}
use Rattle.sheet.specs.Reading.{place_of}
use Rattle.sheet.proofs.Fronts.{front_is}
use Rattle.sheet.proofs.frame.Frame.column.Goals as goal

pub returns : goal.returns
returns c =
    let s = c.args.self.now in
    front_is (λ (k : ℕ). get_or (batch_bytes s.bytes.now) (6 * k + place_of c.args.field) 0) s.head.batches _ c.loop-k.table s.framed.head.batches (omega (arith, c.loop-k.invariant.0, s.framed.few))
    (λ k h. c.loop-k.invariant.1 k (omega arith) ∙ ap (λ (l : List ℕ). get_or l (6 * k + place_of c.args.field) 0) c.batches-batches.ensures)
