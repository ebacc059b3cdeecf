use Rattle.std.proofs.Common.{ℕ, ◌≡◌, ◌<◌, length, take, refl, ap, ◌∙◌, subst, arith}
use Rattle.sweep.specs.Charges.{at, opened, relaxed, Sound}
use Rattle.sweep.specs.Held.{listed}
use Rattle.sweep.proofs.Sounds.{length_listed, listed_sound}
use Rattle.sweep.proofs.Opened.{opened_front, opened_sound}
use Rattle.sweep.proofs.batches.Batches.relaxed.Goals as goal
use Rattle.sweep.proofs.batches.Batches.relaxed.Goals.{After-loop-k}

each_opened : (c : After-loop-k) → (k : ℕ) → k < length (listed c.args.self.now) → at c.loop-k.each k ≡ opened (at (listed c.args.self.now) k)
each_opened c k h =
    let e = c.each-old-items.ensures.all in
    c.loop-k.invariant.1 k (omega (arith, ap length e)) ∙ ap (λ bs. opened (at bs k)) e

pub invariant_of-result : goal.invariant_of-result
invariant_of-result c =
    let b = c.args.self.now in
    let a = (goal.at.invariant_of-result c).After-loop-k in record {
      long = c.loop-k.invariant.0;
      sound = subst (λ n. Sound n b.last c.loop-k.each) (length_listed b) (opened_sound (length (listed b)) b.last (listed b) c.loop-k.each (each_opened a) (listed_sound b));
    }

pub returns : goal.returns
returns c =
    let b = c.args.self.now in
    let a = (goal.at.returns c).After-loop-k in
    (subst (λ n. take n c.loop-k.each ≡ relaxed (listed b)) (length_listed b) (opened_front (listed b) c.loop-k.each (omega (arith, length_listed b, b.sound.few, c.loop-k.invariant.0)) (each_opened a)), refl)
