use Rattle.std.proofs.Common.{ℕ, ◌<◌, get_or, ap, ◌∙◌, arith}
use Rattle.windows.specs.Filling.{paired}
use Rattle.windows.proofs.Fills.{Good, good, each_good, pairs_taken, accepted}
use Rattle.windows.proofs.windows.Windows.fill.Goals as goal

pub invariant_of-self : goal.invariant_of-self
invariant_of-self c =
    let es = c.args.earliest.now in
    let ls = c.args.latest.now in
    let n = c.args.size.batches in
    let T = c.args.size.periods in
    let e = c.in_ok-extent.extent in
    let held = c.in_ok-extent.ensures in
    let ok = accepted n T es ls held.0 in
    let at = λ (k : ℕ) (h : k < e.batches). c.loop-k.invariant.1 k (omega (arith, ok.starts, held.1)) in
    let good-at : (k : ℕ) → k < e.batches → Good T (get_or es k 0) (get_or ls k 0) =
    λ k h. good T (get_or es k 0) (get_or ls k 0) (each_good T es ls (omega (arith, ok.starts, ok.ends)) ok.good k (omega (arith, ok.starts, held.1))) in record {
      long = c.loop-k.invariant.0;
      starts = (λ k h. omega (arith, ap (λ w. w.earliest) (at k h), (good-at k h).starts));
      holds = (λ k h. omega (arith, ap (λ w. w.earliest) (at k h), ap (λ w. w.latest) (at k h), (good-at k h).holds));
      ends = (λ k h. omega (arith, ap (λ w. w.latest) (at k h), (good-at k h).ends, held.2));
    }

pub returns : goal.returns
returns c =
    let es = c.args.earliest.now in
    let ls = c.args.latest.now in
    let e = c.in_ok-extent.extent in
    let held = c.in_ok-extent.ensures in
    let ok = accepted c.args.size.batches c.args.size.periods es ls held.0 in (
      held.0,
      ap (λ ws. record { periods = e.periods; each = ws }) (pairs_taken e.batches c.loop-k.each es ls (omega (arith, c.loop-k.invariant.0, e.few)) (omega (arith, ok.starts, held.1)) (omega (arith, ok.ends, held.1)) (λ k h. c.loop-k.invariant.1 k (omega (arith, ok.starts, held.1))))
          ∙ ap (λ (P : ℕ). record { periods = P; each = paired es ls }) held.2,
    )
