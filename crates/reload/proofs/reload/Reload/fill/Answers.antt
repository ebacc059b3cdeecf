use Rattle.std.proofs.Common.{◌≡◌, ℕ, ◌*◌, ◌<◌, ◌≤◌, ltb, List, length, get_or, take, sym, ap, ◌∙◌, subst, arith}
use Rattle.std.proofs.lemmas.Bool.{ltb-false}
use Rattle.windows.specs.Refusals.{struck}
use Rattle.windows.proofs.Fills.{at_extent}
use Rattle.rule.proofs.Entries.{each_not, each_inside, padded_entry, padded_front, padded_most, length_padded}
use Rattle.reload.specs.Rules.{reload}
use Rattle.reload.specs.Loading.{reload_checks}
use Rattle.reload.specs.Tables.{square_most}
use Rattle.reload.proofs.Fills.{reload_accepted}
use Rattle.reload.proofs.reload.Reload.fill.Goals as goal

pub invariant_of-self : goal.invariant_of-self
invariant_of-self c =
    let K = c.args.kinds_count in
    let ks = c.args.kinds.now in
    let q = c.args.charges.now in
    let ok = reload_accepted c.in_ok-extent.extent.batches c.in_ok-extent.extent.periods K ks q (at_extent (λ m P. struck (reload_checks m P K ks q)) _ _ _ _ c.in_ok-extent.ensures.1 c.in_ok-extent.ensures.2 ∙ c.in_ok-extent.ensures.0) in
    let same : (k : ℕ) → k < c.in_ok-extent.extent.batches → get_or c.padded.result k 0 ≡ get_or ks k 0 = λ k h. ap (λ ts. get_or ts k 0) c.padded.ensures ∙ padded_entry 32 ks k (omega (arith, ok.few)) in
    let inside : (k : ℕ) → k < c.in_ok-extent.extent.batches → (1 ≤ get_or ks k 0) × (get_or ks k 0 ≤ K) = λ k h. each_inside 1 K ks ok.known k (omega (arith, ok.each)) in
    let low : (k : ℕ) → k < length q → get_or q k 0 ≤ 10000 = λ k h. ltb-false 10000 (get_or q k 0) (each_not (λ v. ltb 10000 v) q 0 ok.low k h) in record {
      long = ap length c.padded.ensures ∙ length_padded 32 ks;
      square = ap length c.padded-2.ensures ∙ length_padded 64 q;
      eight = ok.eight;
      named = (λ k h. omega (arith, same k h, (inside k h).0));
      known = (λ k h. omega (arith, same k h, (inside k h).1));
      low = (λ k. subst (λ (ts : List ℕ). get_or ts k 0 ≤ 10000) (sym c.padded-2.ensures) (padded_most 64 10000 q low k));
    }

pub returns : goal.returns
returns c =
    let n = c.in_ok-extent.extent.batches in
    let T = c.in_ok-extent.extent.periods in
    let K = c.args.kinds_count in
    let ks = c.args.kinds.now in
    let q = c.args.charges.now in
    let ok = reload_accepted n T K ks q (at_extent (λ m P. struck (reload_checks m P K ks q)) _ _ _ _ c.in_ok-extent.ensures.1 c.in_ok-extent.ensures.2 ∙ c.in_ok-extent.ensures.0) in
    let kinds = ap (take n) c.padded.ensures ∙ padded_front 32 n ks ok.each ok.few in
    let charges = ap (take (K * K)) c.padded-2.ensures ∙ padded_front 64 (K * K) q ok.square (square_most K ok.eight) in (
      c.in_ok-extent.ensures.0,
      ap (λ a. reload n T K a (take (K * K) c.padded-2.result)) kinds ∙ ap (reload n T K ks) charges ∙ at_extent (λ m P. reload m P K ks q) _ _ _ _ c.in_ok-extent.ensures.1 c.in_ok-extent.ensures.2,
    )
