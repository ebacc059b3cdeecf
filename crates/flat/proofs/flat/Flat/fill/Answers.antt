use Rattle.std.proofs.Common.{ℕ, ◌≤◌, List, length, get_or, take, sym, ap, ◌∙◌, subst, arith}
use Rattle.windows.specs.Refusals.{struck}
use Rattle.windows.proofs.Fills.{at_extent}
use Rattle.rule.proofs.Entries.{padded_front, padded_most, length_padded, each_inside}
use Rattle.flat.specs.Rules.{flat}
use Rattle.flat.specs.Loading.{flat_checks}
use Rattle.flat.proofs.Fills.{flat_accepted}
use Rattle.flat.proofs.flat.Flat.fill.Goals as goal

pub invariant_of-self : goal.invariant_of-self
invariant_of-self c =
    let T = c.args.size.periods in
    let ds = c.args.dues.now in
    let ok = flat_accepted c.args.size.batches T c.args.capacities.now ds c.in_ok-extent.ensures.0 in
    let is = c.padded-2.ensures in record {
      dated = ap length is ∙ length_padded 32 ds;
      soon = (λ k. subst (λ (ts : List ℕ). get_or ts k 0 ≤ 64) (sym is) (padded_most 32 64 ds (λ j h. omega (arith, ok.most, (each_inside 1 T ds ok.timely j h).1)) k));
    }

pub returns : goal.returns
returns c =
    let e = c.in_ok-extent.extent in
    let held = c.in_ok-extent.ensures in
    let cs = c.args.capacities.now in
    let ds = c.args.dues.now in
    let ok = flat_accepted e.batches e.periods cs ds (at_extent (λ n T. struck (flat_checks n T cs ds)) _ _ _ _ held.1 held.2 ∙ held.0) in
    let caps = (ap (take e.periods) c.padded.ensures ∙ padded_front 64 e.periods cs ok.rooms e.most) in
    let dues = (ap (take e.batches) c.padded-2.ensures ∙ padded_front 32 e.batches ds ok.dated e.few) in (
      held.0,
      ap (λ a. flat e.batches e.periods a (take e.batches c.padded-2.result)) caps ∙ ap (flat e.batches e.periods cs) dues ∙ at_extent (λ n T. flat n T cs ds) _ _ _ _ held.1 held.2,
    )
