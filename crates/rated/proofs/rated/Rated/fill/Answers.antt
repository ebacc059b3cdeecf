use Rattle.std.proofs.Common.{take, sym, ap, ◌∙◌, arith}
use Rattle.windows.specs.Refusals.{struck}
use Rattle.windows.proofs.Fills.{at_extent}
use Rattle.rule.specs.Tables.{outside}
use Rattle.rated.specs.Loading.{rated_checks}
use Rattle.rated.specs.Rates.{rated}
use Rattle.rated.proofs.Loads.{accepted, tables}
use Rattle.rated.proofs.rated.Rated.fill.Goals as goal

pub invariant_of-self : goal.invariant_of-self
invariant_of-self c =
    let n = c.in_ok-extent.extent.batches in
    let T = c.in_ok-extent.extent.periods in
    let cs = c.args.capacities.now in
    let ds = c.args.dues.now in
    let rs = c.args.rates.now in
    let held = c.in_ok-extent.ensures in
    let ok = accepted n T cs ds rs (sym (at_extent (λ m P. struck (rated_checks m P cs ds rs)) _ _ _ _ held.1 held.2 ∙ held.0)) in
    let same = tables n T cs ds rs c.padded.result c.padded-2.result c.padded-3.result ok c.padded.ensures c.padded-2.ensures c.padded-3.ensures in
    record {
      long = omega arith;
      dated = omega arith;
      priced = omega arith;
      roomy = ap (outside 0 32) same.capacities ∙ ok.roomy;
      timely = ap (outside 1 T) same.dues ∙ ok.timely;
      cheap = same.cheap;
    }

pub returns : goal.returns
returns c =
    let n = c.in_ok-extent.extent.batches in
    let T = c.in_ok-extent.extent.periods in
    let cs = c.args.capacities.now in
    let ds = c.args.dues.now in
    let rs = c.args.rates.now in
    let held = c.in_ok-extent.ensures in
    let ok = accepted n T cs ds rs (sym (at_extent (λ m P. struck (rated_checks m P cs ds rs)) _ _ _ _ held.1 held.2 ∙ held.0)) in
    let same = tables n T cs ds rs c.padded.result c.padded-2.result c.padded-3.result ok c.padded.ensures c.padded-2.ensures c.padded-3.ensures in
    (held.0, ap (λ a. rated n T a (take n c.padded-2.result) (take n c.padded-3.result)) same.capacities ∙ ap (λ a. rated n T cs a (take n c.padded-3.result)) same.dues ∙ ap (rated n T cs ds) same.rates ∙ at_extent (λ m P. rated m P cs ds rs) _ _ _ _ held.1 held.2)
