use Rattle.std.proofs.Common.{take, ap, ◌∙◌}
use Rattle.windows.specs.Refusals.{struck}
use Rattle.windows.proofs.Fills.{at_extent}
use Rattle.rule.proofs.Entries.{padded_front}
use Rattle.flat.specs.Rules.{slots}
use Rattle.flat.specs.Loading.{slots_checks}
use Rattle.flat.proofs.Fills.{slots_accepted}
use Rattle.flat.proofs.slots.Slots.fill.Goals as goal

pub returns : goal.returns
returns c =
    let e = c.in_ok-extent.extent in
    let held = c.in_ok-extent.ensures in
    let cs = c.args.capacities.now in
    let ok = slots_accepted e.batches e.periods cs (at_extent (λ n T. struck (slots_checks n T cs)) _ _ _ _ held.1 held.2 ∙ held.0) in
    (held.0, ap (slots e.batches e.periods) (ap (take e.periods) c.padded.ensures ∙ padded_front 64 e.periods cs ok.rooms e.most) ∙ at_extent (λ n T. slots n T cs) _ _ _ _ held.1 held.2)
