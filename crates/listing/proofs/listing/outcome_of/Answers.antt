use Rattle.std.proofs.Common.{rules}
use Rattle.windows.specs.Filling.{set_of}
use Rattle.windows.proofs.Held.{held_proper}
use Rattle.sheet.specs.Reading.{rule_of}
use Rattle.listing.specs.Running.{result_text}
use Rattle.listing.proofs.Truths.{refused_told, accepted_told}
use Rattle.listing.proofs.listing.outcome_of.Goals as goal

pub returns-in_err-windows : goal.returns-in_err-windows
returns-in_err-windows c = search (rules, refused_told)

pub returns : goal.returns
returns c =
    let j = c.in_ok-windows.field-0 in
    let h = c.in_ok-windows.ensures in
    accepted_told c.args.sheet.now (rule_of j) (set_of j.windows) j.limit (result_text c.search_for.result) h.0 h.1.rule h.1.windows h.1.limit (held_proper j.windows) c.search_for.ensures.text c.search_for.ensures.ended
