use Rattle.std.proofs.Common.{ap, ◌∙◌}
use Rattle.flat.specs.Rules.{or_max}
use Rattle.rated.proofs.Pricing.{none_floor, some_floor, full_floor}
use Rattle.rated.proofs.rated.Rated.least.Goals as goal

pub returns-in_err-batches : goal.returns-in_err-batches
returns-in_err-batches c = ap or_max c.from_residual.ensures ∙ none_floor c.args.self.now c.args.windows.now c.in_err-batches.ensures

pub returns-in_err-placed : goal.returns-in_err-placed
returns-in_err-placed c = ap or_max c.from_residual-in_err-placed.ensures ∙ full_floor c.args.self.now c.args.windows.now c.in_ok-batches.batches c.in_ok-batches.ensures c.in_err-placed.ensures

pub returns : goal.returns
returns c = c.charge.ensures.exact ∙ some_floor c.args.self.now c.args.windows.now c.in_ok-batches.batches c.in_ok-batches.ensures c.in_ok-placed.placed c.in_ok-placed.ensures
