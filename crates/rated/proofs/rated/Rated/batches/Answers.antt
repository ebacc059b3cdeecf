use Rattle.std.proofs.Common.{true, length, ap, arith}
use Rattle.flat.specs.Tested.{fit_known}
use Rattle.rated.proofs.Pricing.{prices}
use Rattle.rated.proofs.rated.Rated.batches.Goals as goal

pub returns : goal.returns
returns c =
    let r = c.args.self.now in
    let size = c.size-size in
    let fits = fit_known true r.extent.batches r.extent.periods _ _ size.result.batches size.result.periods c.if-not-fits.ensures size.ensures.batches size.ensures.periods in
    prices r c.args.windows.now fits size.result.batches size.result.periods c.loop-k.each size.ensures.batches size.ensures.periods c.loop-k.invariant.0 (λ k h. c.loop-k.invariant.1 k (omega (arith, size.ensures.batches, ap length c.each-window-items.ensures))) c.new.result c.new.ensures
