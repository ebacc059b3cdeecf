use Rattle.std.proofs.Common.{ap, sym, ◌∙◌}
use Rattle.std.specs.Option.{option_map}
use Rattle.windows.specs.Filling.{set_of}
use Rattle.flat.specs.Loading.{flat_of}
use Rattle.rated.proofs.Cutting.{hull_some, hull_none}
use Rattle.rated.proofs.rated.Rated.hull.Goals as goal

pub returns-in_err-ok : goal.returns-in_err-ok
returns-in_err-ok c = ap (option_map set_of) c.from_residual.ensures ∙ hull_none c.args.self.now (flat_of c.unrated.result) c.args.windows.now c.narrow.new.windows c.unrated.ensures c.narrow.result (sym c.in_err-ok.ensures.value) c.narrow.ensures

pub returns : goal.returns
returns c = hull_some c.args.self.now (flat_of c.unrated.result) c.args.windows.now c.narrow.new.windows c.unrated.ensures c.narrow.result c.in_ok-ok.field-0 (sym c.in_ok-ok.ensures.value) c.narrow.ensures
