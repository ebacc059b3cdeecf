use Rattle.rated.proofs.Loads.{unrated_is}
use Rattle.rated.proofs.rated.Rated.unrated.Goals as goal

pub returns : goal.returns
returns c = unrated_is c.args.self.now _ c.fill.new.self c.fill.result (rw c.from-size.ensures at c.fill.ensures)
