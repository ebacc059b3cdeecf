use Rattle.search.proofs.Goings.{read_goes}
use Rattle.search.proofs.search.Search.apply.Goals as goal

pub returns-in-Read-clause-goes : goal.returns-in-Read-clause-goes
returns-in-Read-clause-goes g c = rw c.in-Read.is (read_goes (g.met.R.Rule.lawful c.args.self.now.rule))
