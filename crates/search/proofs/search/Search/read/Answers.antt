use Rattle.search.proofs.Goings.{read_goes}
use Rattle.search.proofs.search.Search.read.Goals as goal

pub returns-in_err-judge-clause-goes : goal.returns-in_err-judge-clause-goes
returns-in_err-judge-clause-goes g c = read_goes (g.met.R.Rule.lawful c.args.self.now.rule)

pub returns-in_err-held-clause-goes : goal.returns-in_err-held-clause-goes
returns-in_err-held-clause-goes g c = read_goes (g.met.R.Rule.lawful c.args.self.now.rule)

pub returns-in_err-write_earliest-clause-goes : goal.returns-in_err-write_earliest-clause-goes
returns-in_err-write_earliest-clause-goes g c = read_goes (g.met.R.Rule.lawful c.args.self.now.rule)

pub returns-clause-goes : goal.returns-clause-goes
returns-clause-goes g c = read_goes (g.met.R.Rule.lawful c.args.self.now.rule)
