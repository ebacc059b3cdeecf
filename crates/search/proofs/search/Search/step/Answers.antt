use Rattle.std.proofs.Common.{rules}
use Rattle.search.specs.declared.call.Call.TheVariants.{Step}
use Rattle.search.proofs.Goings.{goes}
use Rattle.search.proofs.search.Search.step.Goals as goal

pub returns-in_err-judge-clause-goes : goal.returns-in_err-judge-clause-goes
returns-in_err-judge-clause-goes g c = goes (g.met.R.Rule.lawful c.args.self.now.rule) Step (search rules)

pub returns-clause-goes : goal.returns-clause-goes
returns-clause-goes g c = goes (g.met.R.Rule.lawful c.args.self.now.rule) Step (search rules)
