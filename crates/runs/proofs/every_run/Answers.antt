use Rattle.runs.proofs.Runs.{every_run}
use Rattle.runs.proofs.every_run.Goals as goal

pub returns : goal.returns
returns c = every_run
