use Rattle.layers.proofs.Settling.{rounds_settle}
use Rattle.layers.proofs.rounds_settle.Goals as goal

pub returns : goal.returns
returns c = rounds_settle
