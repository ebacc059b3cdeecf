use Rattle.std.proofs.Common.{rules}
use Rattle.reload.proofs.Counting.{count_places}
use Rattle.reload.proofs.schedule.batches_in.Goals as goal

pub returns : goal.returns
returns c = search (rules, count_places)
