use Rattle.rule.proofs.Entries.{padded_is}
use Rattle.rule.proofs.tables.padded.Goals as goal

pub returns : goal.returns
returns g c = rw c.copy_from_slice.ensures.after (padded_is g.row.N c.min-len.result c.args.list.now c.args.blank c.min-len.ensures)
