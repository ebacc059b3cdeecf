use Rattle.report.proofs.Readings.{one_reading}
use Rattle.report.proofs.reading.one_reading.Goals as goal

pub returns : goal.returns
returns c = one_reading
