use Rattle.cts_scribe.proofs.Closing.{closed}
use Rattle.cts_scribe.proofs.laws.closed_logs_are_whole.Goals as goal

pub returns : goal.returns
returns c = closed
