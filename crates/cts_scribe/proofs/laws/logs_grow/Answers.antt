use Rattle.cts_scribe.proofs.Logging.{log_more}
use Rattle.cts_scribe.proofs.laws.logs_grow.Goals as goal

pub returns : goal.returns
returns c = log_more
