use Rattle.cts_scribe.proofs.Logging.{one_part}
use Rattle.cts_scribe.proofs.laws.one_part_without_cycle.Goals as goal

pub returns : goal.returns
returns c = one_part
