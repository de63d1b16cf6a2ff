use Rattle.cts_log_parts.proofs.Cutting.{cuts_tell_growth}
use Rattle.cts_log_parts.proofs.laws.cuts_tell_growth.Goals as goal

pub returns : goal.returns
returns c = cuts_tell_growth
