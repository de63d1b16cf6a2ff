use Rattle.std.proofs.Common.{rules}
use Rattle.cts_scriptread.proofs.events.stop_in.Goals as goal

pub returns-in-empty : goal.returns-in-empty
returns-in-empty c = search rules
