use Rattle.std.proofs.Common.{rules}
use Rattle.cts_scriptread.proofs.events.call_in.Goals as goal

pub returns-in_ok-text-in-Some : goal.returns-in_ok-text-in-Some
returns-in_ok-text-in-Some c = search rules
