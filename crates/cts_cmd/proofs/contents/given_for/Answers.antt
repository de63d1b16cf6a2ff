use Rattle.std.proofs.Common.{rules}
use Rattle.cts_cmd.proofs.contents.given_for.Goals as goal

pub returns-in-Some : goal.returns-in-Some
returns-in-Some c = search rules
