use Rattle.std.proofs.Common.{rules}
use Rattle.cts_ident.proofs.search.identified_command.Goals as goal

pub returns : goal.returns
returns c = search rules
