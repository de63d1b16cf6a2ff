use Rattle.std.proofs.Common.{rules}
use Rattle.cts_connection.proofs.connection.Connection.waiting.Goals as goal

pub returns : goal.returns
returns c = search rules
