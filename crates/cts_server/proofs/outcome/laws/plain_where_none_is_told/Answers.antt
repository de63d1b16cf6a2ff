use Rattle.cts_server.proofs.Telling.{plain_where_none}
use Rattle.cts_server.proofs.outcome.laws.plain_where_none_is_told.Goals as goal

pub returns : goal.returns
returns c = plain_where_none
