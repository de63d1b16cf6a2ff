use Rattle.cts_api_laws.proofs.Rows.{params_are_their_row}
use Rattle.cts_api_laws.proofs.params_are_their_row.Goals as goal

pub returns : goal.returns
returns c = params_are_their_row
