use Rattle.cts_api_laws.proofs.Listing.{rows_are_listed}
use Rattle.cts_api_laws.proofs.rows_are_listed.Goals as goal

pub returns : goal.returns
returns c = rows_are_listed
