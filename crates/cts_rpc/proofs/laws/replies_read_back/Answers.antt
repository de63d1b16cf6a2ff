use Rattle.cts_rpc.proofs.Layouts.{error_back, result_back}
use Rattle.cts_rpc.proofs.laws.replies_read_back.Goals as goal

pub returns-clause-with_result : goal.returns-clause-with_result
returns-clause-with_result c = result_back

pub returns-clause-with_error : goal.returns-clause-with_error
returns-clause-with_error c = error_back
