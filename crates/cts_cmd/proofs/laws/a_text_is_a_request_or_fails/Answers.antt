use Rattle.cts_cmd.proofs.Total.{read_or_fails}
use Rattle.cts_cmd.proofs.laws.a_text_is_a_request_or_fails.Goals as goal

pub returns : goal.returns
returns c = read_or_fails
