use Rattle.cts_cmd.proofs.Exact.{one_way}
use Rattle.cts_cmd.proofs.laws.a_text_asks_for_one_request_or_fails_once.Goals as goal

pub returns : goal.returns
returns c = one_way
