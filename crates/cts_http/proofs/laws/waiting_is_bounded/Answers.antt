use Rattle.cts_http.proofs.LawLemmas.{waiting_is_bounded}
use Rattle.cts_http.proofs.laws.waiting_is_bounded.Goals as goal

pub returns : goal.returns
returns c = waiting_is_bounded
