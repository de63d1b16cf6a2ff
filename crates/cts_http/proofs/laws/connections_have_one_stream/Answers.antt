use Rattle.cts_http.proofs.StreamLemmas.{one_stream, one_more_response}
use Rattle.cts_http.proofs.laws.connections_have_one_stream.Goals as goal

pub returns-clause-one : goal.returns-clause-one
returns-clause-one c = one_stream

pub returns-clause-one_more : goal.returns-clause-one_more
returns-clause-one_more c = one_more_response
