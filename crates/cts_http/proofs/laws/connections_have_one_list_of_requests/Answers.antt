use Rattle.cts_http.proofs.SomeLemmas.{none_lacks_requests}
use Rattle.cts_http.proofs.LawLemmas.{one_requests, requests_grow, refusals_stay, closed_stays}
use Rattle.cts_http.proofs.laws.connections_have_one_list_of_requests.Goals as goal

pub returns-clause-some : goal.returns-clause-some
returns-clause-some c = none_lacks_requests

pub returns-clause-one : goal.returns-clause-one
returns-clause-one c = one_requests

pub returns-clause-grow : goal.returns-clause-grow
returns-clause-grow c = requests_grow

pub returns-clause-refusals_stay : goal.returns-clause-refusals_stay
returns-clause-refusals_stay c = refusals_stay

pub returns-clause-closed_stays : goal.returns-clause-closed_stays
returns-clause-closed_stays c = closed_stays
