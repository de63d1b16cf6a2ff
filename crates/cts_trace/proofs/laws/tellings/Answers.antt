use Rattle.cts_trace.proofs.Stretches.{connected_where_one_stands, one_opened_each, one_telling}
use Rattle.cts_trace.proofs.laws.tellings.Goals as goal

pub returns : goal.returns
returns c = record { connected = connected_where_one_stands; opened = one_opened_each; one = one_telling }
