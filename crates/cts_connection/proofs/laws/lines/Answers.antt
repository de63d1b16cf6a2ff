use Rattle.cts_connection.proofs.Placing.{lines_have_places, places_are_apart}
use Rattle.cts_connection.proofs.laws.lines.Goals as goal

pub returns-clause-there : goal.returns-clause-there
returns-clause-there c = lines_have_places

pub returns-clause-apart : goal.returns-clause-apart
returns-clause-apart c = places_are_apart
