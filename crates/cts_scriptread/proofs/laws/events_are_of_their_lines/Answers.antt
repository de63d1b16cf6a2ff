use Rattle.cts_scriptread.proofs.OneEach.{events_are_of_their_statements}
use Rattle.cts_scriptread.proofs.laws.events_are_of_their_lines.Goals as goal

pub returns : goal.returns
returns c = events_are_of_their_statements
