use Rattle.cts_scriptread.proofs.OneEach.{refuses_first, takes_others}
use Rattle.cts_scriptread.proofs.Refusing.{lines_are_refused}
use Rattle.cts_scriptread.proofs.laws.first_line_is_refused.Goals as goal

pub returns : goal.returns
returns c = record { lines = lines_are_refused; refused = refuses_first; taken = takes_others }
