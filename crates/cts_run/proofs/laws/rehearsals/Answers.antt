use Rattle.cts_run.proofs.RehearsedLemmas.{rehearsals_are_done}
use Rattle.cts_run.proofs.laws.rehearsals.Goals as goal

pub returns : goal.returns
returns c = rehearsals_are_done
