use Rattle.cts_rehearsal_runs.proofs.Finishing.{rehearsals_finish}
use Rattle.cts_rehearsal_runs.proofs.laws.rehearsals_finish.Goals as goal

pub returns : goal.returns
returns c = rehearsals_finish
