use Rattle.cts_core_laws.proofs.Judging.{run_judged}
use Rattle.cts_core_laws.proofs.commands.Goals as goal

pub returns : goal.returns
returns c = run_judged
