use Rattle.cts_run.specs.Story.{site_told}
use Rattle.cts_run.proofs.RehearsalLemmas.{halts}
use Rattle.cts_run.proofs.rehearse.rehearse_in.Goals as goal

pub returns-in-Err : goal.returns-in-Err
returns-in-Err g c = λ vault. halts (site_told c.args.story.now) c.args.number c.in-Err.halt _ c.in-Err.ensures
