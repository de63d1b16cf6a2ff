use Rattle.cts_run.proofs.LawLemmas.{has_outcome, has_one_outcome, short_exactly}
use Rattle.cts_run.proofs.RefusedLemmas.{refused_exactly, unknown_exactly}
use Rattle.cts_run.proofs.UntiedLemmas.{misused_exactly, untied_exactly}
use Rattle.cts_run.proofs.laws.outcomes.Goals as goal

pub returns : goal.returns
returns c = record { some = has_outcome; one = has_one_outcome; short = short_exactly; refused = refused_exactly; unknown = unknown_exactly; untied = untied_exactly; misused = misused_exactly }
