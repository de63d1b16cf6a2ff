use Rattle.cts_rehearsal.proofs.Walking.{rehearsals_walk}
use Rattle.cts_rehearsal.proofs.laws.rehearsals_walk.Goals as goal

pub returns : goal.returns
returns c = rehearsals_walk
