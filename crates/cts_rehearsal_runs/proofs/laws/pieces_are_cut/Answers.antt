use Rattle.cts_rehearsal_runs.proofs.Cutting.{frames_are_cut, lines_are_cut}
use Rattle.cts_rehearsal_runs.proofs.laws.pieces_are_cut.Goals as goal

pub returns-clause-frames : goal.returns-clause-frames
returns-clause-frames c = frames_are_cut

pub returns-clause-lines : goal.returns-clause-lines
returns-clause-lines c = lines_are_cut
