use Rattle.cts_framing.proofs.ErrorsExact.{errors_are_exact}
use Rattle.cts_framing.proofs.OutputsExact.{outputs_are_exact}
use Rattle.cts_framing.proofs.RowsExact.{frames_are_exact}
use Rattle.cts_framing.proofs.Sound.{is_sound, are_no_longer}
use Rattle.cts_framing.proofs.laws.rows.Goals as goal

pub returns : goal.returns
returns c = record { sound = is_sound; no_longer = are_no_longer; frames = frames_are_exact; outputs = outputs_are_exact; errors = errors_are_exact }
