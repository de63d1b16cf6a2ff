use Rattle.cts_framing.proofs.SoFarLaws.{nothing_so_far, more_is_taken, piece_comes, all_is_taken}
use Rattle.cts_framing.proofs.laws.taken_so_far.Goals as goal

pub returns : goal.returns
returns c = record { nothing = nothing_so_far; more = more_is_taken; piece = piece_comes; all = all_is_taken }
