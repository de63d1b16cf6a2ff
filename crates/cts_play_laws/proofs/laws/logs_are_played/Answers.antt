use Rattle.cts_play_laws.proofs.Filed.{log_files_are_played, log_files_are_read, log_files_end}
use Rattle.cts_play_laws.proofs.Played.{all_play_logs, logs_are_played, logs_are_played_there}
use Rattle.cts_play_laws.proofs.Valued.{brought_says_all, played_says_same}
use Rattle.cts_play_laws.proofs.laws.logs_are_played.Goals as goal

pub returns : goal.returns
returns c = record { played = logs_are_played; hears = all_play_logs; there = logs_are_played_there; read = log_files_are_read; ends = log_files_end; files = log_files_are_played; brought = brought_says_all; values = played_says_same }
