use Rattle.cts_run.proofs.ActLemmas.{all_is_synced, bytes_are_kept, no_count_rises, texts_are_put}
use Rattle.cts_run.proofs.laws.acts.Goals as goal

pub returns : goal.returns
returns c = record { texts = texts_are_put; bytes = bytes_are_kept; synced = all_is_synced; counts = no_count_rises }
