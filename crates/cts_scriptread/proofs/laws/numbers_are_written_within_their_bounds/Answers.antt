use Rattle.cts_scriptread.proofs.Exact.{counts_are_written, numbers_are_written}
use Rattle.cts_scriptread.proofs.laws.numbers_are_written_within_their_bounds.Goals as goal

pub returns : goal.returns
returns c = record { numbers = numbers_are_written; counts = counts_are_written }
