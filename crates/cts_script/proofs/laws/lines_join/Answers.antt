use Rattle.cts_script.proofs.LineLemmas.{lines_after-append}
use Rattle.cts_script.proofs.laws.lines_join.Goals as goal

pub returns : goal.returns
returns c = lines_after-append
