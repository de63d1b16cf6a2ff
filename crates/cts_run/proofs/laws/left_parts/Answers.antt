use Rattle.cts_run.proofs.PartLemmas.{stops_are_dumped}
use Rattle.cts_run.proofs.laws.left_parts.Goals as goal

pub returns : goal.returns
returns c = record { dumped = stops_are_dumped }
