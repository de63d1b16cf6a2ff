use Rattle.cts_defread.proofs.Told.{definitions_are_of_their_lines}
use Rattle.cts_defread.proofs.laws.definitions_are_of_their_lines.Goals as goal

pub returns : goal.returns
returns c = definitions_are_of_their_lines
