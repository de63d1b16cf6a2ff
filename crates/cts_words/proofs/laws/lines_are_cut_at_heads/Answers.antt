use Rattle.cts_words.proofs.Blocks.{heads, bodies}
use Rattle.cts_words.proofs.laws.lines_are_cut_at_heads.Goals as goal

pub returns-clause-heads : goal.returns-clause-heads
returns-clause-heads g c = heads

pub returns-clause-lines : goal.returns-clause-lines
returns-clause-lines g c = bodies
