use Rattle.cts_framing.proofs.RowsExact.{heads_are_exact}
use Rattle.cts_framing.proofs.laws.heads.Goals as goal

pub returns : goal.returns
returns c = heads_are_exact
