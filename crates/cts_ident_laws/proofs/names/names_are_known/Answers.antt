use Rattle.cts_ident_laws.proofs.Naming.{names_are_known}
use Rattle.cts_ident_laws.proofs.names.names_are_known.Goals as goal

pub returns : goal.returns
returns c = names_are_known
