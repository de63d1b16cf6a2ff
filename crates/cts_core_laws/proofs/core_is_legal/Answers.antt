use Rattle.cts_core_laws.proofs.Legality.{core_is_legal}
use Rattle.cts_core_laws.proofs.SiteSound.{legally}
use Rattle.cts_core_laws.proofs.core_is_legal.Goals as goal

pub returns : goal.returns
returns c = record { legal = λ base. core_is_legal base (legally base); desks = legally }
