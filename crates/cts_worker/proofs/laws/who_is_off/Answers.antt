use Rattle.cts_worker.proofs.Unlinked.{desk_is_off, ended_is_off}
use Rattle.cts_worker.proofs.laws.who_is_off.Goals as goal

pub returns-clause-ended : goal.returns-clause-ended
returns-clause-ended c = ended_is_off

pub returns-clause-desk : goal.returns-clause-desk
returns-clause-desk c = desk_is_off
