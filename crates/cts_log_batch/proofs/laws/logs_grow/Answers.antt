use Rattle.cts_log_batch.proofs.Growing.{commands_grow, packets_grow}
use Rattle.cts_log_batch.proofs.laws.logs_grow.Goals as goal

pub returns-clause-packets : goal.returns-clause-packets
returns-clause-packets c = packets_grow

pub returns-clause-commands : goal.returns-clause-commands
returns-clause-commands c = commands_grow
