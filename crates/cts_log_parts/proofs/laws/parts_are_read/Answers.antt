use Rattle.cts_log_parts.proofs.PartsRead.{parts_are_read, synced_are_read}
use Rattle.cts_log_parts.proofs.laws.parts_are_read.Goals as goal

pub returns-clause-read : goal.returns-clause-read
returns-clause-read c = parts_are_read

pub returns-clause-synced : goal.returns-clause-synced
returns-clause-synced c = synced_are_read
