use Rattle.std.proofs.Common.{rules}
use Rattle.cts_rpc.proofs.reading.read.Goals as goal

pub returns-in-Ok : goal.returns-in-Ok
returns-in-Ok c = search rules

pub returns-after-is_memory : goal.returns-after-is_memory
returns-after-is_memory c = search rules
