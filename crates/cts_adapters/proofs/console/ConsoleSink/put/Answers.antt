use Rattle.std.proofs.Common.{rules}
use Rattle.cts_adapters.proofs.console.ConsoleSink.put.Goals as goal

pub returns-in-Err-clause-cause : goal.returns-in-Err-clause-cause
returns-in-Err-clause-cause c = search rules
