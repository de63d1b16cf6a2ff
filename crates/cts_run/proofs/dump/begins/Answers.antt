use Rattle.std.proofs.Common.{◌∙◌}
use Rattle.cts_log.proofs.Starts.{begins_is}
use Rattle.cts_run.proofs.dump.begins.Goals as goal

pub returns : goal.returns
returns c = c.starts_with.ensures.value ∙ begins_is c.args.head.now c.args.file.now
