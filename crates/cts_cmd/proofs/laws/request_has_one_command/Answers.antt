use Rattle.cts_cmd.proofs.OneCommand.{one_command}
use Rattle.cts_cmd.proofs.laws.request_has_one_command.Goals as goal

pub returns : goal.returns
returns c = one_command
