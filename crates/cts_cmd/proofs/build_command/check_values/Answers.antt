use Rattle.std.proofs.Common.{rules}
use Rattle.cts_cmd.proofs.build_command.check_values.Goals as goal

pub returns : goal.returns
returns c = search rules

pub returns-in_err-check_params-3 : goal.returns-in_err-check_params-3
returns-in_err-check_params-3 c = search rules
