use Rattle.std.proofs.Common.{rules}
use Rattle.cts_cmd.proofs.injection.check_members.Goals as goal

pub returns : goal.returns
returns c = search rules

pub returns-in_err-check_params : goal.returns-in_err-check_params
returns-in_err-check_params c = search rules
