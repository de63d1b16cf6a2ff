use Rattle.cts_cmd_laws.proofs.Standing.{commands_hold_their_parameters}
use Rattle.cts_cmd_laws.proofs.commands_hold_their_parameters.Goals as goal

pub returns : goal.returns
returns c = commands_hold_their_parameters c.args.definitions.now c.args.request.now c.keep_commands.ensures
