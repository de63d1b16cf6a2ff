use Rattle.cts_cmd_laws.proofs.Existing.{requests_have_their_command}
use Rattle.cts_cmd_laws.proofs.requests_have_their_command.Goals as goal

pub returns : goal.returns
returns c = requests_have_their_command c.args.definitions.now c.args.request.now c.args.checks c.keep_commands.ensures
