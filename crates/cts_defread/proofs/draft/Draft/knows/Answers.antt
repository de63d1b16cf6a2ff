use Rattle.std.proofs.Common.{◌∙◌}
use Rattle.cts_defread.proofs.Keeping.{kept_telemetry, kept_command}
use Rattle.cts_defread.proofs.draft.Draft.knows.Goals as goal

pub returns-in-Telemetry : goal.returns-in-Telemetry
returns-in-Telemetry c = rw c.in-Telemetry.is (c.contains.ensures ∙ kept_telemetry c.args.self.now c.args.names.now.0 c.args.names.now.1 c.requires)

pub returns-in-Command : goal.returns-in-Command
returns-in-Command c = rw c.in-Command.is (c.contains-in-Command.ensures ∙ kept_command c.args.self.now c.args.names.now.0 c.args.names.now.1 c.requires)
