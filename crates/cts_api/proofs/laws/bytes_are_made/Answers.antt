use Rattle.cts_api.proofs.Making.{commands_are_built, injections_are_written}
use Rattle.cts_api.proofs.laws.bytes_are_made.Goals as goal

pub returns-clause-commands : goal.returns-clause-commands
returns-clause-commands c d r b h = commands_are_built d r b h

pub returns-clause-injections : goal.returns-clause-injections
returns-clause-injections c members old new bytes w = injections_are_written members old new bytes w
