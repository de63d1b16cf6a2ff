use Rattle.cts_ident.proofs.FirstMatches.{known_of, unknown_of}
use Rattle.cts_ident.specs.Identification.{fits, router_targets}
use Rattle.cts_ident.proofs.search.identify_command.Goals as goal

pub returns-clause-known : goal.returns-clause-known
returns-clause-known c n = known_of (router_targets c.args.site.now c.args.router) c.args.site.now.definitions.commands (fits c.args.bytes.now) n _ c.identified_command.ensures

pub returns-clause-unknown : goal.returns-clause-unknown
returns-clause-unknown c = unknown_of (router_targets c.args.site.now c.args.router) c.args.site.now.definitions.commands (fits c.args.bytes.now) _ c.identified_command.ensures
