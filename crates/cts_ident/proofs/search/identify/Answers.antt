use Rattle.cts_ident.proofs.FirstMatches.{known_of, unknown_of}
use Rattle.cts_def.specs.Sites.{targets_at}
use Rattle.cts_ident.specs.Identification.{fits}
use Rattle.cts_ident.proofs.search.identify.Goals as goal

pub returns-clause-known : goal.returns-clause-known
returns-clause-known c n = known_of (targets_at c.args.site.now.interfaces c.args.interface) c.args.site.now.definitions.telemetry (fits c.args.bytes.now) n _ c.identified.ensures

pub returns-clause-unknown : goal.returns-clause-unknown
returns-clause-unknown c = unknown_of (targets_at c.args.site.now.interfaces c.args.interface) c.args.site.now.definitions.telemetry (fits c.args.bytes.now) _ c.identified.ensures
