use Rattle.cts_run.specs.Load.{definitions_read, no_definitions}
use Rattle.cts_run.specs.declared.halt.file_kind.FileKind.TheVariants.{Configuration as OfKind}
use Rattle.cts_run.proofs.LoadLemmas.{definitions_given, definitions_halt, not_stated}
use Rattle.cts_run.proofs.PhaseLemmas.{load_stays}
use Rattle.cts_run.proofs.load.configuration.load_definitions.Goals as goal

pub returns-in-Ok-take_definitions-clause-content : goal.returns-in-Ok-take_definitions-clause-content
returns-in-Ok-take_definitions-clause-content g c =
    definitions_given (g.F.Files.seen c.args.files.now).told c.args.name.now c.in-Ok.digest c.in-Ok.found.items c.in-Ok.ensures.content c.in-Ok-take_definitions.definitions
    (rw c.deref.ensures.value at c.in-Ok-take_definitions.ensures)

pub returns-in-Ok-clause-content : goal.returns-in-Ok-clause-content
returns-in-Ok-clause-content g c =
    definitions_halt (g.F.Files.seen c.args.files.now).told c.args.name.now c.in-Ok.digest c.in-Ok.found.items c.in-Err-take_definitions.halt c.in-Ok.ensures.content (rw c.deref.ensures.value at c.in-Err-take_definitions.ensures)

pub returns-in-Ok-clause-counts : goal.returns-in-Ok-clause-counts
returns-in-Ok-clause-counts g c = load_stays c.in-Err-take_definitions.halt _ _ c.in-Err-take_definitions.ensures.1 c.in-Ok.ensures.counts

pub returns-clause-content : goal.returns-clause-content
returns-clause-content g c = not_stated OfKind c.args.name.now definitions_read no_definitions (g.F.Files.seen c.args.files.now).told c.in-Err.halt c.in-Err.ensures.content
