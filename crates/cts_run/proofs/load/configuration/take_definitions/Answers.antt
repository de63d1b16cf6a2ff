use Rattle.std.proofs.Common.{ap, refl}
use Rattle.cts_run.specs.Load.Files.{verdict}
use Rattle.cts_run.specs.declared.halt.file_kind.FileKind.TheVariants.{Configuration as OfKind}
use Rattle.cts_run.proofs.LoadLemmas.{definitions_err, definitions_ok}
use Rattle.cts_run.proofs.load.configuration.take_definitions.Goals as goal

pub returns-in-Ok : goal.returns-in-Ok
returns-in-Ok c = definitions_ok _ c.in-Ok.definitions c.in-Ok.ensures.read

pub returns-in-Err-Refused : goal.returns-in-Err-Refused
returns-in-Err-Refused c =
    let read = rw c.in-Err-Refused.field-0-is at c.in-Err-Refused.ensures.read in
    rw c.again.ensures (ap (verdict OfKind c.args.name.now) (definitions_err _ c.in-Err-Refused.line c.in-Err-Refused.cause read), refl)
