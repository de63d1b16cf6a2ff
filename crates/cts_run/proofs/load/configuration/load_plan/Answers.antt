use Rattle.std.proofs.lemmas.Result.{err_from_is_err_and}
use Rattle.cts_run.specs.Load.{no_site, site_read}
use Rattle.cts_run.specs.declared.halt.cause.Cause.TheVariants.{Site}
use Rattle.cts_run.specs.declared.halt.file_kind.FileKind.TheVariants.{Configuration as OfKind}
use Rattle.cts_run.proofs.LoadLemmas.{over_definitions, site_err, site_ok, not_stated, refuses, takes}
use Rattle.cts_run.proofs.load.configuration.load_plan.Goals as goal

pub returns-in_err-found-clause-content : goal.returns-in_err-found-clause-content
returns-in_err-found-clause-content g c =
    let p = err_from_is_err_and c.from_residual.result c.from_residual.ensures.1 in
    rw (p.1, p.2) (not_stated OfKind c.args.name.now (site_read c.args.definitions) no_site _ _ c.in_err-found.ensures.content)

pub returns-in-Ok-clause-content : goal.returns-in-Ok-clause-content
returns-in-Ok-clause-content g c =
    takes OfKind c.args.name.now (site_read c.args.definitions) no_site _ c.in_ok-found.found.items c.in-Ok.site c.in_ok-found.ensures.content (site_ok c.args.definitions _ c.in-Ok.site (rw c.deref.ensures.value at c.in-Ok.ensures.said))

pub returns-in-Ok-clause-over : goal.returns-in-Ok-clause-over
returns-in-Ok-clause-over g c = over_definitions c.args.definitions c.in_ok-found.found.items c.in-Ok.site (rw c.deref.ensures.value at c.in-Ok.ensures.said)

pub returns-in-Err-Refused-clause-content : goal.returns-in-Err-Refused-clause-content
returns-in-Err-Refused-clause-content g c =
    let read = rw c.in-Err-Refused.field-0-is at c.in-Err-Refused.ensures.said in
    rw c.again.ensures (refuses OfKind c.args.name.now (site_read c.args.definitions) no_site _ c.in_ok-found.found.items c.in-Err-Refused.line (Site c.in-Err-Refused.cause) c.in_ok-found.ensures.content (site_err c.args.definitions _ c.in-Err-Refused.line c.in-Err-Refused.cause (rw c.deref.ensures.value at read)))
