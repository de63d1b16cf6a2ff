use Rattle.std.proofs.lemmas.Result.{err_from_is_err_and}
use Rattle.cts_run.specs.Load.{no_events, script_read}
use Rattle.cts_run.specs.declared.halt.cause.Cause.TheVariants.{Script}
use Rattle.cts_run.specs.declared.halt.file_kind.FileKind.TheVariants.{Script as OfKind}
use Rattle.cts_run.proofs.LoadLemmas.{script_err, script_ok, not_stated, refuses, takes}
use Rattle.cts_run.proofs.load.script.load_script.Goals as goal

pub returns-in_err-found-clause-content : goal.returns-in_err-found-clause-content
returns-in_err-found-clause-content g c =
    let p = err_from_is_err_and c.from_residual.result c.from_residual.ensures.1 in
    rw (p.1, p.2) (not_stated OfKind c.args.name.now (script_read c.args.site.now) no_events _ _ c.in_err-found.ensures.content)

pub returns-in-Ok-clause-content : goal.returns-in-Ok-clause-content
returns-in-Ok-clause-content g c =
    takes OfKind c.args.name.now (script_read c.args.site.now) no_events _ c.in_ok-found.found.items c.in-Ok.events.items c.in_ok-found.ensures.content (script_ok c.args.site.now _ c.in-Ok.events.items (rw c.deref.ensures.value at c.in-Ok.ensures))

pub returns-in-Err-Refused-clause-content : goal.returns-in-Err-Refused-clause-content
returns-in-Err-Refused-clause-content g c =
    let read = rw c.in-Err-Refused.field-0-is at c.in-Err-Refused.ensures in
    rw c.again.ensures (refuses OfKind c.args.name.now (script_read c.args.site.now) no_events _ c.in_ok-found.found.items c.in-Err-Refused.line (Script c.in-Err-Refused.cause) c.in_ok-found.ensures.content (script_err c.args.site.now _ c.in-Err-Refused.line c.in-Err-Refused.cause (rw c.deref.ensures.value at read)))
