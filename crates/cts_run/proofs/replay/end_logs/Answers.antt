use Rattle.std.proofs.Common.{◌++◌, Err}
use Rattle.cts_run.specs.Acts.{puts, syncs}
use Rattle.cts_run.specs.Lines.{end_line}
use Rattle.cts_run.specs.Replay.{log_acts}
use Rattle.cts_run.proofs.ActLemmas.{does_first, does_then, put_done}
use Rattle.cts_run.proofs.replay.end_logs.Goals as goal

pub returns-in-Ok-sync_both : goal.returns-in-Ok-sync_both
returns-in-Ok-sync_both g c =
    let out = g.O.Sink.seen c.args.out.now in
    let line = puts (end_line c.args.entries) in
    does_then _ _ _ (log_acts c.args.rest.now) (syncs ++ line) c.put_end.result (c.in-Ok.ensures.acts out)
    (does_then _ _ _ syncs line c.put_end.result (c.in-Ok-sync_both.ensures.acts out) (put_done (end_line c.args.entries) c.put_end.result _ _ _ c.put_end.ensures))

pub returns-in-Err-sync_both : goal.returns-in-Err-sync_both
returns-in-Err-sync_both g c =
    let out = g.O.Sink.seen c.args.out.now in
    let line = puts (end_line c.args.entries) in
    does_then _ _ _ (log_acts c.args.rest.now) (syncs ++ line) (Err c.in-Err-sync_both.why) (c.in-Ok.ensures.acts out) (does_first _ _ syncs line c.in-Err-sync_both.why (c.in-Err-sync_both.ensures.acts out))

pub returns-in-Err : goal.returns-in-Err
returns-in-Err g c = does_first _ _ (log_acts c.args.rest.now) (syncs ++ puts (end_line c.args.entries)) c.in-Err.why (c.in-Err.ensures.acts (g.O.Sink.seen c.args.out.now))
