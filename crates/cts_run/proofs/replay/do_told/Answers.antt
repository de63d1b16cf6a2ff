use Rattle.cts_run.specs.Acts.{puts}
use Rattle.cts_run.specs.Replay.{log_acts}
use Rattle.cts_run.proofs.ActLemmas.{does_first, does_then, put_done}
use Rattle.cts_run.proofs.replay.do_told.Goals as goal

pub returns-in-Ok-clause-done : goal.returns-in-Ok-clause-done
returns-in-Ok-clause-done g c =
    does_then _ _ _ (log_acts c.args.effect.now) (puts c.args.text.now) c.put_text.result (c.in-Ok.ensures.acts (g.O.Sink.seen c.args.out.now)) (put_done c.args.text.now c.put_text.result _ _ _ c.put_text.ensures.puts)

pub returns-in-Err-clause-done : goal.returns-in-Err-clause-done
returns-in-Err-clause-done g c = does_first _ _ (log_acts c.args.effect.now) (puts c.args.text.now) c.in-Err.why (c.in-Err.ensures.acts (g.O.Sink.seen c.args.out.now))
