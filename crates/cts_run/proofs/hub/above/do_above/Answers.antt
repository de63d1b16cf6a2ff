use Rattle.std.proofs.Common.{◌≡◌, List, drop, subst, unwrap_or}
use Rattle.cts_entry.specs.declared.entry.Entry.{Entry}
use Rattle.cts_entry.specs.Histories.{connects_maker, latest}
use Rattle.cts_run.specs.Hub.{held_after}
use Rattle.cts_run.proofs.AboveLemmas.{steps_above, steps_not}
use Rattle.cts_run.proofs.hub.above.do_above.Goals as goal

pub step-requires : goal.step-requires
step-requires g c = c.requires

pub returns-in-Ok-kept : goal.returns-in-Ok-kept
returns-in-Ok-kept g c = λ site s h.
    steps_above site s c.args.script.now c.args.line c.args.event.now c.args.slot c.args.live c.args.held.now.items c.args.story.now c.step.new.self c.count-before.result c.in-Ok.effect _ _ c.turn.result h (c.in-Ok.ensures site s h) c.count-before.ensures
    c.in-Ok-kept.ensures
    (subst (λ (h : List Entry). c.turn.result ≡ unwrap_or (latest (connects_maker c.args.slot) (drop c.count-before.result h)) c.args.live) c.hall.ensures c.turn.ensures.live)
    (subst (λ (h : List Entry). c.turn.new.held.items ≡ held_after (latest (connects_maker c.args.slot) (drop c.count-before.result h)) c.keep_put-kept.new.held.items) c.hall.ensures c.turn.ensures.held)

pub returns-in-Err-kept : goal.returns-in-Err-kept
returns-in-Err-kept g c = λ site s h. tt

pub returns-in-Err : goal.returns-in-Err
returns-in-Err g c = λ site s h. rw c.event_halt.ensures (steps_not site s c.args.script.now c.args.line c.args.event.now c.args.slot c.args.live c.args.held.now.items c.args.story.now c.step.new.self c.in-Err.fault c.args.held.now.items (c.in-Err.ensures site s h))
