use Rattle.std.proofs.Common.{◌∙◌, Some, refl}
use Rattle.cts_outside.specs.Lines.{after_take, at_now}
use Rattle.cts_outside.specs.declared.link.Taken.TheVariants.{Got, Nothing, End, Failed}
use Rattle.cts_turn.specs.Passes.{view}
use Rattle.cts_worker.proofs.Onwards.{onward_then}
use Rattle.cts_line.proofs.Following.{closed_went, end_taken, ends_by, failed_taken, nothing_taken, takes_by, went_told}
use Rattle.cts_line.proofs.Telling.{retells_now, retells_then, since_now}
use Rattle.cts_line.proofs.rounds.round.Goals as goal

pub returns-in-Some-clause-talks : goal.returns-in-Some-clause-talks
returns-in-Some-clause-talks g c = λ k t.
    closed_went _ _ c.args.hand.now.by c.close.new.connection (view c.close.result.0) _ _ c.in-Some.why c.close.ensures.closed
    (c.close.ensures.talks _ (ends_by _ _ c.args.hand.now.by c.catch_up-pass.new.connection (view c.catch_up-pass.result.0) _ _ c.in-Some.why c.in-Some.is (c.catch_up-pass.ensures.talks k t)))

pub returns-in-Nothing-clause-talks : goal.returns-in-Nothing-clause-talks
returns-in-Nothing-clause-talks g c = λ n t.
    let k = c.catch_up-pass.new.connection in
    let v = view c.catch_up-pass.result.0 in
    nothing_taken _ _ c.args.hand.now.by k v _ _ c.take.new.buffer (since_now n (after_take Nothing c.take.new.buffer) _ _ c.in-Nothing.ensures.content)
    (takes_by _ _ c.args.hand.now.by k v _ _ c.in_default.is (c.catch_up-pass.ensures.talks n t))

pub returns-in-End-clause-talks : goal.returns-in-End-clause-talks
returns-in-End-clause-talks g c = λ n t.
    let k = c.catch_up-pass.new.connection in
    let v = view c.catch_up-pass.result.0 in
    let ended = end_taken _ _ c.args.hand.now.by k v _ _ c.take.new.buffer (since_now n (after_take End c.take.new.buffer) _ _ c.in-End.ensures.content)
    (takes_by _ _ c.args.hand.now.by k v _ _ c.in_default.is (c.catch_up-pass.ensures.talks n t)) in
    closed_went _ _ c.args.hand.now.by c.close-in-End.new.connection (view c.close-in-End.result.0) _ _ _ c.close-in-End.ensures.closed (c.close-in-End.ensures.talks _ ended)

pub returns-in-Failed-clause-talks : goal.returns-in-Failed-clause-talks
returns-in-Failed-clause-talks g c = λ n t.
    let k = c.catch_up-pass.new.connection in
    let v = view c.catch_up-pass.result.0 in
    let failed = failed_taken _ _ c.args.hand.now.by k v _ _ c.take.new.buffer (since_now n (after_take Failed c.take.new.buffer) _ _ c.in-Failed.ensures.content)
    (takes_by _ _ c.args.hand.now.by k v _ _ c.in_default.is (c.catch_up-pass.ensures.talks n t)) in
    closed_went _ _ c.args.hand.now.by c.close-in-Failed.new.connection (view c.close-in-Failed.result.0) _ _ _ c.close-in-Failed.ensures.closed (c.close-in-Failed.ensures.talks _ failed)

pub returns-in-Got-clause-talks : goal.returns-in-Got-clause-talks
returns-in-Got-clause-talks g c = λ n t.
    let k = c.catch_up-pass.new.connection in
    let v = view c.catch_up-pass.result.0 in
    let takes = takes_by _ _ c.args.hand.now.by k v _ _ c.in_default.is (c.catch_up-pass.ensures.talks n t) in
    went_told _ _ c.args.hand.now.by c.post.new.connection (view c.post.result.0) _ _ c.post.result.1 (since_now n (after_take (Got c.in-Got.count) c.take.new.buffer) _ _ c.in-Got.ensures.content)
    (c.post.ensures.talks _ c.in-Got.count c.take.new.buffer refl takes)

pub returns-in-Nothing-clause-retells : goal.returns-in-Nothing-clause-retells
returns-in-Nothing-clause-retells g c = retells_then _ _ _ c.catch_up-pass.ensures.retells (retells_now (after_take Nothing c.take.new.buffer) _ _ c.in-Nothing.ensures.content)

pub returns-in-End-clause-retells : goal.returns-in-End-clause-retells
returns-in-End-clause-retells g c = retells_then _ _ _ c.catch_up-pass.ensures.retells (retells_now (after_take End c.take.new.buffer) _ _ c.in-End.ensures.content)

pub returns-in-Failed-clause-retells : goal.returns-in-Failed-clause-retells
returns-in-Failed-clause-retells g c = retells_then _ _ _ c.catch_up-pass.ensures.retells (retells_now (after_take Failed c.take.new.buffer) _ _ c.in-Failed.ensures.content)

pub returns-in-Got-clause-retells : goal.returns-in-Got-clause-retells
returns-in-Got-clause-retells g c = retells_then _ _ _ c.catch_up-pass.ensures.retells (retells_now (after_take (Got c.in-Got.count) c.take.new.buffer) _ _ c.in-Got.ensures.content)

pub returns-in-Some-clause-stop : goal.returns-in-Some-clause-stop
returns-in-Some-clause-stop g c = c.close.ensures.stop ∙ c.catch_up-pass.ensures.stop

pub returns-in-End-clause-stop : goal.returns-in-End-clause-stop
returns-in-End-clause-stop g c = c.close-in-End.ensures.stop ∙ c.catch_up-pass.ensures.stop

pub returns-in-Failed-clause-stop : goal.returns-in-Failed-clause-stop
returns-in-Failed-clause-stop g c = c.close-in-Failed.ensures.stop ∙ c.catch_up-pass.ensures.stop

pub returns-in-Got-clause-stop : goal.returns-in-Got-clause-stop
returns-in-Got-clause-stop g c = c.post.ensures.stop ∙ c.catch_up-pass.ensures.stop

pub returns-in-Some-clause-onward : goal.returns-in-Some-clause-onward
returns-in-Some-clause-onward g c = onward_then (view c.args.pass) (view c.catch_up-pass.result.0) (view c.close.result.0) c.catch_up-pass.ensures.onward c.close.ensures.onward

pub returns-in-End-clause-onward : goal.returns-in-End-clause-onward
returns-in-End-clause-onward g c = onward_then (view c.args.pass) (view c.catch_up-pass.result.0) (view c.close-in-End.result.0) c.catch_up-pass.ensures.onward c.close-in-End.ensures.onward

pub returns-in-Failed-clause-onward : goal.returns-in-Failed-clause-onward
returns-in-Failed-clause-onward g c = onward_then (view c.args.pass) (view c.catch_up-pass.result.0) (view c.close-in-Failed.result.0) c.catch_up-pass.ensures.onward c.close-in-Failed.ensures.onward

pub returns-in-Got-clause-onward : goal.returns-in-Got-clause-onward
returns-in-Got-clause-onward g c = onward_then (view c.args.pass) (view c.catch_up-pass.result.0) (view c.post.result.0) c.catch_up-pass.ensures.onward c.post.ensures.onward

pub returns-in-Some-clause-some : goal.returns-in-Some-clause-some
returns-in-Some-clause-some g c = λ t.
    let u = c.catch_up-pass.ensures.some t in (
      u.0,
      closed_went _ _ c.args.hand.now.by c.close.new.connection (view c.close.result.0) (Some u.0) _ c.in-Some.why c.close.ensures.closed
          (c.close.ensures.talks (Some u.0) (ends_by _ _ c.args.hand.now.by c.catch_up-pass.new.connection (view c.catch_up-pass.result.0) (Some u.0) _ c.in-Some.why c.in-Some.is u.1)),
    )

pub returns-in-Nothing-clause-some : goal.returns-in-Nothing-clause-some
returns-in-Nothing-clause-some g c = λ t.
    let k = c.catch_up-pass.new.connection in
    let v = view c.catch_up-pass.result.0 in
    let u = c.catch_up-pass.ensures.some t in (
      at_now (after_take Nothing c.take.new.buffer) u.0,
      nothing_taken _ _ c.args.hand.now.by k v (Some u.0) _ c.take.new.buffer refl (takes_by _ _ c.args.hand.now.by k v (Some u.0) _ c.in_default.is u.1),
    )

pub returns-in-End-clause-some : goal.returns-in-End-clause-some
returns-in-End-clause-some g c = λ t.
    let k = c.catch_up-pass.new.connection in
    let v = view c.catch_up-pass.result.0 in
    let u = c.catch_up-pass.ensures.some t in
    let l = at_now (after_take End c.take.new.buffer) u.0 in
    let ended = end_taken _ _ c.args.hand.now.by k v (Some u.0) (Some l) c.take.new.buffer refl (takes_by _ _ c.args.hand.now.by k v (Some u.0) _ c.in_default.is u.1) in (
      l,
      closed_went _ _ c.args.hand.now.by c.close-in-End.new.connection (view c.close-in-End.result.0) (Some l) _ _ c.close-in-End.ensures.closed (c.close-in-End.ensures.talks (Some l) ended),
    )

pub returns-in-Failed-clause-some : goal.returns-in-Failed-clause-some
returns-in-Failed-clause-some g c = λ t.
    let k = c.catch_up-pass.new.connection in
    let v = view c.catch_up-pass.result.0 in
    let u = c.catch_up-pass.ensures.some t in
    let l = at_now (after_take Failed c.take.new.buffer) u.0 in
    let failed = failed_taken _ _ c.args.hand.now.by k v (Some u.0) (Some l) c.take.new.buffer refl (takes_by _ _ c.args.hand.now.by k v (Some u.0) _ c.in_default.is u.1) in (
      l,
      closed_went _ _ c.args.hand.now.by c.close-in-Failed.new.connection (view c.close-in-Failed.result.0) (Some l) _ _ c.close-in-Failed.ensures.closed (c.close-in-Failed.ensures.talks (Some l) failed),
    )

pub returns-in-Got-clause-some : goal.returns-in-Got-clause-some
returns-in-Got-clause-some g c = λ t.
    let k = c.catch_up-pass.new.connection in
    let v = view c.catch_up-pass.result.0 in
    let u = c.catch_up-pass.ensures.some t in (
      at_now (after_take (Got c.in-Got.count) c.take.new.buffer) u.0,
      c.post.ensures.talks (Some u.0) c.in-Got.count c.take.new.buffer refl (takes_by _ _ c.args.hand.now.by k v (Some u.0) _ c.in_default.is u.1),
    )
