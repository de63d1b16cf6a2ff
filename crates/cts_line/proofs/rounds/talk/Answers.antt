use Rattle.std.proofs.Common.{◌≤◌, Some, ap, length, refl, rules, ◌∙◌}
use Rattle.cts_turn.specs.Lists.{has}
use Rattle.cts_turn.specs.Passes.{view}
use Rattle.cts_line.proofs.Chaining.{same_self, suits_same}
use Rattle.cts_connection.proofs.Gathering.{same_then}
use Rattle.cts_worker.proofs.Onwards.{onward_same, onward_then}
use Rattle.cts_line.proofs.Dialing.{if_none, none_kept, rose_none, still_on, went_none, went_some}
use Rattle.cts_line.proofs.Keeping.{keeps_same, keeps_then}
use Rattle.cts_line.proofs.Telling.{retells_same, retells_then}
use Rattle.cts_line.proofs.rounds.talk.Goals as goal

pub rounds-init : goal.rounds-init
rounds-init g c = record {
  next = search rules;
  pass = c.requires.pass;
  by = c.requires.by;
  onward = onward_same (view c.args.pass);
  linked = c.requires.linked;
  room = refl;
  same = same_self c.args.connection.now.chain;
  suits = c.requires.suits;
  on = c.requires.on;
  place = c.requires.place;
  keeps = keeps_same c.args.hand.now.by (view c.args.pass).seen;
  faults = refl;
  dials = refl;
  finished = refl;
  stop = refl;
  retells = retells_same _;
  talks = λ k t. t;
  some = λ t. t;
}

pub rounds-preserved : goal.rounds-preserved
rounds-preserved g c =
    let e = c.round-next.ensures in
    let i = c.rounds.invariant in
    let v = view c.rounds.pass in
    let w = view c.round-next.result.0 in
    let is = c.in_default.is in
    let kept = none_kept c.args.hand.now.by v.seen w.seen _ is e.keeps in record {
      next = tt;
      pass = e.pass;
      by = ap (has c.args.hand.now.by) e.onward.makers ∙ i.by;
      onward = onward_then (view c.args.pass) v w i.onward e.onward;
      linked = e.linked;
      room = e.room ∙ i.room;
      same = same_then c.args.connection.now.chain c.rounds.connection.chain c.round-next.new.connection.chain i.same e.same;
      suits = suits_same _ c.args.hand.now.by c.rounds.connection.chain c.round-next.new.connection.chain e.same i.suits;
      on = still_on c.args.hand.now.by v.seen w.seen kept i.on;
      place = if_none _ (c.round-next.new.connection.cursor.place ≤ length w.seen) is e.place;
      keeps = keeps_then c.args.hand.now.by (view c.args.pass).seen v.seen w.seen _ i.keeps kept;
      faults = rose_none _ _ _ is e.cause ∙ i.faults;
      dials = e.dials ∙ i.dials;
      finished = e.finished ∙ i.finished;
      stop = e.stop ∙ i.stop;
      retells = retells_then _ _ _ i.retells e.retells;
      talks = λ k t. went_none _ _ c.args.hand.now.by c.round-next.new.connection w _ _ is (e.talks k (i.talks k t));
      some = λ t. let u = e.some (i.some t) in (u.0, went_none _ _ c.args.hand.now.by c.round-next.new.connection w (Some u.0) _ is u.1);
    }

pub returns-in-Some-closed-clause-closed : goal.returns-in-Some-closed-clause-closed
returns-in-Some-closed-clause-closed g c = λ k t.
    went_some _ _ c.args.hand.now.by c.round-next.new.connection (view c.round-next.result.0) _ _ c.in-Some-closed.why c.in-Some-closed.is (c.round-next.ensures.talks k (c.rounds.invariant.talks k t))

pub returns-in-Some-closed-clause-stop : goal.returns-in-Some-closed-clause-stop
returns-in-Some-closed-clause-stop g c = c.round-next.ensures.stop ∙ c.rounds.invariant.stop

pub returns-in-Some-closed-clause-retells : goal.returns-in-Some-closed-clause-retells
returns-in-Some-closed-clause-retells g c = retells_then _ _ _ c.rounds.invariant.retells c.round-next.ensures.retells

pub returns-in-Some-closed-clause-onward : goal.returns-in-Some-closed-clause-onward
returns-in-Some-closed-clause-onward g c = onward_then (view c.args.pass) (view c.rounds.pass) (view c.round-next.result.0) c.rounds.invariant.onward c.round-next.ensures.onward

pub returns-in-Some-closed-clause-same : goal.returns-in-Some-closed-clause-same
returns-in-Some-closed-clause-same g c = same_then c.args.connection.now.chain c.rounds.connection.chain c.round-next.new.connection.chain c.rounds.invariant.same c.round-next.ensures.same

pub returns-in-Some-closed-clause-some : goal.returns-in-Some-closed-clause-some
returns-in-Some-closed-clause-some g c = λ t.
    let u = c.round-next.ensures.some (c.rounds.invariant.some t) in (
      u.0,
      went_some _ _ c.args.hand.now.by c.round-next.new.connection (view c.round-next.result.0) (Some u.0) _ c.in-Some-closed.why c.in-Some-closed.is u.1,
    )
