use Rattle.std.proofs.Common.{◌≡◌, true, Option, subst, refl, ◌∙◌, rules}
use Rattle.cts_entry.specs.Histories.{is_stopped}
use Rattle.cts_turn.specs.Passes.{view}
use Rattle.cts_worker.specs.Grounds.{ground}
use Rattle.cts_worker.proofs.Onwards.{onward_then, onward_same}
use Rattle.cts_desk.specs.declared.ending.HangUp.{HangUp}
use Rattle.cts_desk.specs.Serving.{Serving, after, is_stop}
use Rattle.cts_desk.proofs.Faulting.{rise_then, rise_same}
use Rattle.cts_desk.proofs.Rounding.{if_none, if_some}
use Rattle.cts_desk.proofs.rounds.talk.Goals as goal

pub rounds-init : goal.rounds-init
rounds-init g c = record {
  pass = c.requires.pass;
  ready = c.requires.ready;
  fits = c.requires.fits;
  onward = onward_same _;
  linked = c.requires.linked;
  dials = refl;
  faults = rise_same (g.R.Link.seen c.args.door.now);
  aim = refl;
  open_still = c.requires.open;
  room = search rules;
  serves = λ n was s. s;
}

pub rounds-preserved : goal.rounds-preserved
rounds-preserved g c =
    let e = c.round-next.ensures in
    let i = c.rounds.invariant in
    let is = c.in_default.is in record {
      pass = e.pass;
      ready = e.ready;
      fits = e.fits;
      onward = onward_then _ _ _ i.onward e.onward;
      linked = e.linked;
      dials = e.dials ∙ i.dials;
      faults = rise_then (g.R.Link.seen c.args.door.now) (g.R.Link.seen c.rounds.door) (g.R.Link.seen c.round-next.new.door) i.faults e.faults;
      aim = e.aim ∙ i.aim;
      open_still = if_none _ _ is e.open;
      room = search rules;
      serves = λ n was s. subst (λ (o : Option HangUp). Serving (g.S.Source.going c.round-next.result.0.source n (ground c.args.hand.now.turn.now) c.args.hand.now.by) was (after o) c.round-next.result.0.fronts.items (view c.round-next.result.0.pass) c.round-next.new.reader (g.R.Link.seen c.round-next.new.door).told) is
          (e.serves n was (i.serves n was s));
    }

pub returns-in-Some-end-clause-serves : goal.returns-in-Some-end-clause-serves
returns-in-Some-end-clause-serves g c = λ n was s.
    subst (λ (o : Option HangUp). Serving (g.S.Source.going c.round-next.result.0.source n (ground c.args.hand.now.turn.now) c.args.hand.now.by) was (after o) c.round-next.result.0.fronts.items (view c.round-next.result.0.pass) c.round-next.new.reader (g.R.Link.seen c.round-next.new.door).told) c.in-Some-end.is
    (c.round-next.ensures.serves n was (c.rounds.invariant.serves n was s))

pub returns-in-Some-end-clause-stop : goal.returns-in-Some-end-clause-stop
returns-in-Some-end-clause-stop g c = if_some _ c.in-Some-end.why (λ (why : HangUp). is_stop why ≡ true → is_stopped (view c.round-next.result.0.pass).seen ≡ true) c.in-Some-end.is c.round-next.ensures.stop

pub returns-in-Some-end-clause-onward : goal.returns-in-Some-end-clause-onward
returns-in-Some-end-clause-onward g c = onward_then _ _ _ c.rounds.invariant.onward c.round-next.ensures.onward

pub returns-in-Some-end-clause-faults : goal.returns-in-Some-end-clause-faults
returns-in-Some-end-clause-faults g c = rise_then (g.R.Link.seen c.args.door.now) (g.R.Link.seen c.rounds.door) (g.R.Link.seen c.round-next.new.door) c.rounds.invariant.faults c.round-next.ensures.faults

pub returns-in-Some-end-clause-aim : goal.returns-in-Some-end-clause-aim
returns-in-Some-end-clause-aim g c = c.round-next.ensures.aim ∙ c.rounds.invariant.aim
