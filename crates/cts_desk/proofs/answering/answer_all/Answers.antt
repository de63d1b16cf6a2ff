use Rattle.std.proofs.Common.{subst, refl, Bool, ◌∙◌, ◌≡◌, true}
use Rattle.cts_desk.specs.Serving.{Serving, Reads, goes_on}
use Rattle.cts_turn.specs.Passes.{view}
use Rattle.cts_worker.specs.Grounds.{ground}
use Rattle.cts_worker.proofs.Onwards.{onward_then, onward_same}
use Rattle.cts_desk.proofs.Steps.{serving_more, serving_refused, serving_asks, given_of}
use Rattle.cts_desk.proofs.Faulting.{rise_then, rise_same}
use Rattle.cts_desk.proofs.Aiming.{aim_put}
use Rattle.cts_desk.proofs.answering.answer_all.Goals as goal

pub returns-in-More-clause-serves : goal.returns-in-More-clause-serves
returns-in-More-clause-serves g c = λ n was s.
    serving_more (g.S.Source.going c.requests.talk.source n (ground c.args.hand.now.turn.now) c.args.hand.now.by) was c.requests.reader c.next-step.new.self c.requests.talk.fronts.items (view c.requests.talk.pass) (g.R.Link.seen c.requests.door).told (c.requests.invariant.serves n was s) c.in-More.ensures.answer

pub returns-in-Refuse-clause-serves : goal.returns-in-Refuse-clause-serves
returns-in-Refuse-clause-serves g c = λ n was s.
    serving_refused (g.S.Source.going c.requests.talk.source n (ground c.args.hand.now.turn.now) c.args.hand.now.by) was c.requests.reader c.next-step.new.self c.requests.talk.fronts.items (view c.requests.talk.pass) (g.R.Link.seen c.requests.door).told (c.requests.invariant.serves n was s)
    c.in-Refuse.status (g.R.Link.seen c.put_refusal-put.new.door).told c.put_refusal-put.result c.in-Refuse.ensures.answer c.put_refusal-put.ensures.content

pub returns-then-not-goes-clause-serves : goal.returns-then-not-goes-clause-serves
returns-then-not-goes-clause-serves g c = λ n was s.
    let r = given_of c.requests.reader c.next-step.new.self c.in-Request.last c.in-Request.ensures.step in
    let asks = serving_asks (g.S.Source.going c.requests.talk.source n (ground c.args.hand.now.turn.now) c.args.hand.now.by) was c.requests.reader c.next-step.new.self c.requests.talk.fronts.items (view c.requests.talk.pass) (g.R.Link.seen c.requests.door).told (c.requests.invariant.serves n was s)
    r.0 c.in-Request.last r.1 c.in-Request.ensures.answer in
    subst (λ (x : Bool). Serving (g.S.Source.going c.answer-next.result.0.source n (ground c.args.hand.now.turn.now) c.args.hand.now.by) was (goes_on x Reads) c.answer-next.result.0.fronts.items (view c.answer-next.result.0.pass) c.next-step.new.self (g.R.Link.seen c.answer-next.new.door).told) c.if-not-goes.true
    (c.answer-next.ensures.serves n was r.0 r.1 asks)

pub requests-preserved : goal.requests-preserved
requests-preserved g c =
    let r = given_of c.requests.reader c.next-step.new.self c.in-Request.last c.in-Request.ensures.step in
    let goes : c.answer-next.result.1 ≡ true = c.if-not-goes.false in record {
      pass = c.answer-next.ensures.pass;
      ready = c.answer-next.ensures.ready;
      fits = c.answer-next.ensures.fits;
      onward = onward_then _ _ _ c.requests.invariant.onward c.answer-next.ensures.onward;
      linked = c.answer-next.ensures.linked;
      dials = c.answer-next.ensures.dials ∙ c.requests.invariant.dials;
      faults = rise_then (g.R.Link.seen c.args.door.now) (g.R.Link.seen c.requests.door) (g.R.Link.seen c.answer-next.new.door) c.requests.invariant.faults c.answer-next.ensures.faults;
      aim = c.answer-next.ensures.aim ∙ c.requests.invariant.aim;
      open_still = r.3 ∙ c.answer-next.ensures.last goes;
      serves = λ n was s.
          let asks = serving_asks (g.S.Source.going c.requests.talk.source n (ground c.args.hand.now.turn.now) c.args.hand.now.by) was c.requests.reader c.next-step.new.self c.requests.talk.fronts.items (view c.requests.talk.pass) (g.R.Link.seen c.requests.door).told (c.requests.invariant.serves n was s)
          r.0 c.in-Request.last r.1 c.in-Request.ensures.answer in
          subst (λ (x : Bool). Serving (g.S.Source.going c.answer-next.result.0.source n (ground c.args.hand.now.turn.now) c.args.hand.now.by) was (goes_on x Reads) c.answer-next.result.0.fronts.items (view c.answer-next.result.0.pass) c.next-step.new.self (g.R.Link.seen c.answer-next.new.door).told) goes
          (c.answer-next.ensures.serves n was r.0 r.1 asks);
    }

pub returns-in-Refuse-clause-faults : goal.returns-in-Refuse-clause-faults
returns-in-Refuse-clause-faults g c = rise_then (g.R.Link.seen c.args.door.now) (g.R.Link.seen c.requests.door) (g.R.Link.seen c.put_refusal-put.new.door) c.requests.invariant.faults c.put_refusal-put.ensures.faults

pub returns-then-not-goes-clause-faults : goal.returns-then-not-goes-clause-faults
returns-then-not-goes-clause-faults g c = rise_then (g.R.Link.seen c.args.door.now) (g.R.Link.seen c.requests.door) (g.R.Link.seen c.answer-next.new.door) c.requests.invariant.faults c.answer-next.ensures.faults

pub returns-in-Refuse-clause-aim : goal.returns-in-Refuse-clause-aim
returns-in-Refuse-clause-aim g c = aim_put _ _ _ c.put_refusal-put.result c.put_refusal-put.ensures.content ∙ c.requests.invariant.aim

pub returns-then-not-goes-clause-aim : goal.returns-then-not-goes-clause-aim
returns-then-not-goes-clause-aim g c = c.answer-next.ensures.aim ∙ c.requests.invariant.aim

pub requests-init : goal.requests-init
requests-init g c = record {
  pass = c.requires.pass;
  ready = c.requires.ready;
  fits = c.requires.fits;
  onward = onward_same _;
  linked = c.requires.linked;
  dials = refl;
  faults = rise_same (g.R.Link.seen c.args.door.now);
  aim = refl;
  open_still = c.requires.open;
  serves = λ n was s. s;
}

pub returns-then-not-goes-clause-onward : goal.returns-then-not-goes-clause-onward
returns-then-not-goes-clause-onward g c = onward_then _ _ _ c.requests.invariant.onward c.answer-next.ensures.onward
