use Rattle.std.proofs.Common.{◌≡◌, ◌∙◌, Some, refl, sym}
use Rattle.cts_worker.proofs.Onwards.{onward_then, onward_same}
use Rattle.cts_desk.proofs.Faulting.{rise_then, rise_same}
use Rattle.cts_desk.specs.declared.ending.DeskWhy.TheVariants.{DoorFailed}
use Rattle.cts_desk.proofs.dials.connect.Goals as goal

pub dials-init : goal.dials-init
dials-init g c = record {
  pass = c.requires.pass;
  ready = c.requires.ready;
  fits = c.requires.fits;
  onward = onward_same _;
  idle = c.requires.idle;
  dials = refl;
  faults = rise_same (g.R.Link.seen c.args.door.now);
  aim = refl;
  serves = λ n was s. s;
}

pub returns-in-Some-end-clause-onward : goal.returns-in-Some-end-clause-onward
returns-in-Some-end-clause-onward g c = onward_then _ _ _ c.dials.invariant.onward c.attempt-next.ensures.onward

pub returns-in-Some-end-clause-faults : goal.returns-in-Some-end-clause-faults
returns-in-Some-end-clause-faults g c = rise_then (g.R.Link.seen c.args.door.now) (g.R.Link.seen c.dials.door) (g.R.Link.seen c.attempt-next.new.door) c.dials.invariant.faults c.attempt-next.ensures.faults

pub returns-in-Some-end-clause-failed : goal.returns-in-Some-end-clause-failed
returns-in-Some-end-clause-failed g c apart =
    c.attempt-next.ensures.failed (λ same. apart (let f : Some c.in-Some-end.why ≡ Some DoorFailed = sym c.in-Some-end.is ∙ same in cc)) ∙ c.dials.invariant.dials
