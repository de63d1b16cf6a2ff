use Rattle.std.proofs.Common.{◌≡◌, ℕ, false, List}
use Rattle.cts_outside.specs.Lines.{Connection}
use Rattle.cts_turn.specs.Passes.{IsPassOf, view}
use Rattle.cts_desk.specs.Faults.{FaultsRise}
use Rattle.cts_desk.specs.Told.{aim_of}
use Rattle.cts_worker.specs.Grounds.{ground}
use Rattle.cts_desk.specs.Holds.{IsReady}
use Rattle.cts_worker.specs.Holds.{Onward}
use Rattle.cts_desk.specs.Serving.{Resting}
use Rattle.cts_desk.proofs.dials.connect.Given as goal

abbrev pub invariant-dials : goal.invariant-dials
invariant-dials g l = record {
  pass : IsPassOf l.hand.turn.now l.talk.pass;
  ready : IsReady (ground l.hand.turn.now) l.hand.by (view l.talk.pass);
  fits : g.S.Source.fits l.talk.source (ground l.hand.turn.now);
  onward : Onward (view l.initial.talk.pass) (view l.talk.pass);
  idle : (g.R.Link.seen l.door).linked ≡ false;
  dials : (g.R.Link.seen l.door).failed_dials ≡ (g.R.Link.seen l.initial.door).failed_dials;
  faults : FaultsRise (g.R.Link.seen l.initial.door) (g.R.Link.seen l.door);
  aim : aim_of (g.R.Link.seen l.door).told ≡ aim_of (g.R.Link.seen l.initial.door).told;
  serves : (n : ℕ) (was : List Connection) → Resting (g.S.Source.going l.initial.talk.source n (ground l.hand.turn.now) l.hand.by) was false l.initial.talk.fronts.items (view l.initial.talk.pass) (g.R.Link.seen l.initial.door).told
      → Resting (g.S.Source.going l.talk.source n (ground l.hand.turn.now) l.hand.by) was false l.talk.fronts.items (view l.talk.pass) (g.R.Link.seen l.door).told;
}
