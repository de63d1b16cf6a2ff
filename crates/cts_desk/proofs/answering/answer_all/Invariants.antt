use Rattle.std.proofs.Common.{◌≡◌, ℕ, true, false, List}
use Rattle.cts_outside.specs.Lines.{Connection}
use Rattle.cts_turn.specs.Passes.{IsPassOf, view}
use Rattle.cts_desk.specs.Faults.{FaultsRise}
use Rattle.cts_desk.specs.Told.{aim_of}
use Rattle.cts_worker.specs.Grounds.{ground}
use Rattle.cts_desk.specs.Holds.{IsReady}
use Rattle.cts_worker.specs.Holds.{Onward}
use Rattle.cts_desk.specs.Serving.{Serving, Reads}
use Rattle.cts_desk.proofs.answering.answer_all.Given as goal

abbrev pub invariant-requests : goal.invariant-requests
invariant-requests g l = record {
  pass : IsPassOf l.hand.turn.now l.talk.pass;
  ready : IsReady (ground l.hand.turn.now) l.hand.by (view l.talk.pass);
  fits : g.S.Source.fits l.talk.source (ground l.hand.turn.now);
  onward : Onward (view l.initial.talk.pass) (view l.talk.pass);
  linked : (g.R.Link.seen l.door).linked ≡ true;
  dials : (g.R.Link.seen l.door).failed_dials ≡ (g.R.Link.seen l.initial.door).failed_dials;
  faults : FaultsRise (g.R.Link.seen l.initial.door) (g.R.Link.seen l.door);
  aim : aim_of (g.R.Link.seen l.door).told ≡ aim_of (g.R.Link.seen l.initial.door).told;
  open_still : l.reader.closed ≡ false;
  serves : (n : ℕ) (was : List Connection) → Serving (g.S.Source.going l.initial.talk.source n (ground l.hand.turn.now) l.hand.by) was Reads l.initial.talk.fronts.items (view l.initial.talk.pass) l.initial.reader (g.R.Link.seen l.initial.door).told
      → Serving (g.S.Source.going l.talk.source n (ground l.hand.turn.now) l.hand.by) was Reads l.talk.fronts.items (view l.talk.pass) l.reader (g.R.Link.seen l.door).told;
}
