use Rattle.std.proofs.Common.{◌≡◌, ◌≤◌, ℕ, length, true, None}
use Rattle.cts_chain.specs.Shapes.{IsSameChain}
use Rattle.cts_entry.specs.Histories.{is_connected}
use Rattle.cts_turn.specs.Lists.{has}
use Rattle.cts_turn.specs.Passes.{IsPassOf, basis_of, view}
use Rattle.cts_connection.specs.Routings.{site_routing}
use Rattle.cts_line.specs.Ending.{Keeps, has_stop}
use Rattle.cts_worker.specs.Holds.{Onward}
use Rattle.cts_line.specs.Talks.{Suits, TalksAt, Waits, room_of}
use Rattle.cts_line.specs.Telling.{Retells, SomeLine, since}
use Rattle.cts_table.specs.contracts.hall.HallStands.TheImpl.{ghosts as hall}
use Rattle.cts_line.proofs.rounds.talk.Given as goal

abbrev pub invariant-rounds : goal.invariant-rounds
invariant-rounds g l = record {
  next : (goal.iterator-rounds g).can_next l.iterator';
  pass : IsPassOf l.hand.turn.now l.pass;
  by : has l.hand.by (view l.pass).makers ≡ true;
  onward : Onward (view l.initial.pass) (view l.pass);
  linked : (g.D.Link.seen l.dialer).linked ≡ true;
  room : length l.buffer ≡ length l.initial.buffer;
  same : IsSameChain l.initial.connection.chain l.connection.chain;
  suits : Suits (basis_of hall.basis l.hand.turn.now).site l.hand.by l.connection.chain;
  on : is_connected l.hand.by (view l.pass).seen ≡ true;
  place : l.connection.cursor.place ≤ length (view l.pass).seen;
  keeps : Keeps l.hand.by (view l.initial.pass).seen (view l.pass).seen None;
  faults : (g.D.Link.seen l.dialer).faults ≡ (g.D.Link.seen l.initial.dialer).faults;
  dials : (g.D.Link.seen l.dialer).failed_dials ≡ (g.D.Link.seen l.initial.dialer).failed_dials;
  finished : (g.D.Link.seen l.dialer).finished ≡ (g.D.Link.seen l.initial.dialer).finished;
  stop : has_stop l.hand.by (view l.pass).seen ≡ has_stop l.hand.by (view l.initial.pass).seen;
  retells : Retells (g.D.Link.seen l.initial.dialer).told (g.D.Link.seen l.dialer).told;
  talks : (k : ℕ) → TalksAt (site_routing (basis_of hall.basis l.hand.turn.now).site) (room_of (basis_of hall.basis l.hand.turn.now)) l.hand.by Waits l.initial.connection (view l.initial.pass) (since k (g.D.Link.seen l.initial.dialer).told)
      → TalksAt (site_routing (basis_of hall.basis l.hand.turn.now).site) (room_of (basis_of hall.basis l.hand.turn.now)) l.hand.by Waits l.connection (view l.pass) (since k (g.D.Link.seen l.dialer).told);
  some : SomeLine (λ told. TalksAt (site_routing (basis_of hall.basis l.hand.turn.now).site) (room_of (basis_of hall.basis l.hand.turn.now)) l.hand.by Waits l.initial.connection (view l.initial.pass) told)
      → SomeLine (λ told. TalksAt (site_routing (basis_of hall.basis l.hand.turn.now).site) (room_of (basis_of hall.basis l.hand.turn.now)) l.hand.by Waits l.connection (view l.pass) told);
}
