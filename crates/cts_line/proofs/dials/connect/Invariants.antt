use Rattle.std.proofs.Common.{◌≡◌, ℕ, None, length, true, false}
use Rattle.cts_chain.specs.Shapes.{IsSameChain}
use Rattle.cts_framing.specs.Packets.{capped}
use Rattle.cts_turn.specs.Lists.{has}
use Rattle.cts_turn.specs.Passes.{IsPassOf, basis_of, view}
use Rattle.cts_connection.specs.Routings.{site_routing}
use Rattle.cts_line.specs.Rows.{SettledInRows}
use Rattle.cts_worker.specs.Lasts.{IsShut}
use Rattle.cts_line.specs.Ending.{DialsFor, FaultsRise, Heeds, has_stop, opened_in, reconnects}
use Rattle.cts_worker.specs.Holds.{Onward}
use Rattle.cts_line.specs.Talks.{Suits, room_of}
use Rattle.cts_line.specs.Telling.{Has, Retells, SomeLine, since}
use Rattle.cts_table.specs.contracts.hall.HallStands.TheImpl.{ghosts as hall}
use Rattle.cts_line.proofs.dials.connect.Given as goal

abbrev pub invariant-dials : goal.invariant-dials
invariant-dials g l = record {
  next : (goal.iterator-dials g).can_next l.iterator';
  pass : IsPassOf l.hand.turn.now l.pass;
  by : has l.hand.by (view l.pass).makers ≡ true;
  onward : Onward (view l.initial.pass) (view l.pass);
  idle : (g.D.Link.seen l.dialer).linked ≡ false;
  room : length l.buffer ≡ length l.initial.buffer;
  same : IsSameChain l.initial.connection.chain l.connection.chain;
  suits : Suits (basis_of hall.basis l.hand.turn.now).site l.hand.by l.connection.chain;
  shut : IsShut l.hand.by (view l.pass).seen;
  count : l.connections ≡ capped (opened_in l.hand.by (view l.pass).seen);
  faults : FaultsRise l.hand.by (view l.initial.pass).seen (view l.pass).seen (g.D.Link.seen l.initial.dialer).faults (g.D.Link.seen l.dialer).faults;
  dials : DialsFor l.hand.site.now l.hand.by None (g.D.Link.seen l.initial.dialer) (g.D.Link.seen l.dialer);
  heeds : Heeds l.hand.by (view l.initial.pass).seen (view l.pass).seen None;
  once : reconnects l.hand.site.now l.hand.by ≡ false → opened_in l.hand.by (view l.pass).seen ≡ opened_in l.hand.by (view l.initial.pass).seen;
  stop : has_stop l.hand.by (view l.pass).seen ≡ has_stop l.hand.by (view l.initial.pass).seen;
  retells : Retells (g.D.Link.seen l.initial.dialer).told (g.D.Link.seen l.dialer).told;
  settled : (k : ℕ) → Has k (g.D.Link.seen l.initial.dialer).told → SettledInRows (site_routing (basis_of hall.basis l.hand.turn.now).site) (room_of (basis_of hall.basis l.hand.turn.now)) l.hand.by (view l.initial.pass).found (view l.initial.pass).seen (since k (g.D.Link.seen l.initial.dialer).told)
      → SettledInRows (site_routing (basis_of hall.basis l.hand.turn.now).site) (room_of (basis_of hall.basis l.hand.turn.now)) l.hand.by (view l.pass).found (view l.pass).seen (since k (g.D.Link.seen l.dialer).told);
  some : SomeLine (λ told. SettledInRows (site_routing (basis_of hall.basis l.hand.turn.now).site) (room_of (basis_of hall.basis l.hand.turn.now)) l.hand.by (view l.initial.pass).found (view l.initial.pass).seen told)
      → SomeLine (λ told. SettledInRows (site_routing (basis_of hall.basis l.hand.turn.now).site) (room_of (basis_of hall.basis l.hand.turn.now)) l.hand.by (view l.pass).found (view l.pass).seen told);
}
