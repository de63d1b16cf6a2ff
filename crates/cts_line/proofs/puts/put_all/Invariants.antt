use Rattle.std.proofs.Common.{◌≡◌, ◌≤◌, ◌+◌, ℕ, List, true, length}
use Rattle.cts_entry.specs.declared.entry.Entry.{Entry}
use Rattle.cts_proto.specs.Meaning.{Meaning}
use Rattle.cts_entry.specs.Room.{Capacity}
use Rattle.cts_trace.specs.Routing.{Routing}
use Rattle.cts_line.specs.Talks.{Talks, Puts}
use Rattle.cts_line.specs.Telling.{Retells, SomeLine, since}
use Rattle.cts_line.proofs.puts.put_all.Given as goal

abbrev pub invariant-puts : goal.invariant-puts
invariant-puts g l = record {
  linked : (g.D.Link.seen l.dialer).linked ≡ true;
  faults : (g.D.Link.seen l.dialer).faults ≡ (g.D.Link.seen l.initial.dialer).faults;
  dials : (g.D.Link.seen l.dialer).failed_dials ≡ (g.D.Link.seen l.initial.dialer).failed_dials;
  finished : (g.D.Link.seen l.dialer).finished ≡ (g.D.Link.seen l.initial.dialer).finished;
  few : l.unsent + length l.left ≤ length l.spellings;
  retells : Retells (g.D.Link.seen l.initial.dialer).told (g.D.Link.seen l.dialer).told;
  talks : (r : Routing) (room : Capacity) (m place unsent : ℕ) (stages : List Meaning) (found : List ℕ) (history : List Entry) (k : ℕ) → Talks r room m (Puts l.spellings) stages place unsent found history (since k (g.D.Link.seen l.initial.dialer).told)
      → Talks r room m (Puts l.left) stages place (unsent + l.unsent) found history (since k (g.D.Link.seen l.dialer).told);
  some : (r : Routing) (room : Capacity) (m place unsent : ℕ) (stages : List Meaning) (found : List ℕ) (history : List Entry) → SomeLine (λ told. Talks r room m (Puts l.spellings) stages place unsent found history told)
      → SomeLine (λ told. Talks r room m (Puts l.left) stages place (unsent + l.unsent) found history told);
}

abbrev pub decreases-puts : goal.decreases-puts
decreases-puts g l = length l.left
