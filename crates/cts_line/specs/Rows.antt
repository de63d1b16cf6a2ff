-- The entries of one piece stand side by side: what is told of a line, with its packets in rows, one row a piece.
use Rattle.std.specs.Prelude.{◌≡◌, ℕ, ◌<◌, true, List, [], ◌∷◌, ◌++◌, take, length, Option, Some, None}
use Rattle.std.specs.List.{flat_map}
use Rattle.cts_entry.specs.declared.entry.Entry.{Entry}
use Rattle.cts_entry.specs.Histories.{is_own}
use Rattle.cts_entry.specs.Places.{Stays}
use Rattle.cts_entry.specs.Room.{Capacity}
use Rattle.cts_framing.specs.Cuts.{Pieces}
use Rattle.cts_framing.specs.Framing.{Framing, Output}
use Rattle.cts_framing.specs.Packets.{IsPackets}
use Rattle.cts_outside.specs.Lines.{Connection, Line}
use Rattle.cts_trace.specs.Connections.{Shows, Stay}
use Rattle.cts_trace.specs.Lines.{Looked}
use Rattle.cts_trace.specs.Routing.{Routing}
use Rattle.cts_trace.specs.Told.{Unopened}

-- Behind the entries of before, these are entries of a maker, with none of another between, and show these packets in order, one entry a packet.
abbrev pub Row : Routing → ℕ → List Entry → List Output → List Entry → Type 0
Row g m before packets [] = packets ≡ []
Row g m before packets (e ∷ es) =
    (is_own m e ≡ true) × ((p : Output) × (more : List Output) × (packets ≡ p ∷ more) × Shows g m before e p × Row g m (before ++ e ∷ []) more es)

-- a chain gives these packets for these pieces
abbrev pub Gives : List Framing → List (List ℕ) → List Output → Type 0
Gives chain pieces packets = (cuts : List Pieces) × IsPackets chain pieces cuts packets

-- the packets of some rows, one row after another
abbrev pub in_line : List (List Output) → List Output
in_line rows = flat_map (λ (row : List Output). row) rows

-- The packets that were posted of these pieces stand in rows, one row a piece: those of the rows before any other are all that the chain
-- gives for the pieces before its. Behind the entries of before, the entries hold one row after another, and the maker's entries of a
-- connection are in these alone; so between two entries of one piece stands no other.
pub record InRows (g : Routing) (m : ℕ) (fed : List (List ℕ)) (posted : List Output) (before entries : List Entry) : Type 0 where
  pub rows : List (List Output)
  pub count : length rows ≡ length fed
  pub posted_is : posted ≡ in_line rows
  pub each : (n : ℕ) → n < length rows → Gives (g.chain m) (take n fed) (in_line (take n rows))
  pub stand : Stays m (Row g m) before rows entries

-- ---- of all connections

-- the entries are those of a connection that ended, and what was posted of its pieces stands in rows
pub record StaysInRows (g : Routing) (m : ℕ) (before : List Entry) (c : Connection) (entries : List Entry) : Type 0 where
  pub stay : Stay g m before c.pieces c.put entries
  pub rows : InRows g m stay.fed stay.carries.posted (before ++ stay.opened ∷ []) stay.between

-- of a line that made its holds at these places
abbrev pub LookedInRows : Routing → Capacity → ℕ → List ℕ → List Entry → Connection → List Entry → Type 0
LookedInRows g room m found before c entries = Looked g room m found before c entries × StaysInRows g m before c entries

-- the history says this of these connections, one after another
abbrev pub SaidInRows : Routing → Capacity → ℕ → List ℕ → List Connection → List Entry → Type 0
SaidInRows g room m found past history = Stays m (LookedInRows g room m found) [] past history

-- every connection that was hung up is said so, and none stands
abbrev pub SettledInRows : Routing → Capacity → ℕ → List ℕ → List Entry → Option Line → Type 0
SettledInRows g room m found history None = Unit {0}
SettledInRows g room m found history (Some line) = (line.now ≡ None) × SaidInRows g room m found line.past history

-- all connections of a line are said so, but that the last one may have no entry where a Stop stands
abbrev pub ToldInRows : Routing → Capacity → ℕ → List ℕ → List Entry → Option Line → Type 0
ToldInRows g room m found history None = Unit {0}
ToldInRows g room m found history (Some line) = (said last : List Connection) × (line.now ≡ None) × (line.past ≡ said ++ last)
    × SaidInRows g room m found said history × Unopened history last
