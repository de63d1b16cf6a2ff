-- What the history has to say of all connections of a maker.
use Rattle.std.specs.Prelude.{◌≡◌, ℕ, true, List, [], ◌∷◌, ◌++◌, Option, Some, None}
use Rattle.cts_entry.specs.declared.entry.Entry.{Entry}
use Rattle.cts_entry.specs.Histories.{is_stopped}
use Rattle.cts_entry.specs.Places.{Stays}
use Rattle.cts_outside.specs.Lines.{Connection, Line, fresh}
use Rattle.cts_trace.specs.Routing.{Routing}
use Rattle.cts_trace.specs.Connections.{Stay, Talks}
use Rattle.cts_entry.specs.Room.{Capacity}
use Rattle.cts_trace.specs.Lines.{Looked}

-- ---- in any run

-- the entries are those of this connection, which ended
abbrev pub IsStay : Routing → ℕ → List Entry → Connection → List Entry → Type 0
IsStay g m before c entries = Stay g m before c.pieces c.put entries

-- the history says this of these connections, one after another
abbrev pub Past : Routing → ℕ → List Connection → List Entry → Type 0
Past g m past history = Stays m (IsStay g m) [] past history

-- and of the one that stands after them, if one does
abbrev pub Tells : Routing → ℕ → List Entry → List Connection → Option Connection → Type 0
Tells g m history past None = Past g m past history
Tells g m history past (Some c) = (before : List Entry) × (entries : List Entry) × (history ≡ before ++ entries) × Past g m past before
    × Talks g m before c.pieces c.put entries

-- ---- by a running line

-- the history says this of these connections, of a line that made its holds at these places
abbrev pub Said : Routing → Capacity → ℕ → List ℕ → List Connection → List Entry → Type 0
Said g room m found past history = Stays m (Looked g room m found) [] past history

-- every connection that was hung up is said, and none stands
abbrev pub Settled : Routing → Capacity → ℕ → List ℕ → List Entry → Option Line → Type 0
Settled g room m found history None = Unit {0}
Settled g room m found history (Some line) = (line.now ≡ None) × Said g room m found line.past history

-- at most one connection, of which nothing was asked: a Stop stands
abbrev pub Unopened : List Entry → List Connection → Type 0
Unopened history [] = Unit {0}
Unopened history (c ∷ []) = (c ≡ fresh) × (is_stopped history ≡ true)
Unopened history (c ∷ d ∷ cs) = ⊥

-- Told by a line: all its connections are said, but that the last one may have no entry.
abbrev pub ToldBy : Routing → Capacity → ℕ → List ℕ → List Entry → Option Line → Type 0
ToldBy g room m found history None = Unit {0}
ToldBy g room m found history (Some line) =
    (said last : List Connection) × (line.now ≡ None) × (line.past ≡ said ++ last) × Said g room m found said history × Unopened history last

-- a dial has answered that there will be no further connection
abbrev pub HasFinished : Option Line → Type 0
HasFinished None = Unit {0}
HasFinished (Some line) = line.finished ≡ true
