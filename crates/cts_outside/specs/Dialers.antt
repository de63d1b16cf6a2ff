-- What a dialer in memory holds, and what one call leaves of it.
use Rattle.std.specs.Prelude.{length, ◌≡◌, ℕ, ◌-◌, ◌≤◌, ◌<◌, min, true, List, [], ◌∷◌, ◌++◌, take, drop, map, Option, Some, None}
use Rattle.cts_outside.specs.Causes.{raised}
use Rattle.cts_outside.specs.Lines.{Connection, Line, no_connections}
use Rattle.cts_outside.specs.declared.link.Taken.{Taken}
use Rattle.cts_outside.specs.declared.link.Taken.TheVariants.{Got, Nothing, End, Failed}
use Rattle.cts_outside.specs.declared.link.Dialed.{Dialed}
use Rattle.cts_outside.specs.declared.link.Dialed.TheVariants.{Linked, Later, Finished, Failed as DialFailed}
use Rattle.cts_outside.specs.declared.mem_dialer.MemPiece.{MemPiece}
use Rattle.cts_outside.specs.declared.mem_dialer.MemPiece.TheVariants.{Bytes, Nothing as NoByte}
use Rattle.cts_outside.specs.declared.mem_dialer.MemConnection.{MemConnection}

-- ---- the script

-- the bytes of a piece; one without bytes stands for a take that answers Nothing
abbrev pub piece_bytes : MemPiece → List ℕ
piece_bytes (Bytes bytes) = bytes
piece_bytes NoByte = []

-- what a connection gives, piece by piece
abbrev pub script_of : MemConnection → List (List ℕ)
script_of c = map piece_bytes c.pieces.items

-- what is noted of a connection, and how many put bytes it has memory for
pub record NotedHeld : Type 0 where
  pub connection : Connection
  pub room : ℕ

abbrev pub put_room : Option NotedHeld → ℕ
put_room (Some noted) = noted.room
put_room None = 0

-- A dialer in memory: the connections to come; what the one that stands still gives, and how many put bytes it has memory for;
-- what is told; the numbers of the calls that are to fail; and the takes, puts and dials so far, and those of them that failed.
pub record DialerHeld : Type 0 where
  pub waiting : List MemConnection
  pub script : List (List ℕ)
  pub room : ℕ
  pub line : Line
  pub failing : List ℕ
  pub calls : ℕ
  pub faults : ℕ
  pub failed_dials : ℕ

abbrev pub dialer_at_first : List MemConnection → List ℕ → DialerHeld
dialer_at_first connections failing = record {
  waiting = connections;
  script = [];
  room = 0;
  line = no_connections;
  failing = failing;
  calls = 0;
  faults = 0;
  failed_dials = 0;
}

-- ---- take

-- the script from the rest of its first piece on
abbrev pub left_of : List ℕ → List (List ℕ) → List (List ℕ)
left_of [] later = later
left_of (b ∷ bs) later = (b ∷ bs) ∷ later

-- a take gives n bytes: the front of the first piece, as much of it as the buffer has room for
abbrev pub GivesFront : List (List ℕ) → List (List ℕ) → ℕ → ℕ → List ℕ → Type 0
GivesFront [] new room n buffer = ⊥
GivesFront (piece ∷ later) new room n buffer = (n ≡ min room (length piece)) × (take n buffer ≡ take n piece) × (new ≡ left_of (drop n piece) later)

-- What a take gives of a script, and what it leaves of it: bytes of the first piece; Nothing exactly at a piece without bytes,
-- and End exactly where no piece is left. A take that fails leaves the script.
abbrev pub GivesBy : List (List ℕ) → List (List ℕ) → ℕ → Taken → List ℕ → Type 0
GivesBy old new room (Got n) buffer = GivesFront old new room n buffer
GivesBy old new room Nothing buffer = old ≡ [] ∷ new
GivesBy old new room End buffer = (old ≡ []) × (new ≡ [])
GivesBy old new room Failed buffer = new ≡ old

-- the next take gives bytes
abbrev pub HasBytes : List (List ℕ) → Type 0
HasBytes [] = ⊥
HasBytes (piece ∷ later) = 0 < length piece

-- a take that fails for no number of the list does so for want of memory, which bytes alone take
abbrev pub WantsMemory : List (List ℕ) → Taken → Type 0
WantsMemory script (Got n) = Unit {0}
WantsMemory script Nothing = Unit {0}
WantsMemory script End = Unit {0}
WantsMemory script Failed = HasBytes script

-- the connection after a take whose piece stands in it already
abbrev pub after_noted_take : Taken → Connection → Connection
after_noted_take (Got n) c = record c { takes = raised c.takes }
after_noted_take Nothing c = record c { takes = raised c.takes }
after_noted_take End c = record c { takes = raised c.takes; ended = true }
after_noted_take Failed c = record c { takes = raised c.takes; take_failed = true }

-- the count of faults after a take
abbrev pub faults_after_take : Taken → ℕ → ℕ
faults_after_take (Got n) faults = faults
faults_after_take Nothing faults = faults
faults_after_take End faults = faults
faults_after_take Failed faults = raised faults

-- the pieces told after a take
abbrev pub pieces_after : Taken → List ℕ → List (List ℕ) → List (List ℕ)
pieces_after (Got n) buffer pieces = pieces ++ take n buffer ∷ []
pieces_after Nothing buffer pieces = pieces
pieces_after End buffer pieces = pieces
pieces_after Failed buffer pieces = pieces

-- the first piece has so many bytes
abbrev pub Reaches : List (List ℕ) → ℕ → Type 0
Reaches [] n = ⊥
Reaches (piece ∷ later) n = n ≤ length piece

-- the script without so many bytes of its first piece
abbrev pub passed : List (List ℕ) → ℕ → List (List ℕ)
passed [] n = []
passed (piece ∷ later) n = left_of (drop n piece) later

-- ---- dial

-- a connection that is to answer one Later less
abbrev pub nearer : MemConnection → MemConnection
nearer c = record c { later = c.later - 1 }

-- the first connection is made
abbrev pub MakesFirst : List MemConnection → List MemConnection → List (List ℕ) → Type 0
MakesFirst [] new script = ⊥
MakesFirst (c ∷ more) new script = (c.later ≡ 0) × (new ≡ more) × (script ≡ script_of c)

-- the first connection is not ready, and comes nearer
abbrev pub WaitsFirst : List MemConnection → List MemConnection → Type 0
WaitsFirst [] new = ⊥
WaitsFirst (c ∷ more) new = (1 ≤ c.later) × (new ≡ nearer c ∷ more)

-- What a dial answers, and what it leaves of the connections to come and of the script: Linked exactly where the first one is to
-- answer Later no more, Later exactly where it still is, and Finished exactly where none is to come. A dial that fails leaves all.
abbrev pub DialsBy : DialerHeld → DialerHeld → Dialed → Type 0
DialsBy old new Linked = MakesFirst old.waiting new.waiting new.script
DialsBy old new Later = WaitsFirst old.waiting new.waiting × (new.script ≡ old.script)
DialsBy old new Finished = (old.waiting ≡ []) × (new.waiting ≡ []) × (new.script ≡ old.script)
DialsBy old new DialFailed = (new.waiting ≡ old.waiting) × (new.script ≡ old.script)

-- the bytes put to the connection that stands
abbrev pub bytes_put : Option Connection → List ℕ
bytes_put (Some c) = c.put
bytes_put None = []

-- the next dial makes a connection
abbrev pub IsDue : List MemConnection → Type 0
IsDue [] = ⊥
IsDue (c ∷ more) = c.later ≡ 0

-- a dial that fails for no number of the list does so for want of memory, which a connection alone takes
abbrev pub WantsRoom : List MemConnection → Dialed → Type 0
WantsRoom waiting Linked = Unit {0}
WantsRoom waiting Later = Unit {0}
WantsRoom waiting Finished = Unit {0}
WantsRoom waiting DialFailed = IsDue waiting

-- the count of failed dials after a dial
abbrev pub failed_after_dial : Dialed → ℕ → ℕ
failed_after_dial Linked failed = failed
failed_after_dial Later failed = failed
failed_after_dial Finished failed = failed
failed_after_dial DialFailed failed = raised failed
