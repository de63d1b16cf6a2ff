-- What a desk's door tells of it.
use Rattle.std.specs.Prelude.{◌≡◌, ℕ, Bool, true, List, [], ◌∷◌, ◌++◌, Option, Some, None, option_map}
use Rattle.cts_outside.specs.Lines.{Connection, Line}
use Rattle.cts_outside.specs.declared.link.Aim.{Aim}
use Rattle.cts_entry.specs.declared.entry.Entry.{Entry}
use Rattle.cts_entry.specs.Histories.{is_stopped}
use Rattle.cts_table.specs.declared.basis.Basis.{Basis}
use Rattle.cts_def.specs.declared.time.Time.{Time}
use Rattle.cts_turn.specs.declared.rule.View.{View}
use Rattle.cts_worker.specs.Lasts.{last_entries}
use Rattle.cts_desk.specs.Exchanges.{Exchange, Exchanges, Among, fronts_of}
use Rattle.cts_desk.specs.Streams.{Cut, PeerEnded, ReadFault, WriteFault, LastAsked, Refused, NoMemory, Stopped, Served, last_front}

-- a connection is cut for a Stop only as the last, and where one stands
abbrev pub MayEnd : Bool → Cut → List Connection → Type 0
MayEnd stop PeerEnded later = Unit {0}
MayEnd stop ReadFault later = Unit {0}
MayEnd stop WriteFault later = Unit {0}
MayEnd stop LastAsked later = Unit {0}
MayEnd stop (Refused status) later = Unit {0}
MayEnd stop NoMemory later = Unit {0}
MayEnd stop Stopped later = (stop ≡ true) × (later ≡ [])

-- After the exchanges of earlier connections, xs are those of the connections, one after another.
abbrev pub Serves : Bool → List Exchange → List Connection → List Exchange → Type 0
Serves stop earlier [] xs = xs ≡ []
Serves stop earlier (c ∷ cs) xs =
    (first : List Exchange) × (more : List Exchange) × (cut : Cut) × (xs ≡ first ++ more)
    × Served cut (last_front (fronts_of (earlier ++ first))) c first × MayEnd stop cut cs × Serves stop (earlier ++ first) cs more

-- the connections that were told before
abbrev pub past_of : Option Line → List Connection
past_of None = []
past_of (Some line) = line.past

-- between two connections
abbrev pub Settled : Bool → List Connection → List Exchange → Option Line → Type 0
Settled stop was xs None = Unit {0}
Settled stop was xs (Some line) = (line.now ≡ None) × (gone : List Connection) × (line.past ≡ was ++ gone) × Serves stop [] gone xs

-- the last aim of a door, where it is told
abbrev pub aim_of : Option Line → Option (Option Aim)
aim_of told = option_map (λ (line : Line). line.aim) told

abbrev pub IsIdle : Option Line → Type 0
IsIdle None = Unit {0}
IsIdle (Some line) = line.now ≡ None

-- What a desk did: the exchanges with these fronts stand in what it has seen, and are those of its connections; last are the
-- entries that it made besides.
pub record Told (b : Basis) (by : ℕ) (fronts found : List ℕ) (seen last : List Entry) (was : List Connection) (told : Option Line) : Type 0 where
  pub exchanges : List Exchange
  pub fronts_are : fronts ≡ fronts_of exchanges
  pub among : Among fronts found
  pub stand : Exchanges b by [] exchanges last seen
  pub settled : Settled (is_stopped seen) was exchanges told

-- A desk's exchanges stand in what it has seen, and then its last entries, the last of all.
pub record Ends (b : Basis) (by : ℕ) (stops : Bool) (fronts : List ℕ) (v : View Entry Basis) (was : List Connection) (told : Option Line) : Type 0 where
  pub time : Time
  pub before : List Entry
  pub seen : v.seen ≡ before ++ last_entries stops by time before
  pub told_so : Told b by fronts v.found v.seen (last_entries stops by time before) was told
