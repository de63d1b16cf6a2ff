-- What the running core holds, and the states of the defined core that it represents.
use Rattle.std.specs.Prelude.{◌≡◌, ℕ, ◌≤◌, true, false, List, [], ◌++◌, map, length, slice_set, None, Result, Ok, Err}
use Rattle.std.specs.List.{list_any}
use Rattle.cts_chain.specs.Chains.{StagesStand, AllSettled, framings_of, last_fault}
use Rattle.cts_chain.specs.Shapes.{ChainData, writers}
use Rattle.cts_def.specs.Sites.{IsSoundSite, SiteData}
use Rattle.cts_def.specs.declared.time.Time.{Time}
use Rattle.cts_entry.specs.declared.entry.Entry.{Entry}
use Rattle.cts_entry.specs.declared.event.Event.{Event}
use Rattle.cts_entry.specs.declared.event.Event.TheVariants.{SetTime, Opens, Piece, Finish, Write, Call, DrainLog, DrainSlot, Stop}
use Rattle.cts_entry.specs.declared.event.Effect.{Effect}
use Rattle.cts_entry.specs.Histories.{is_connected, entries_in, bytes_in}
use Rattle.cts_framing.specs.Chains.{framings_at}
use Rattle.cts_framing.specs.Framing.{Output, plain}
use Rattle.cts_core.specs.Environments.{basis_of, environment_of, site_environment}
use Rattle.cts_connection.specs.Connections.{HeldConnection, connection_at, shut}
use Rattle.cts_connection.specs.LinePlaces.{is_line, line_count, line_place}
use Rattle.cts_connection.specs.Routings.{writers_at}
use Rattle.cts_entry.specs.Legal.{is_ended, most_bytes as bytes_limit}
use Rattle.cts_core.specs.Cursors.{IsPassed}
use Rattle.cts_core.specs.Runs.{Appends, Did, Does, after, Refuses, NotEnabled, HistoryFull, silent}
use Rattle.cts_core.specs.States.{State, has_room, is_enabled, takes_memory}
use Rattle.cts_core.specs.declared.fault.WorldFault.{WorldFault}
use Rattle.cts_core.specs.declared.fault.WorldFault.TheVariants.{NotEnabled as RefusedEvent, Full, Memory}
use Rattle.cts_table.specs.States.{Shown}
use Rattle.cts_table.specs.declared.basis.Basis.{Basis}

pub record Held : Type 0 where
  -- the site, and the limits of its history
  pub basis : Basis
  pub time : Time
  pub history : List Entry
  -- the connections of the lines, each at its place
  pub connections : List HeldConnection

-- the connection of a line
abbrev pub connection_of : Held → ℕ → HeldConnection
connection_of w by = connection_at w.connections (line_place w.basis.site by)

-- the connection of a line has become this one
abbrev pub with_connection : ℕ → Held → HeldConnection → Held
with_connection by w c = record w { connections = slice_set w.connections (line_place w.basis.site by) c }

-- what is held with this hall
abbrev pub held_with : Time → Shown → List HeldConnection → Held
held_with time k connections = record { basis = k.basis; time = time; history = k.entries; connections = connections }

-- The site keeps the rules of sites, each of its lines has its connection, which stands where the history says so, no worker has ended,
-- and the limit of bytes is no greater than that of a server.
pub record IsSoundHeld (w : Held) : Type 0 where
  pub site : IsSoundSite w.basis.site
  pub count : length w.connections ≡ line_count w.basis.site
  pub connected : (by : ℕ) → is_line w.basis.site by ≡ true → (connection_of w by).connected ≡ is_connected by w.history
  pub lasting : list_any (λ (e : Entry). is_ended e.what) w.history ≡ false
  pub small : w.basis.bytes ≤ bytes_limit

-- what is held before anything has happened, with these chains
abbrev pub first_held : SiteData → ℕ → ℕ → List ChainData → Held
first_held site entries bytes chains =
    record {
      basis = record { site = site; entries = entries; bytes = bytes };
      time = record { seconds = 0; micros = 0 };
      history = [];
      connections = map shut chains;
    }

-- A connection stands where the history says so. Its chain has the protocols of the interface or of the slot's router, was fed the
-- pieces that came since the connection was opened, has given all their packets, and has not failed. One that stands has passed what
-- the state's has.
pub record IsConnection (site : SiteData) (s : State) (by : ℕ) (c : HeldConnection) : Type 0 where
  pub connected : c.connected ≡ is_connected by s.history
  pub framings : framings_of c.chain.stages ≡ framings_at site by
  pub writing : writers c.chain ≡ writers_at site by
  pub packets : List Output
  pub stands : StagesStand c.chain.stages (map plain (s.pieces by)) packets
  pub settled : AllSettled c.chain.stages
  pub unfailed : last_fault 1 c.chain.stages ≡ None
  pub passed : is_connected by s.history ≡ true → IsPassed (site_environment site) s by c.cursor.place c.cursor.refused

-- What is held, of this site and with these limits, represents a state: the history and the time are the state's, and each line has
-- its connection.
pub record RepresentsWithin (base : Basis) (w : Held) (s : State) : Type 0 where
  pub history : w.history ≡ s.history
  pub time : w.time ≡ s.time
  pub basis : w.basis ≡ base
  pub count : length w.connections ≡ line_count base.site
  pub connections : (by : ℕ) → is_line base.site by ≡ true → IsConnection base.site s by (connection_of w by)

-- the same with the limits of a server
abbrev pub Represents : SiteData → Held → State → Type 0
Represents site = RepresentsWithin (basis_of site)

-- ---- what an event makes of it

-- entries stand after the others, and a connection has become this one
abbrev pub changed : ℕ → Held → List Entry → HeldConnection → Held
changed by w entries c = record w { history = w.history ++ entries; connections = slice_set w.connections (line_place w.basis.site by) c }

-- what the hall shows and the clock are as before
pub record IsUnmoved (old new : Held) : Type 0 where
  pub history : new.history ≡ old.history
  pub time : new.time ≡ old.time
  pub basis : new.basis ≡ old.basis

-- The history had room for what an event appends, where that is known before memory is found: an Opened. What a piece brings is known
-- only when a chain has taken it, and an answer of a desk has room by itself.
abbrev pub HadRoom : Basis → State → Event → Type 0
HadRoom base s (SetTime time) = Unit {0}
HadRoom base s (Opens by) = (entries : List Entry) → Appends (environment_of base) s (Opens by) silent entries → has_room (environment_of base) s entries ≡ true
HadRoom base s (Piece by piece) = Unit {0}
HadRoom base s (Finish by why) = Unit {0}
HadRoom base s (Write by count) = Unit {0}
HadRoom base s (Call desk body) = Unit {0}
HadRoom base s (DrainLog count) = Unit {0}
HadRoom base s (DrainSlot by count) = Unit {0}
HadRoom base s Stop = Unit {0}

-- Want of memory is no way round another answer: the event was enabled, it is one that takes memory, and the history had room.
pub record WantsMemory (base : Basis) (s : State) (event : Event) : Type 0 where
  pub enabled : is_enabled (environment_of base) s event ≡ true
  pub takes : takes_memory event ≡ true
  pub room : HadRoom base s event

-- What a step answers, and the state that the world stands for then: the one after the event, where it was done, and the same
-- one as before, where it is not enabled, since nothing is changed. Where the history is full or memory ran out, nothing was
-- appended and no clock set; what chains hold is given up.
abbrev pub Steps : Basis → State → Event → Held → Result Effect WorldFault → Held → Type 0
Steps base s event w (Ok effect) new = (did : Did) × Does (environment_of base) s event did × (effect ≡ did.effect) × RepresentsWithin base new
    (after s event did)
Steps base s event w (Err RefusedEvent) new = Refuses (environment_of base) s event NotEnabled × (new ≡ w) × RepresentsWithin base new s
Steps base s event w (Err (Full entries bytes)) new = Refuses (environment_of base) s event HistoryFull × (entries ≡ entries_in s.history)
    × (bytes ≡ bytes_in s.history) × IsUnmoved w new
Steps base s event w (Err Memory) new = IsUnmoved w new × WantsMemory base s event
