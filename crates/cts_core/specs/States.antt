-- What the server's core stands on, what it holds, and which events it takes.
use Rattle.std.specs.Prelude.{ℕ, Bool, true, false, ◌&&◌, ◌||◌, not, nat_le, nat_lt, List, [], ◌++◌, length, take, drop}
use Rattle.cts_def.specs.declared.time.Time.{Time}
use Rattle.cts_entry.specs.declared.entry.Entry.{Entry}
use Rattle.cts_entry.specs.declared.why.Why.{Why}
use Rattle.cts_entry.specs.declared.why.Why.TheVariants.{PeerEnded, ReadFault, WriteFault, BadFrame, Stopped, NoMemory, Full}
use Rattle.cts_entry.specs.declared.event.Event.{Event}
use Rattle.cts_entry.specs.declared.event.Event.TheVariants.{SetTime, Opens, Piece, Finish, Write, Call, DrainLog, DrainSlot, Stop}
use Rattle.cts_entry.specs.Histories.{is_connected, is_stopped, entries_in, bytes_in, since}
use Rattle.cts_entry.specs.Queues.{spelled, unsent_of}
use Rattle.cts_framing.specs.Framing.{Heading}
use Rattle.cts_framing.specs.Packets.{capped}
use Rattle.cts_trace.specs.Routing.{Routing, names_in, spell, queue, walk}
use Rattle.cts_trace.specs.Streams.{telemetry_log, command_log}
use Rattle.cts_api.specs.Replies.{Reply as Answer}

-- what events stand on: the site, as far as they need it, what desks answer, and the limits of the history
pub record Environment : Type 1 where
  pub routing : Routing
  -- whether a maker is a router's slot; whether it has a desk of this number
  pub is_slot : ℕ → Bool
  pub is_desk : ℕ → Bool
  -- whether the packets of an interface and the commands for it are logged
  pub is_logged : ℕ → Bool
  -- how some bytes are laid out in a log
  pub layout : Heading → List ℕ → List ℕ
  -- what a desk may reply at a history and a time to the body of a request
  pub answers : List Entry → ℕ → Time → List ℕ → Answer → Type 0
  pub most_entries : ℕ
  pub most_bytes : ℕ

abbrev pub is_line : Environment → ℕ → Bool
is_line env by = env.is_slot by || env.routing.is_interface by

-- what the core holds
pub record State : Type 0 where
  pub history : List Entry
  pub time : Time
  -- the pieces that came from each maker's connection that stands
  pub pieces : ℕ → List (List ℕ)
  -- how many of the entries that each such maker goes through it has passed since its Opened
  pub cursor : ℕ → ℕ
  -- how many entries of the history the logs have passed
  pub log_cursor : ℕ

-- nothing has happened, and the clock stands at its beginning
abbrev pub opening : State
opening = record { history = []; time = record { seconds = 0; micros = 0 }; pieces = λ by. []; cursor = λ by. 0; log_cursor = 0 }

-- ---- what goes out

-- the entries that a maker has passed since its connection was opened, and those that are ahead of it
abbrev pub passed : Environment → State → ℕ → List Entry
passed env s by = take (s.cursor by) (walk env.routing by (since by s.history))

abbrev pub ahead : Environment → State → ℕ → List Entry
ahead env s by = drop (s.cursor by) (walk env.routing by (since by s.history))

-- what a maker puts for a number of its next entries
abbrev pub put_next : Environment → State → ℕ → ℕ → List ℕ
put_next env s by count = spelled (spell env.routing by) (queue env.routing by (take count (ahead env s by)))

-- how many entries of its queue were not put whole
abbrev pub unsent : Environment → State → ℕ → ℕ
unsent env s by = capped (unsent_of (spell env.routing by) (queue env.routing by (passed env s by)) (queue env.routing by (ahead env s by)))

-- the entries that the logs have not passed
abbrev pub log_ahead : State → List Entry
log_ahead s = drop s.log_cursor s.history

-- what the log of packets and the log of commands have of some entries
abbrev pub packets_log : Environment → List Entry → List ℕ
packets_log env entries = telemetry_log env.layout (names_in env.routing) env.is_logged entries

abbrev pub commands_log : Environment → List Entry → List ℕ
commands_log env entries = command_log env.layout (names_in env.routing) env.is_logged entries

-- ---- which events are enabled

-- why a script may close a connection: a stop only after a Stop
abbrev pub may_close : List Entry → Why → Bool
may_close history PeerEnded = true
may_close history ReadFault = true
may_close history WriteFault = true
may_close history (BadFrame stage cause) = false
may_close history Stopped = is_stopped history
may_close history NoMemory = false
may_close history Full = false

-- a piece has 1 to 65,536 bytes
abbrev pub is_piece : List ℕ → Bool
is_piece bytes = nat_le 1 (length bytes) && nat_le (length bytes) 65536

-- The events that are enabled.
abbrev pub is_enabled : Environment → State → Event → Bool
is_enabled env s (SetTime time) = nat_lt time.micros 1000000
is_enabled env s (Opens by) = is_line env by && (not (is_connected by s.history) && not (is_stopped s.history))
is_enabled env s (Piece by piece) = is_line env by && (is_connected by s.history && is_piece piece)
is_enabled env s (Finish by why) = is_line env by && (is_connected by s.history && may_close s.history why)
is_enabled env s (Write by count) = env.routing.is_interface by && (is_connected by s.history && nat_le count (length (ahead env s by)))
is_enabled env s (Call desk body) = env.is_desk desk
is_enabled env s (DrainLog count) = nat_le count (length (log_ahead s))
is_enabled env s (DrainSlot by count) = env.is_slot by && (is_connected by s.history && nat_le count (length (ahead env s by)))
is_enabled env s Stop = not (is_stopped s.history)

-- these entries would pass no limit
abbrev pub has_room : Environment → State → List Entry → Bool
has_room env s entries = nat_le (entries_in (s.history ++ entries)) env.most_entries && nat_le (bytes_in (s.history ++ entries)) env.most_bytes

-- the events that may find the history full
abbrev pub takes_room : Event → Bool
takes_room (SetTime time) = false
takes_room (Opens by) = true
takes_room (Piece by piece) = true
takes_room (Finish by why) = false
takes_room (Write by count) = false
takes_room (Call desk body) = false
takes_room (DrainLog count) = false
takes_room (DrainSlot by count) = false
takes_room Stop = false

-- the events that may want memory: a time sets a clock, and a Closed and a Stop have their places in the history
abbrev pub takes_memory : Event → Bool
takes_memory (SetTime time) = false
takes_memory (Opens by) = true
takes_memory (Piece by piece) = true
takes_memory (Finish by why) = false
takes_memory (Write by count) = true
takes_memory (Call desk body) = true
takes_memory (DrainLog count) = true
takes_memory (DrainSlot by count) = true
takes_memory Stop = false
