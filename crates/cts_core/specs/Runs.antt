-- What each event does, and what a list of events does.
use Rattle.std.specs.Prelude.{◌≡◌, ℕ, ◌+◌, ◌==◌, Bool, true, false, if◌then◌else◌, List, [], ◌∷◌, ◌++◌, length, take, Option, Some, None, ◌⊎◌}
use Rattle.cts_def.specs.declared.time.Time.{Time}
use Rattle.cts_entry.specs.declared.entry.Entry.{Entry}
use Rattle.cts_def.specs.Makers.{server}
use Rattle.cts_entry.specs.declared.what.What.TheVariants.{Opened, Closed, Stop as StopEntry}
use Rattle.cts_entry.specs.declared.why.Why.{Why}
use Rattle.cts_entry.specs.declared.why.Why.TheVariants.{BadFrame}
use Rattle.cts_entry.specs.declared.event.Event.{Event}
use Rattle.cts_entry.specs.declared.event.Event.TheVariants.{SetTime, Opens, Piece, Finish, Write, Call, DrainLog, DrainSlot, Stop}
use Rattle.cts_entry.specs.declared.event.Effect.{Effect}
use Rattle.cts_entry.specs.declared.event.Effect.TheVariants.{Posted, Reply, Written, Logged, Routed}
use Rattle.cts_entry.specs.Histories.{latest, connects_maker}
use Rattle.cts_framing.specs.Framing.{Output}
use Rattle.cts_framing.specs.Cuts.{Pieces}
use Rattle.cts_framing.specs.Packets.{IsPackets, Fault, fault_of, loss_of}
use Rattle.cts_trace.specs.Routing.{posted_entries}
use Rattle.cts_api.specs.Replies.{Reply as Answer, text_of}
use Rattle.cts_core.specs.States.{Environment, State, is_enabled, takes_room, has_room, put_next, unsent, log_ahead, packets_log, commands_log}

-- a connection's Closed has what its chain gave to no packet, and how many of its queue were not put whole
abbrev pub closed_entry : Time → ℕ → Why → ℕ → List Pieces → Entry
closed_entry now by why unsent cuts = record { by = by; time = now; what = Closed why (loss_of cuts) 0 unsent }

-- the entry of a connection whose chain has failed, if it has
abbrev pub closing : Time → ℕ → ℕ → List Pieces → Option Fault → List Entry
closing now by unsent cuts (Some fault) = closed_entry now by (BadFrame fault.stage fault.cause) unsent cuts ∷ []
closing now by unsent cuts None = []

-- A piece came: the entries are those of the packets that the connection's pieces have with this one beyond those that
-- they had without it, and then the Closed of a chain that fails.
pub record Receives (env : Environment) (s : State) (by : ℕ) (piece : List ℕ) (entries : List Entry) : Type 0 where
  pub earlier : List Pieces
  pub given : List Output
  pub before : IsPackets (env.routing.chain by) (s.pieces by) earlier given
  pub cuts : List Pieces
  pub packets : List Output
  pub after : IsPackets (env.routing.chain by) (s.pieces by ++ piece ∷ []) cuts (given ++ packets)
  pub entries_are : entries ≡ posted_entries env.routing s.history s.time by packets ++ closing s.time by (unsent env s by) cuts (fault_of cuts)

-- A connection ends: its Closed has what its chain gave to no packet.
pub record Closes (env : Environment) (s : State) (by : ℕ) (why : Why) (entries : List Entry) : Type 0 where
  pub cuts : List Pieces
  pub given : List Output
  pub before : IsPackets (env.routing.chain by) (s.pieces by) cuts given
  pub entries_are : entries ≡ closed_entry s.time by why (unsent env s by) cuts ∷ []

-- what is answered where no desk is asked
abbrev pub silent : Answer
silent = record { response = None; entries = [] }

-- A desk may reply this to the body that an event brings; an event that asks no desk has no answer.
abbrev pub IsAnswered : Environment → State → Event → Answer → Type 0
IsAnswered env s (SetTime time) a = a ≡ silent
IsAnswered env s (Opens by) a = a ≡ silent
IsAnswered env s (Piece by piece) a = a ≡ silent
IsAnswered env s (Finish by why) a = a ≡ silent
IsAnswered env s (Write by count) a = a ≡ silent
IsAnswered env s (Call desk body) a = env.answers s.history desk s.time body a
IsAnswered env s (DrainLog count) a = a ≡ silent
IsAnswered env s (DrainSlot by count) a = a ≡ silent
IsAnswered env s Stop a = a ≡ silent

-- the entries that an event appends, where a desk that it asks answers this
abbrev pub Appends : Environment → State → Event → Answer → List Entry → Type 0
Appends env s (SetTime time) a entries = entries ≡ []
Appends env s (Opens by) a entries = entries ≡ record { by = by; time = s.time; what = Opened } ∷ []
Appends env s (Piece by piece) a entries = Receives env s by piece entries
Appends env s (Finish by why) a entries = Closes env s by why entries
Appends env s (Write by count) a entries = entries ≡ []
Appends env s (Call desk body) a entries = entries ≡ a.entries
Appends env s (DrainLog count) a entries = entries ≡ []
Appends env s (DrainSlot by count) a entries = entries ≡ []
Appends env s Stop a entries = entries ≡ record { by = server; time = s.time; what = StopEntry } ∷ []

-- what an event gives besides, where a desk that it asks answers this
abbrev pub effect_of : Environment → State → Event → Answer → Effect
effect_of env s (SetTime time) a = Posted
effect_of env s (Opens by) a = Posted
effect_of env s (Piece by piece) a = Posted
effect_of env s (Finish by why) a = Posted
effect_of env s (Write by count) a = Written by (put_next env s by count)
effect_of env s (Call desk body) a = Reply desk (length s.history) (text_of a)
effect_of env s (DrainLog count) a = Logged (packets_log env (take count (log_ahead s))) (commands_log env (take count (log_ahead s)))
effect_of env s (DrainSlot by count) a = Routed by (put_next env s by count)
effect_of env s Stop a = Posted

-- what an event did: the entries that it appended, and what it gave besides
pub record Did : Type 0 where
  pub entries : List Entry
  pub effect : Effect

-- An event does this, by what a desk that it asks answers. An Opens or a Piece needs room for its entries; an answer of a desk has it by
-- itself, and a Closed and a
-- Stop take none.
pub record Does (env : Environment) (s : State) (event : Event) (did : Did) : Type 0 where
  pub enabled : is_enabled env s event ≡ true
  pub answer : Answer
  pub answered : IsAnswered env s event answer
  pub appends : Appends env s event answer did.entries
  pub room : takes_room event ≡ true → has_room env s did.entries ≡ true
  pub effect : did.effect ≡ effect_of env s event answer

abbrev pub time_after : Event → Time → Time
time_after (SetTime time) now = time
time_after (Opens by) now = now
time_after (Piece by piece) now = now
time_after (Finish by why) now = now
time_after (Write by count) now = now
time_after (Call desk body) now = now
time_after (DrainLog count) now = now
time_after (DrainSlot by count) now = now
time_after Stop now = now

-- the piece that an event brings from a maker's connection
abbrev pub pieces_for : ℕ → Event → List (List ℕ)
pieces_for m (SetTime time) = []
pieces_for m (Opens by) = []
pieces_for m (Piece by piece) = if by == m then piece ∷ [] else []
pieces_for m (Finish by why) = []
pieces_for m (Write by count) = []
pieces_for m (Call desk body) = []
pieces_for m (DrainLog count) = []
pieces_for m (DrainSlot by count) = []
pieces_for m Stop = []

-- how many entries a maker passes by an event
abbrev pub passed_for : ℕ → Event → ℕ
passed_for m (SetTime time) = 0
passed_for m (Opens by) = 0
passed_for m (Piece by piece) = 0
passed_for m (Finish by why) = 0
passed_for m (Write by count) = if by == m then count else 0
passed_for m (Call desk body) = 0
passed_for m (DrainLog count) = 0
passed_for m (DrainSlot by count) = if by == m then count else 0
passed_for m Stop = 0

-- What is kept of a maker's connection, where entries tell whether it is opened or closed: with either, what was kept before
-- is given up, and else there is so much.
abbrev pub kept : {T : Type 0} → Option Bool → T → T → T
kept (Some opened) none more = none
kept None none more = more

abbrev pub pieces_after : Event → List Entry → (ℕ → List (List ℕ)) → ℕ → List (List ℕ)
pieces_after event entries pieces by = kept (latest (connects_maker by) entries) [] (pieces by ++ pieces_for by event)

abbrev pub cursor_after : Event → List Entry → (ℕ → ℕ) → ℕ → ℕ
cursor_after event entries cursor by = kept (latest (connects_maker by) entries) 0 (cursor by + passed_for by event)

-- how many entries an event gives to the logs
abbrev pub drained : Event → ℕ
drained (SetTime time) = 0
drained (Opens by) = 0
drained (Piece by piece) = 0
drained (Finish by why) = 0
drained (Write by count) = 0
drained (Call desk body) = 0
drained (DrainLog count) = count
drained (DrainSlot by count) = 0
drained Stop = 0

-- what the core holds after an event that did this
abbrev pub after : State → Event → Did → State
after s event did = record {
  history = s.history ++ did.entries;
  time = time_after event s.time;
  pieces = pieces_after event did.entries s.pieces;
  cursor = cursor_after event did.entries s.cursor;
  log_cursor = s.log_cursor + drained event;
}

-- how a list of events ends: all are done, or the next one is refused
pub data Ending : Type 0 where
  Finished : Ending
  NotEnabled : Ending
  HistoryFull : Ending

-- An event is refused, and changes nothing. No event that asks a desk may find the history full.
abbrev pub Refuses : Environment → State → Event → Ending → Type 0
Refuses env s event Finished = ⊥
Refuses env s event NotEnabled = is_enabled env s event ≡ false
Refuses env s event HistoryFull = (is_enabled env s event ≡ true) × (takes_room event ≡ true)
    × ((entries : List Entry) × Appends env s event silent entries × (has_room env s entries ≡ false))

-- The events do this one after another, and end so. What the events did that were done stands in the list, in order.
abbrev pub Runs : Environment → State → List Event → List Did → Ending → Type 0
Runs env s [] dids ending = (dids ≡ []) × (ending ≡ Finished)
Runs env s (event ∷ events) dids ending =
    ((dids ≡ []) × Refuses env s event ending)
    ⊎ ((did : Did) × (more : List Did) × (dids ≡ did ∷ more) × Does env s event did × Runs env (after s event did) events more ending)
