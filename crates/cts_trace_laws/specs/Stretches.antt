-- What lines put is what goes to their peers out of stretches of the history.
use Rattle.std.specs.Prelude.{◌≡◌, ◌⊎◌, ◌==◌, ℕ, ◌+◌, ◌≤◌, false, true, List, [], ◌++◌, length, slice_range, Option, Some, None}
use Rattle.std.specs.List.{AllByRecursion, filter}
use Rattle.cts_entry.specs.declared.entry.Entry.{Entry}
use Rattle.cts_entry.specs.Histories.{commands_to}
use Rattle.cts_entry.specs.Places.{Stays}
use Rattle.cts_entry.specs.Queues.{spelled}
use Rattle.cts_entry.specs.Room.{Capacity}
use Rattle.cts_outside.specs.Lines.{Connection, Line}
use Rattle.cts_trace.specs.Routing.{Routing, queue, spell}
use Rattle.cts_trace.specs.Streams.{routed}
use Rattle.cts_trace.specs.Told.{Said, ToldBy}

-- what goes to a maker's peer out of the entries at places from one up to another: the spellings of those that are for it
abbrev pub sent : Routing → ℕ → List Entry → ℕ → ℕ → List ℕ
sent g m history from end = spelled (spell g m) (queue g m (slice_range history from end))

-- what goes to an interface's device: the spellings of the commands to it
abbrev pub commanded : (Entry → Option (List ℕ)) → ℕ → List Entry → ℕ → ℕ → List ℕ
commanded spell interface history from end = spelled spell (filter (commands_to (λ k. k == interface)) (slice_range history from end))

-- To a slot the packets of the interfaces go that are routed to it.
abbrev pub SlotsAreSentRouted : Type 0
SlotsAreSentRouted = (g : Routing) (m : ℕ) (history : List Entry) (from end : ℕ) → g.is_interface m ≡ false
    → sent g m history from end ≡ routed (spell g m) (g.routes m) history from end

-- To an interface's device the commands to it go.
abbrev pub InterfacesAreSentCommands : Type 0
InterfacesAreSentCommands = (g : Routing) (m : ℕ) (history : List Entry) (from end : ℕ) → g.is_interface m ≡ true
    → sent g m history from end ≡ commanded (spell g m) m history from end

-- A connection whose Opened stands at a place: what was put in it is what goes to its peer out of a stretch of the history that begins
-- directly after the Opened and ends before the Closed, and at most a beginning of one spelling more, and that only where a put failed.
pub record PutsStretch (g : Routing) (m : ℕ) (history : List Entry) (before : List Entry) (c : Connection) (entries : List Entry) : Type 0 where
  pub count : ℕ
  pub tail : List ℕ
  pub within : count + 2 ≤ length entries
  pub put_is : c.put ≡ sent g m history (length before + 1) (length before + 1 + count) ++ tail
  pub tail_is : (tail ≡ []) ⊎ ((c.put_failed ≡ true) × ((next : Entry) × (more : List ℕ) × (spell g m next ≡ Some (tail ++ more))))

-- Each connection that a running line made has put a stretch of the history, one after another.
abbrev pub LinesPutStretches : Type 0
LinesPutStretches = (g : Routing) (room : Capacity) (m : ℕ) (found : List ℕ) (past : List Connection) (history : List Entry)
    → Said g room m found past history → Stays m (PutsStretch g m history) [] past history

-- each connection that a dialer tells has put a stretch of the history; to the last one, if it has no entry there, nothing was put
abbrev pub PutsStretches : Routing → ℕ → List Entry → Option Line → Type 0
PutsStretches g m history None = Unit {0}
PutsStretches g m history (Some line) = (said last : List Connection) × (line.past ≡ said ++ last)
    × Stays m (PutsStretch g m history) [] said history × AllByRecursion (λ (c : Connection). c.put ≡ []) last

-- So it is of all that a dialer tells once its line has ended.
abbrev pub EndedLinesPutStretches : Type 0
EndedLinesPutStretches = (g : Routing) (room : Capacity) (m : ℕ) (found : List ℕ) (history : List Entry) (told : Option Line)
    → ToldBy g room m found history told → PutsStretches g m history told
