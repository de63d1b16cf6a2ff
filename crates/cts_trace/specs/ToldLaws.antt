-- Laws of what is told of all connections of a maker.
use Rattle.std.specs.Prelude.{◌≡◌, ℕ, ◌≤◌, ◌||◌, true, false, List, [], ◌∷◌, ◌++◌, length, Option, is_some}
use Rattle.std.specs.List.{filter}
use Rattle.cts_entry.specs.declared.entry.Entry.{Entry}
use Rattle.cts_entry.specs.declared.why.Why.TheVariants.{PeerEnded, Stopped, Full}
use Rattle.cts_entry.specs.Histories.{is_connected, is_own, is_stopped, opens}
use Rattle.cts_entry.specs.Places.{Stays}
use Rattle.cts_framing.specs.Packets.{capped}
use Rattle.cts_outside.specs.Lines.{Connection, Line}
use Rattle.cts_trace.specs.Makers.{of_maker, faults_of}
use Rattle.cts_trace.specs.Routing.{Routing, queue}
use Rattle.cts_entry.specs.Room.{Capacity}
use Rattle.cts_trace.specs.Lines.{Looked}
use Rattle.cts_trace.specs.Told.{IsStay, Past, Tells, Said, ToldBy}

-- ---- in any run

-- A maker is connected exactly where one of its connections stands.
abbrev pub ConnectedWhereOneStands : Type 0
ConnectedWhereOneStands = (g : Routing) (m : ℕ) (history : List Entry) (past : List Connection) (now : Option Connection) → Tells g m history past now
    → is_connected m history ≡ is_some now

-- Its connections are as many as its Opened entries.
abbrev pub OneOpenedEach : Type 0
OneOpenedEach = (g : Routing) (m : ℕ) (history : List Entry) (past : List Connection) → Past g m past history → length (filter (opens m) history) ≡ length past

-- the entries of each connection, from its Opened to its Closed
abbrev pub stretches : (g : Routing) (m : ℕ) (before : List Entry) (past : List Connection) (history : List Entry)
    → Stays m (IsStay g m) before past history → List (List Entry)
stretches g m before [] history s = []
stretches g m before (c ∷ cs) history s = s.1 ∷ stretches g m (before ++ (s.0 ++ s.1)) cs s.2 s.6

-- A history falls into a maker's connections in one way: whoever tells it, as many connections have the same entries.
abbrev pub OneTelling : Type 0
OneTelling = (g : Routing) (m : ℕ) (history : List Entry) (cs ds : List Connection) → (s : Past g m cs history) (t : Past g m ds history)
    → stretches g m [] cs history s ≡ stretches g m [] ds history t

-- ---- by a running line

-- What a running line tells is told as in any run.
abbrev pub SaidIsPast : Type 0
SaidIsPast = (g : Routing) (room : Capacity) (m : ℕ) (found : List ℕ) (past : List Connection) (history : List Entry)
    → Said g room m found past history → Past g m past history

-- Where the peer ended it, all of the queue that stands before an entry of the maker was put whole, or its spelling is refused.
abbrev pub PutBeforeItsEntries : Type 0
PutBeforeItsEntries = (g : Routing) (room : Capacity) (m : ℕ) (found : List ℕ) (before : List Entry) (c : Connection) (entries : List Entry)
    → (l : Looked g room m found before c entries)
    → l.stay.why ≡ PeerEnded → (earlier : List Entry) (e : Entry) (later : List Entry) → l.stay.between ≡ earlier ++ e ∷ later → is_own m e ≡ true
    → (more : List Entry) × (l.stay.done ≡ queue g m earlier ++ more)

-- Where it was stopped, all of the queue was that stands before the first Stop.
abbrev pub PutBeforeTheStop : Type 0
PutBeforeTheStop = (g : Routing) (room : Capacity) (m : ℕ) (found : List ℕ) (before : List Entry) (c : Connection) (entries : List Entry)
    → (l : Looked g room m found before c entries)
    → l.stay.why ≡ Stopped → (earlier later : List Entry) → l.stay.between ≡ earlier ++ later → is_stopped (before ++ l.stay.opened ∷ earlier) ≡ false
    → (more : List Entry) × (l.stay.done ≡ queue g m earlier ++ more)

-- What a line puts it has seen by its last look: nothing that came after it is done.
abbrev pub PutsWhatItSaw : Type 0
PutsWhatItSaw = (g : Routing) (room : Capacity) (m : ℕ) (found : List ℕ) (before : List Entry) (c : Connection) (entries : List Entry)
    → (l : Looked g room m found before c entries)
    → l.stay.rest ≡ l.waits ++ queue g m l.since

-- A Closed for want of room counts at least one packet that was not posted.
abbrev pub FullLeavesSome : Type 0
FullLeavesSome = (g : Routing) (room : Capacity) (m : ℕ) (found : List ℕ) (before : List Entry) (c : Connection) (entries : List Entry)
    → (l : Looked g room m found before c entries)
    → l.stay.why ≡ Full → 1 ≤ capped (length l.stay.left)

-- Connections that were closed for a fault are as many as those in which a take or a put failed.
abbrev pub FaultsAreTold : Type 0
FaultsAreTold = (g : Routing) (room : Capacity) (m : ℕ) (found : List ℕ) (past : List Connection) (history : List Entry) → Said g room m found past history
    → faults_of m history ≡ length (filter (λ c. c.take_failed || c.put_failed) past)

-- What is told stays told when a further hold begins after what was seen, ..
abbrev pub HoldsMayFollow : Type 0
HoldsMayFollow = (g : Routing) (room : Capacity) (m : ℕ) (found : List ℕ) (n : ℕ) (seen : List Entry) (told : Option Line) → length seen ≤ n
    → ToldBy g room m found seen told → ToldBy g room m (found ++ n ∷ []) seen told

-- .. and is told of every longer history that has the same entries of the maker.
abbrev pub EntriesOfOthersMayFollow : Type 0
EntriesOfOthersMayFollow = (g : Routing) (room : Capacity) (m : ℕ) (found : List ℕ) (seen more : List Entry) (told : Option Line)
    → of_maker m (seen ++ more) ≡ of_maker m seen
    → ToldBy g room m found seen told → ToldBy g room m found (seen ++ more) told
