-- What a running line's connections owe besides: when the line last looked, what it had put by then, and how full the history was.
use Rattle.std.specs.Prelude.{◌≡◌, ◌≢◌, ℕ, ◌+◌, ◌<◌, ◌≤◌, ◌⊎◌, Bool, true, false, ◌&&◌, nat_le, nat_lt, List, [], ◌∷◌, ◌++◌, length, sum_by}
use Rattle.std.specs.List.{All, filter}
use Rattle.cts_entry.specs.declared.entry.Entry.{Entry}
use Rattle.cts_entry.specs.declared.why.Why.{Why}
use Rattle.cts_entry.specs.declared.why.Why.TheVariants.{PeerEnded, ReadFault, WriteFault, BadFrame, Stopped, NoMemory, Full}
use Rattle.cts_entry.specs.Histories.{has_own, is_stopped}
use Rattle.cts_entry.specs.Room.{Capacity, has_room}
use Rattle.cts_framing.specs.Framing.{Output}
use Rattle.cts_outside.specs.Lines.{Connection}
use Rattle.cts_trace.specs.Routing.{Routing, spell, queue}
use Rattle.cts_trace.specs.Connections.{Stay, Tail}

-- ---- room

-- some packets are left, and their entries find no room after a history
abbrev pub LacksRoom : Capacity → List Entry → List Output → Type 0
LacksRoom room history left = (left ≢ []) × (has_room room history (length left) (sum_by (λ o. length o.bytes) left) ≡ false)

-- ---- looks

-- whether a place is above one and at most another
abbrev pub is_within : ℕ → ℕ → ℕ → Bool
is_within above most n = nat_lt above n && nat_le n most

-- how many of some places are
abbrev pub looks : List ℕ → ℕ → ℕ → ℕ
looks found above most = length (filter (is_within above most) found)

-- look is among the places at which holds began, and a hold after it began at most at end
pub record IsLook (found : List ℕ) (look end : ℕ) : Type 0 where
  pub earlier : List ℕ
  pub between : List ℕ
  pub close : ℕ
  pub later : List ℕ
  pub found_are : found ≡ earlier ++ look ∷ (between ++ close ∷ later)
  pub close_within : close ≤ end

-- look and close are neighbours among the places at which holds began, and close is the last one that is at most end
pub record LastTwo (found : List ℕ) (look close end : ℕ) : Type 0 where
  pub earlier : List ℕ
  pub later : List ℕ
  pub found_are : found ≡ earlier ++ look ∷ close ∷ later
  pub close_within : close ≤ end
  pub later_beyond : All (λ (n : ℕ). end < n) later

-- ---- why a connection was closed

-- what the connection tells, what the last look saw, what stood before the Closed, and which packets were left by then
pub record Seen : Type 0 where
  pub connection : Connection
  pub looked : List Entry
  pub whole : List Entry
  pub left : List Output

-- the reason has its cause: of a bad frame the chain says it, and want of memory has none
abbrev pub Causes : Capacity → Why → Seen → Type 0
Causes room PeerEnded s = (s.connection.ended ≡ true) × (is_stopped s.looked ≡ false)
Causes room ReadFault s = (s.connection.take_failed ≡ true) × (is_stopped s.looked ≡ false)
Causes room WriteFault s = s.connection.put_failed ≡ true
Causes room (BadFrame stage cause) s = Unit {0}
Causes room Stopped s = is_stopped s.looked ≡ true
Causes room NoMemory s = Unit {0}
Causes room Full s = LacksRoom room s.whole s.left

-- whether a take answered End, whether one failed, and whether a put failed
abbrev pub Flags : Connection → Bool → Bool → Bool → Type 0
Flags c ended take_failed put_failed = (c.ended ≡ ended) × (c.take_failed ≡ take_failed) × (c.put_failed ≡ put_failed)

-- A line closes at once: each of these is told exactly where the connection was closed for it.
abbrev pub TellsWhy : Why → Connection → Type 0
TellsWhy PeerEnded c = Flags c true false false
TellsWhy ReadFault c = Flags c false true false
TellsWhy WriteFault c = Flags c false false true
TellsWhy (BadFrame stage cause) c = Flags c false false false
TellsWhy Stopped c = Flags c false false false
TellsWhy NoMemory c = Flags c false false false
TellsWhy Full c = Flags c false false false

-- for these reasons a line has put, before it closes, all that its last look saw
abbrev pub PutsAll : Why → Type 0 → Type 0
PutsAll PeerEnded A = A
PutsAll ReadFault A = A
PutsAll WriteFault A = Unit {0}
PutsAll (BadFrame stage cause) A = A
PutsAll Stopped A = A
PutsAll NoMemory A = Unit {0}
PutsAll Full A = Unit {0}

-- for these it has posted nothing since
abbrev pub PostsNone : Why → Type 0 → Type 0
PostsNone PeerEnded A = A
PostsNone ReadFault A = Unit {0}
PostsNone WriteFault A = Unit {0}
PostsNone (BadFrame stage cause) A = Unit {0}
PostsNone Stopped A = A
PostsNone NoMemory A = Unit {0}
PostsNone Full A = Unit {0}

-- ---- a connection

-- A connection of a line that made its holds at these places of a history with this capacity. The Opened stands at the place
-- length before, and the Closed after what lies between them.
pub record Looked (g : Routing) (room : Capacity) (m : ℕ) (found : List ℕ) (before : List Entry) (c : Connection) (entries : List Entry) : Type 0 where
  pub stay : Stay g m before c.pieces c.put entries
  -- what the last look saw of the connection's entries, and what came after it; where it saw some it was one of the holds
  pub looked : List Entry
  pub since : List Entry
  pub between_is : stay.between ≡ looked ++ since
  pub look_is : (looked ≡ []) ⊎ IsLook found (length before + 1 + length looked) (length before + 1 + length stay.between)
  pub cause : Causes room stay.why (record {
    connection = c;
    looked = before ++ stay.opened ∷ looked;
    whole = before ++ stay.opened ∷ stay.between;
    left = stay.left;
  })
  pub tells : TellsWhy stay.why c
  -- of the queue that it saw this much is done, and this waits; nothing but a beginning of the first that waits was put besides
  pub waits : List Entry
  pub saw : queue g m looked ≡ stay.done ++ waits
  pub tail_is : Tail (spell g m) stay.why waits stay.tail
  pub put_all : PutsAll stay.why (waits ≡ [])
  pub posted_none : PostsNone stay.why (has_own m since ≡ false)
  -- a line makes more holds than takes, up to the Closed
  pub often : c.takes < looks found (length before) (length before + 1 + length stay.between)
  pub last : PutsAll stay.why ((close : ℕ) × LastTwo found (length before + 1 + length looked) close (length before + 1 + length stay.between))
  -- once a Stop stands that it could see, no more than three of its holds begin: one that was about to, one that sees the Stop, and the Closed's
  pub soon : (earlier later : List Entry) → stay.between ≡ earlier ++ later → is_stopped (before ++ stay.opened ∷ earlier) ≡ true
      → looks found (length before + length earlier) (length before + 1 + length stay.between) ≤ 3
