-- Laws of one connection's entries.
use Rattle.std.specs.Prelude.{◌≡◌, ◌≢◌, ℕ, ◌+◌, true, false, List, [], ◌++◌, ◌∷◌, length, Some}
use Rattle.cts_def.specs.declared.bad_cause.BadCause.{BadCause}
use Rattle.cts_entry.specs.declared.entry.Entry.{Entry}
use Rattle.cts_entry.specs.declared.why.Why.TheVariants.{BadFrame, NoMemory, Full}
use Rattle.cts_entry.specs.Histories.{is_connected}
use Rattle.cts_entry.specs.Legal.{has_ended}
use Rattle.cts_entry.specs.Queues.{put_whole, unsent_of}
use Rattle.cts_framing.specs.Packets.{fault_of}
use Rattle.cts_trace.specs.Routing.{Routing, spell, queue}
use Rattle.cts_trace.specs.Connections.{Stay, Talks}
use Rattle.cts_trace.specs.Makers.{of_maker, LastEnded}

-- An unsent entry of the queue is one that was not put whole.
abbrev pub UnsentIsRest : Type 0
UnsentIsRest = (g : Routing) (m : ℕ) (between done rest : List Entry) → queue g m between ≡ done ++ rest → unsent_of (spell g m) done rest + put_whole
    (spell g m) done ≡ length (queue g m between)

-- From its Opened to its Closed, and only there, the maker is connected.
abbrev pub ConnectedWithin : Type 0
ConnectedWithin = (g : Routing) (m : ℕ) (before : List Entry) (pieces : List (List ℕ)) (bytes : List ℕ) (entries : List Entry)
    → (s : Stay g m before pieces bytes entries)
    → (is_connected m (before ++ s.opened ∷ s.between) ≡ true) × (is_connected m (before ++ entries) ≡ false)

-- A connection that stands is open.
abbrev pub ConnectedMeanwhile : Type 0
ConnectedMeanwhile = (g : Routing) (m : ℕ) (before : List Entry) (pieces : List (List ℕ)) (bytes : List ℕ) (entries : List Entry)
    → Talks g m before pieces bytes entries → is_connected m (before ++ entries) ≡ true

-- A connection is closed for a bad frame only where that is the error of its chain.
abbrev pub BadFrameIsOfChain : Type 0
BadFrameIsOfChain = (g : Routing) (m : ℕ) (before : List Entry) (pieces : List (List ℕ)) (bytes : List ℕ) (entries : List Entry)
    → (s : Stay g m before pieces bytes entries)
    → (stage : ℕ) (cause : BadCause) → s.why ≡ BadFrame stage cause → fault_of s.carries.cuts ≡ Some (record { stage = stage; cause = cause })

-- All packets are posted, unless room or memory wants.
abbrev pub AllIsPosted : Type 0
AllIsPosted = (g : Routing) (m : ℕ) (before : List Entry) (pieces : List (List ℕ)) (bytes : List ℕ) (entries : List Entry)
    → (s : Stay g m before pieces bytes entries)
    → s.why ≢ Full → s.why ≢ NoMemory → s.left ≡ []

-- ---- what a maker's own entries say

-- Two histories with the same entries of a maker say the same of it: whether it is connected, and whether it has ended.
abbrev pub OwnEntriesTell : Type 0
OwnEntriesTell = (m : ℕ) (xs ys : List Entry) → of_maker m xs ≡ of_maker m ys → (is_connected m xs ≡ is_connected m ys) × (has_ended m xs ≡ has_ended m ys)

-- Whose last entry is its Ended has ended.
abbrev pub LastEndedHasEnded : Type 0
LastEndedHasEnded = (m : ℕ) (history : List Entry) → LastEnded m history → has_ended m history ≡ true
