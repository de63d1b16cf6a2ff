-- All that one maker has said.
use Rattle.std.specs.Prelude.{◌≡◌, ℕ, ◌==◌, ◌&&◌, Bool, true, false, List, [], ◌∷◌, ◌++◌, length}
use Rattle.std.specs.List.{filter}
use Rattle.cts_entry.specs.declared.entry.Entry.{Entry}
use Rattle.cts_entry.specs.declared.what.What.{What}
use Rattle.cts_entry.specs.declared.what.What.TheVariants.{Opened, Packet, Closed, Command, SetLimits, Enable, LimitsSetIs, Injected, Unrouted, Stop, Ended}
use Rattle.cts_entry.specs.declared.why.Why.{Why}
use Rattle.cts_entry.specs.declared.why.Why.TheVariants.{PeerEnded, ReadFault, WriteFault, BadFrame, Stopped, NoMemory, Full}

-- the entries of a maker, in order
abbrev pub of_maker : ℕ → List Entry → List Entry
of_maker m history = filter (λ e. e.by == m) history

-- the last entry of a maker is its Ended
abbrev pub LastEnded : ℕ → List Entry → Type 0
LastEnded m history = (earlier : List Entry) × (last : Entry) × (of_maker m history ≡ earlier ++ last ∷ []) × (last.what ≡ Ended)

-- ---- why its connections were closed

-- whether an entry is a Closed for a reason that passes a test
abbrev pub closes_for : (Why → Bool) → What → Bool
closes_for test Opened = false
closes_for test (Packet ident stored bytes) = false
closes_for test (Closed why loss unposted unsent) = test why
closes_for test (Command interface command bytes) = false
closes_for test (SetLimits enabled packet item persistence set limits) = false
closes_for test (Enable packet item enabled) = false
closes_for test (LimitsSetIs set) = false
closes_for test (Injected packet bytes) = false
closes_for test (Unrouted why bytes) = false
closes_for test Stop = false
closes_for test Ended = false

-- a read or a write failed
abbrev pub is_fault : Why → Bool
is_fault PeerEnded = false
is_fault ReadFault = true
is_fault WriteFault = true
is_fault (BadFrame stage cause) = false
is_fault Stopped = false
is_fault NoMemory = false
is_fault Full = false

-- how many connections of a maker were closed since a read or a write failed
abbrev pub faults_of : ℕ → List Entry → ℕ
faults_of m history = length (filter (λ e. e.by == m && closes_for is_fault e.what) history)
