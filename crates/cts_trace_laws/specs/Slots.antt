-- What goes to a slot.
use Rattle.std.specs.Prelude.{◌≡◌, ◌≤◌, ◌+◌, ℕ, false, List, [], ◌++◌, length}
use Rattle.cts_entry.specs.declared.entry.Entry.{Entry}
use Rattle.cts_trace.specs.Connections.{Stay, Talks}
use Rattle.cts_trace.specs.Routing.{Routing, spell}
use Rattle.cts_trace.specs.Streams.{routed}

-- what is routed to a slot whose Opened is the first entry after `before`, of the next n entries
abbrev pub routed_after : Routing → ℕ → List Entry → List Entry → ℕ → List ℕ
routed_after g m before after n = routed (spell g m) (g.routes m) (before ++ after) (length before + 1) (length before + 1 + n)

-- What was put on a connection of a slot is what is routed to it from directly after its Opened up to a place within it, and then a tail:
-- nothing, or after a write fault a beginning of the next spelling.
abbrev pub PutIsRouted : Type 0
PutIsRouted = (g : Routing) (m : ℕ) (before : List Entry) (pieces : List (List ℕ)) (bytes : List ℕ) (entries later : List Entry)
    → g.is_interface m ≡ false → (s : Stay g m before pieces bytes entries)
    → (n : ℕ) × (n ≤ length s.between) × (bytes ≡ routed_after g m before (entries ++ later) n ++ s.tail) × ((s.rest ≡ []) → n ≡ length s.between)

-- The same of one that stands.
abbrev pub PutIsRoutedSoFar : Type 0
PutIsRoutedSoFar = (g : Routing) (m : ℕ) (before : List Entry) (pieces : List (List ℕ)) (bytes : List ℕ) (entries later : List Entry)
    → g.is_interface m ≡ false → (s : Talks g m before pieces bytes entries)
    → (n : ℕ) × (n ≤ length s.between) × (bytes ≡ routed_after g m before (entries ++ later) n) × ((s.rest ≡ []) → n ≡ length s.between)

-- In any case it is the first bytes of all that is routed to the slot between its Opened and its Closed.
abbrev pub PutBeginsRouted : Type 0
PutBeginsRouted = (g : Routing) (m : ℕ) (before : List Entry) (pieces : List (List ℕ)) (bytes : List ℕ) (entries later : List Entry)
    → g.is_interface m ≡ false → (s : Stay g m before pieces bytes entries)
    → (more : List ℕ) × (bytes ++ more ≡ routed_after g m before (entries ++ later) (length s.between))
