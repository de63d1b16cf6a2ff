-- What one put of a spelling leaves.
use Rattle.std.specs.Prelude.{◌≡◌, ℕ, Bool, true, false, List, take, Option, Some, None}
use Rattle.cts_entry.specs.declared.why.Why.{Why}
use Rattle.cts_entry.specs.declared.why.Why.TheVariants.{PeerEnded, ReadFault, WriteFault, BadFrame, Stopped, NoMemory, Full}
use Rattle.cts_outside.specs.Causes.{Rose}
use Rattle.cts_outside.specs.Lines.{Line, told_after, at_now, with_put, with_failed_put}
use Rattle.cts_line.specs.declared.puts.PutEnd.{PutEnd}
use Rattle.cts_line.specs.declared.puts.PutEnd.TheVariants.{Whole, Refused, Fault}

-- it was put whole; or its spelling is refused; or the put failed, and a beginning of it was put
abbrev pub PutsOne : Option Line → Option Line → Option (List ℕ) → PutEnd → Type 0
PutsOne old new spelling Whole = (bytes : List ℕ) × (spelling ≡ Some bytes) × (new ≡ told_after (at_now (with_put bytes)) old)
PutsOne old new spelling Refused = (spelling ≡ None) × (new ≡ old)
PutsOne old new spelling Fault =
    (bytes : List ℕ) × (n : ℕ) × (spelling ≡ Some bytes) × (new ≡ told_after (at_now (with_failed_put (take n bytes))) old)

-- the count of faults rises at a put that failed, and stays at every other
abbrev pub PutCause : PutEnd → ℕ → ℕ → Type 0
PutCause Whole before now = now ≡ before
PutCause Refused before now = now ≡ before
PutCause Fault before now = Rose before now

-- why puts end a connection, if they do: one failed
abbrev pub is_write : Option Why → Bool
is_write None = true
is_write (Some PeerEnded) = false
is_write (Some ReadFault) = false
is_write (Some WriteFault) = true
is_write (Some (BadFrame stage cause)) = false
is_write (Some Stopped) = false
is_write (Some NoMemory) = false
is_write (Some Full) = false
