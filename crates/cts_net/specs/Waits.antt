-- What the answers of a socket mean.
use Rattle.std.specs.Prelude.{◌≡◌, ℕ, ◌+◌, ◌<◌, ◌≤◌, ℤ, pos, Bool, true, false, ◌||◌, List, take, Option, Some, None, option_map, unwrap_or}
use Rattle.std.specs.Prelude.{Result, Ok, Err}
use Rattle.std.specs.Ordering.{int_eq}
use Rattle.std.specs.Io.KnownBytes.{Keeps, Consumes, IsAtEnd}
use Rattle.std.specs.IoError.{error_kind, raw_os_error}
use Rattle.std.specs.declared.io.Error.{Error}
use Rattle.std.specs.declared.io.ErrorKind.{ErrorKind}
use Rattle.std.specs.declared.io.ErrorKind.TheVariants.{WouldBlock, TimedOut, Interrupted, ConnectionAborted, ConnectionReset, HostUnreachable}
use Rattle.std.specs.declared.io.ErrorKind.TheVariants.{NetworkUnreachable, NetworkDown}
use Rattle.cts_net.specs.declared.patience.Patience.{Patience}
use Rattle.cts_net.specs.declared.patience.Waited.{Waited}
use Rattle.cts_outside.specs.declared.link.Taken.{Taken}
use Rattle.cts_outside.specs.declared.link.Taken.TheVariants.{Got, Nothing, End, Failed}

-- a call was over before something was ready for it
abbrev pub is_wait : ErrorKind → Bool
is_wait WouldBlock = true
is_wait TimedOut = true
is_wait Interrupted = true
is_wait _ = false

-- an accept found nobody, or somebody who is gone again
abbrev pub is_passing : ErrorKind → Bool
is_passing ConnectionAborted = true
is_passing ConnectionReset = true
is_passing HostUnreachable = true
is_passing NetworkUnreachable = true
is_passing NetworkDown = true
is_passing kind = is_wait kind

-- ---- take

-- What a take answers, by what a read gave: its bytes; the end where it gave none; nothing where it had to wait too long; and a
-- fault at every other error.
abbrev pub IsTaken : Result ℕ Error → Taken → Type 0
IsTaken (Ok n) (Got m) = (m ≡ n) × (1 ≤ n)
IsTaken (Ok n) Nothing = ⊥
IsTaken (Ok n) End = n ≡ 0
IsTaken (Ok n) Failed = ⊥
IsTaken (Err e) (Got m) = ⊥
IsTaken (Err e) Nothing = is_wait (error_kind e) ≡ true
IsTaken (Err e) End = ⊥
IsTaken (Err e) Failed = is_wait (error_kind e) ≡ false

-- What a take does to a reader that tells what it has left: what is given is what came first, an end is one, and nothing and a
-- fault leave all.
abbrev pub TakesOf : Option (List ℕ) → Option (List ℕ) → Taken → List ℕ → Type 0
TakesOf old new (Got n) buffer = Consumes old new (take n buffer)
TakesOf old new Nothing buffer = Keeps old new
TakesOf old new End buffer = Keeps old new × IsAtEnd new
TakesOf old new Failed buffer = Keeps old new

-- How often a dialer waits in vain: for the takes of one connection that find nothing, those in a row and all of them.
-- Bytes and an end begin the row anew, and leave the number of all; a take that finds nothing counts in both, and no more of them are
-- answered so than a connection is borne with.
abbrev pub IsHeard : Patience → Taken → Waited → Waited → Type 0
IsHeard most (Got n) old new = new ≡ record { in_row = 0; in_all = old.in_all }
IsHeard most Nothing old new =
    (old.in_row < most.in_row) × (old.in_all < most.in_all) × (new ≡ record { in_row = old.in_row + 1; in_all = old.in_all + 1 })
IsHeard most End old new = new ≡ record { in_row = 0; in_all = old.in_all }
IsHeard most Failed old new = Unit {0}

-- ---- accept

-- The system has no room for one more connection: the numbers of Linux for want of memory, for files of the system and of the
-- process, of which no more may be open, and for want of buffers.
abbrev pub is_full : ℤ → Bool
is_full code = int_eq code (pos 12) || int_eq code (pos 23) || int_eq code (pos 24) || int_eq code (pos 105)

abbrev pub is_no_room : Error → Bool
is_no_room e = unwrap_or (option_map is_full (raw_os_error e)) false

-- What an accept means for a door: a client, nobody where it passes or the system has no room, and a fault at every other error.
abbrev pub Accepts : {T : Type 0} → Result T Error → Result (Option T) Error → Type 0
Accepts (Ok x) found = found ≡ Ok (Some x)
Accepts (Err e) (Ok found) = (found ≡ None) × ((is_passing (error_kind e) || is_no_room e) ≡ true)
Accepts (Err e) (Err f) = (f ≡ e) × ((is_passing (error_kind e) || is_no_room e) ≡ false)
