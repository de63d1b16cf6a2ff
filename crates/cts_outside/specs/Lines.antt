-- What a dialer tells: all its connections so far, and what each call leaves of them.
use Rattle.std.specs.Prelude.{length, ◌≡◌, ℕ, ◌≤◌, Bool, true, false, List, [], ◌∷◌, ◌++◌, take, Option, Some, None, option_map, option_to_list}
use Rattle.std.specs.Prelude.{Result, Ok, Err}
use Rattle.cts_outside.specs.Causes.{raised}
use Rattle.cts_outside.specs.declared.link.Aim.{Aim}
use Rattle.cts_outside.specs.declared.link.Taken.{Taken}
use Rattle.cts_outside.specs.declared.link.Taken.TheVariants.{Got, Nothing, End, Failed}
use Rattle.cts_outside.specs.declared.link.Dialed.{Dialed}
use Rattle.cts_outside.specs.declared.link.Dialed.TheVariants.{Linked, Later, Finished, Failed as DialFailed}

-- A connection: the pieces taken, the bytes put, the number of its takes, and whether a take answered End, a take Failed and a
-- put PutFailed in it.
pub record Connection : Type 0 where
  pub pieces : List (List ℕ)
  pub put : List ℕ
  pub takes : ℕ
  pub ended : Bool
  pub take_failed : Bool
  pub put_failed : Bool

-- a connection that was just made
abbrev pub fresh : Connection
fresh = record { pieces = []; put = []; takes = 0; ended = false; take_failed = false; put_failed = false }

-- the connections that were hung up, the one that stands, whether a dial answered Finished, and the last aim
pub record Line : Type 0 where
  pub past : List Connection
  pub now : Option Connection
  pub finished : Bool
  pub aim : Option Aim

-- the line of a dialer that was neither aimed nor dialed
abbrev pub no_connections : Line
no_connections = record { past = []; now = None; finished = false; aim = None }

-- what is told once the line has become another
abbrev pub told_after : (Line → Line) → Option Line → Option Line
told_after f told = option_map f told

-- the line where the connection that stands has become another
abbrev pub at_now : (Connection → Connection) → Line → Line
at_now f line = record line { now = option_map f line.now }

-- ---- take

-- the connection after a take; what was taken is the front of the buffer
abbrev pub after_take : Taken → List ℕ → Connection → Connection
after_take (Got n) buffer c = record c { pieces = c.pieces ++ take n buffer ∷ []; takes = raised c.takes }
after_take Nothing buffer c = record c { takes = raised c.takes }
after_take End buffer c = record c { takes = raised c.takes; ended = true }
after_take Failed buffer c = record c { takes = raised c.takes; take_failed = true }

-- a take that gives bytes gives at least one, and no more than the buffer holds
abbrev pub TakeFits : Taken → ℕ → Type 0
TakeFits (Got n) room = (1 ≤ n) × (n ≤ room)
TakeFits Nothing room = Unit {0}
TakeFits End room = Unit {0}
TakeFits Failed room = Unit {0}

-- ---- put

-- the connection after these bytes were put
abbrev pub with_put : List ℕ → Connection → Connection
with_put bytes c = record c { put = c.put ++ bytes }

-- the connection after a put that failed once it had put these bytes
abbrev pub with_failed_put : List ℕ → Connection → Connection
with_failed_put bytes c = record c { put = c.put ++ bytes; put_failed = true }

-- a put puts all its bytes, and where it fails a prefix of them
abbrev pub LinkPuts : {T E : Type 0} → Option Line → Option Line → List ℕ → Result T E → Type 0
LinkPuts old new bytes (Ok x) = new ≡ told_after (at_now (with_put bytes)) old
LinkPuts old new bytes (Err e) = (n : ℕ) × (n ≤ length bytes) × (new ≡ told_after (at_now (with_failed_put (take n bytes))) old)

-- ---- aim, dial and hang up

abbrev pub aimed : Aim → Line → Line
aimed aim line = record line { aim = Some aim }

abbrev pub after_dial : Dialed → Line → Line
after_dial Linked line = record line { now = Some fresh }
after_dial Later line = line
after_dial Finished line = record line { finished = true }
after_dial DialFailed line = line

-- whether a connection stands after a dial
abbrev pub links : Dialed → Bool
links Linked = true
links Later = false
links Finished = false
links DialFailed = false

-- a dialer says from the dial on that answers Finished that there will be no connection any more, and at every other answer what it said
abbrev pub FinishesBy : Dialed → Bool → Bool → Type 0
FinishesBy Linked before now = now ≡ before
FinishesBy Later before now = now ≡ before
FinishesBy Finished before now = now ≡ true
FinishesBy DialFailed before now = now ≡ before

abbrev pub hung_up : Line → Line
hung_up line = record line { past = line.past ++ option_to_list line.now; now = None }
