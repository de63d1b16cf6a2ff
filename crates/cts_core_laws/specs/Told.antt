-- What the events of a run tell of a maker's connections, and what its entries have to say of them.
use Rattle.std.specs.Prelude.{ℕ, Bool, true, false, ◌==◌, if◌then◌else◌, List, [], ◌∷◌, ◌++◌, Option, Some, None, option_map}
use Rattle.std.specs.List.{flat_map}
use Rattle.cts_entry.specs.declared.entry.Entry.{Entry}
use Rattle.cts_entry.specs.declared.event.Event.{Event}
use Rattle.cts_entry.specs.declared.event.Effect.{Effect}
use Rattle.cts_entry.specs.declared.event.Effect.TheVariants.{Posted, Reply, Written, Logged, Routed}
use Rattle.cts_entry.specs.Histories.{latest, connects_maker}
use Rattle.cts_outside.specs.Lines.{Connection, fresh}
use Rattle.cts_trace.specs.Routing.{Routing}
use Rattle.cts_trace.specs.Told.{Tells}
use Rattle.cts_core.specs.Runs.{Did, pieces_for}

-- ---- what is told of connections

-- A maker's connections: those that ended, and the one that stands. Events tell of a connection the pieces that came and the
-- bytes that were put; they are no takes, so the rest is that of a connection that was just made.
pub record Line : Type 0 where
  pub past : List Connection
  pub now : Option Connection

abbrev pub put_for : ℕ → Effect → List ℕ
put_for m Posted = []
put_for m (Reply desk front text) = []
put_for m (Written interface bytes) = if interface == m then bytes else []
put_for m (Logged tlm cmd) = []
put_for m (Routed slot bytes) = if slot == m then bytes else []

-- the connection that stands takes a maker's piece, and what was put for it
abbrev pub heard : ℕ → Event → Did → Connection → Connection
heard m event did c = record c { pieces = c.pieces ++ pieces_for m event; put = c.put ++ put_for m did.effect }

abbrev pub one_or_none : Option Connection → List Connection
one_or_none (Some c) = c ∷ []
one_or_none None = []

-- a connection is opened, or ends
abbrev pub turned : Option Bool → Line → Line
turned None line = line
turned (Some true) line = record { past = line.past; now = Some fresh }
turned (Some false) line = record { past = line.past ++ one_or_none line.now; now = None }

abbrev pub told_after : ℕ → Event → Did → Line → Line
told_after m event did line = turned (latest (connects_maker m) did.entries) (record { past = line.past; now = option_map (heard m event did) line.now })

-- what events that did this, one after another, tell of a maker after what was told of it before
abbrev pub told_from : ℕ → Line → List Event → List Did → Line
told_from m line [] dids = line
told_from m line (event ∷ events) [] = line
told_from m line (event ∷ events) (did ∷ dids) = told_from m (told_after m event did line) events dids

abbrev pub told : ℕ → List Event → List Did → Line
told m events dids = told_from m (record { past = []; now = None }) events dids

-- ---- what the history says of them

-- the history says this of a maker's connections
abbrev pub Told : Routing → ℕ → List Entry → Line → Type 0
Told g m history line = Tells g m history line.past line.now

-- the entries that were appended
abbrev pub history_of : List Did → List Entry
history_of dids = flat_map (λ d. d.entries) dids
