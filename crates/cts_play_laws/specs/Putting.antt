-- What a slot put on its last connection.
use Rattle.std.specs.Prelude.{◌≡◌, ◌⊎◌, ℕ, ◌+◌, ◌≤◌, false, List, [], ◌∷◌, ◌++◌, length, Option, Some, None}
use Rattle.cts_core_laws.specs.Told.{Line, Told}
use Rattle.cts_entry.specs.declared.entry.Entry.{Entry}
use Rattle.cts_entry.specs.declared.what.What.TheVariants.{Opened}
use Rattle.cts_outside.specs.Lines.{Connection}
use Rattle.cts_trace.specs.Connections.{Says}
use Rattle.cts_trace.specs.Routing.{Routing, spell}
use Rattle.cts_trace.specs.Streams.{routed}

-- the bytes that were put on the last of these connections
abbrev pub last_of : List Connection → List ℕ
last_of [] = []
last_of (c ∷ []) = c.put
last_of (c ∷ d ∷ cs) = last_of (d ∷ cs)

abbrev pub put_last : List Connection → Option Connection → List ℕ
put_last past (Some c) = c.put
put_last past None = last_of past

-- on a maker's last connection, which stands or has ended; none where it has none
abbrev pub last_put : Line → List ℕ
last_put line = put_last line.past line.now

-- These bytes are the first ones of what is routed to a slot from directly after one of its Opened up to a place within the history.
pub record BeginsRouted (g : Routing) (m : ℕ) (history : List Entry) (bytes : List ℕ) : Type 0 where
  pub before : List Entry
  pub opened : Entry
  pub later : List Entry
  pub history_is : history ≡ before ++ opened ∷ later
  pub opens : Says m opened Opened
  pub end : ℕ
  pub within : end ≤ length history
  pub more : List ℕ
  pub all : bytes ++ more ≡ routed (spell g m) (g.routes m) history (length before + 1) end

-- What a slot put last is such, where it had a connection.
abbrev pub LastPutIsRouted : Type 0
LastPutIsRouted = (g : Routing) (m : ℕ) (history : List Entry) (line : Line) → g.is_interface m ≡ false → Told g m history line
    → (last_put line ≡ []) ⊎ BeginsRouted g m history (last_put line)
