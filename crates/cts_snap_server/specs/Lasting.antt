-- What a worker's end says of a history, and goes on to say of it when others append.
use Rattle.std.specs.Prelude.{◌≡◌, ℕ, List}
use Rattle.cts_entry.specs.declared.entry.Entry.{Entry}
use Rattle.cts_trace.specs.Makers.{of_maker}
use Rattle.cts_turn.specs.Lists.{StartsWith}

-- what holds of a history holds of every longer one with the same entries of this maker
abbrev pub Lasts : ℕ → (List Entry → Type 0) → Type 0
Lasts by Holds = (seen whole : List Entry) → StartsWith whole seen → of_maker by whole ≡ of_maker by seen → Holds seen → Holds whole
