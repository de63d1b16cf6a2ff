-- How much a history may hold, and whether there is room for more.
use Rattle.std.specs.Prelude.{ℕ, ◌+◌, Bool, ◌&&◌, nat_le, List}
use Rattle.cts_entry.specs.declared.entry.Entry.{Entry}
use Rattle.cts_entry.specs.Histories.{bytes_in, entries_in}

-- how much a history may hold: the number of its entries other than Closed, Ended and Stop, and the bytes of its packets and commands
pub record Capacity : Type 0 where
  pub entries : ℕ
  pub bytes : ℕ

-- whether the history has room for that number of entries and bytes more
abbrev pub has_room : Capacity → List Entry → ℕ → ℕ → Bool
has_room room history entries bytes = nat_le (entries_in history + entries) room.entries && nat_le (bytes_in history + bytes) room.bytes
