-- What is seen of a reader.
use Rattle.std.specs.Prelude.{ℕ, List, []}
use Rattle.cts_entry.specs.declared.entry.Entry.{Entry}

-- the list that it has seen or was told of, and how often it was refused
pub record Reads : Type 0 where
  pub list : List Entry
  pub refused : ℕ

-- of one that has seen nothing
abbrev pub unread : Reads
unread = record { list = []; refused = 0 }
