-- The packets that a maker adds.
use Rattle.std.specs.Prelude.{ℕ, false, List, [], map}
use Rattle.std.specs.List.{range_with_len}
use Rattle.cts_def.specs.declared.ident.Ident.TheVariants.{Unknown}
use Rattle.cts_entry.specs.declared.entry.Entry.{Entry}
use Rattle.cts_entry.specs.declared.what.What.TheVariants.{Packet}

abbrev pub entry_at : ℕ → ℕ → Entry
entry_at by seconds = record { by = by; time = record { seconds = seconds; micros = 0 }; what = Packet Unknown false [] }

abbrev pub added : ℕ → ℕ → List Entry
added by n = map (entry_at by) (range_with_len 0 n)
