-- What goes to logs and to routers out of a history.
use Rattle.std.specs.Prelude.{ℕ, Bool, List, slice_range, Option}
use Rattle.std.specs.List.{filter, flat_map}
use Rattle.cts_entry.specs.declared.entry.Entry.{Entry}
use Rattle.cts_entry.specs.declared.what.What.{What}
use Rattle.cts_entry.specs.Histories.{bytes_of, packets_from, commands_to, stored_of}
use Rattle.cts_entry.specs.Queues.{spelled}
use Rattle.cts_framing.specs.Framing.{Heading}
use Rattle.cts_trace.specs.Routing.{heading_of}

-- how an entry is laid out in a log: its time, its names and its stored flag as a heading, and its bytes
abbrev pub lay_out : (Heading → List ℕ → List ℕ) → (What → List ℕ × List ℕ) → Entry → List ℕ
lay_out layout names e = layout (heading_of (names e.what) (stored_of e.what) e.time) (bytes_of e.what)

-- the log of packets and the log of commands, of some entries, after their heads: those of the interfaces that are logged
abbrev pub telemetry_log : (Heading → List ℕ → List ℕ) → (What → List ℕ × List ℕ) → (ℕ → Bool) → List Entry → List ℕ
telemetry_log layout names is_logged entries = flat_map (lay_out layout names) (filter (packets_from is_logged) entries)

abbrev pub command_log : (Heading → List ℕ → List ℕ) → (What → List ℕ × List ℕ) → (ℕ → Bool) → List Entry → List ℕ
command_log layout names is_logged entries = flat_map (lay_out layout names) (filter (commands_to is_logged) entries)

-- what goes to a slot, to which the packets of these interfaces are routed, from the entries at places from one up to another
abbrev pub routed : (Entry → Option (List ℕ)) → (ℕ → Bool) → List Entry → ℕ → ℕ → List ℕ
routed spell routes history from end = spelled spell (filter (packets_from routes) (slice_range history from end))
