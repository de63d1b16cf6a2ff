-- The lines of a piece of the history: each entry with its number, and directly after it its events.
use Rattle.std.specs.Prelude.{ℕ, List, [], ◌∷◌, ◌++◌, length}
use Rattle.cts_entry.specs.declared.entry.Entry.{Entry}
use Rattle.cts_def.specs.Sites.{SiteData}
use Rattle.cts_script.specs.declared.limits_event.LimitsEvent.{LimitsEvent}
use Rattle.cts_script.specs.Events.{event_lines}
use Rattle.cts_script.specs.Lines.{entry_line}

-- the line of entry number n, and the lines of its events
abbrev pub entry_lines : SiteData → ℕ → Entry → List LimitsEvent → List ℕ
entry_lines site n e events = entry_line site n e ++ event_lines site events

-- The lines of entries that stand after a history. An entry's number is the length of the history before it, and its
-- events are those that it has after that history.
abbrev pub lines_after : SiteData → (List Entry → Entry → List LimitsEvent) → List Entry → List Entry → List ℕ
lines_after site events history [] = []
lines_after site events history (e ∷ entries) =
    entry_lines site (length history) e (events history e) ++ lines_after site events (history ++ e ∷ []) entries
