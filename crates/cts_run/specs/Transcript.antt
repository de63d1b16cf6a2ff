-- The transcript: what is printed of events.
use Rattle.std.specs.Prelude.{ℕ, List, [], ◌∷◌, ◌++◌, map}
use Rattle.cts_core.specs.Runs.{Did}
use Rattle.cts_def.specs.Sites.{SiteData}
use Rattle.cts_entry.specs.declared.entry.Entry.{Entry}
use Rattle.cts_entry.specs.declared.event.Event.{Event}
use Rattle.cts_script.specs.declared.limits_event.LimitsEvent.{LimitsEvent}
use Rattle.cts_monitor.specs.Events.{events_at}
use Rattle.cts_monitor.specs.declared.types.LimitsEvent.{LimitsEvent as Change}
use Rattle.cts_script.specs.Effects.{effect_line}
use Rattle.cts_script.specs.Transcripts.{lines_after}

abbrev pub events_of : List (ℕ × Event) → List Event
events_of events = map (λ e. e.1) events

-- a change of a limits state, as it is printed
abbrev pub line_event : Change → LimitsEvent
line_event c = record { at = c.at; packet = c.packet; item = c.item; before = c.before; after = c.after }

-- the limits events that an entry has after a history: the changes of limits states at it
abbrev pub limits_events : SiteData → List Entry → Entry → List LimitsEvent
limits_events site history e = map line_event (events_at site history e)

-- the lines of entries that stand after a history
abbrev pub lines_of : SiteData → List Entry → List Entry → List ℕ
lines_of site history entries = lines_after site (limits_events site) history entries

-- the lines of what an event did after a history: those of its entries, and then that of what it gave besides
abbrev pub event_text : SiteData → List Entry → Did → List ℕ
event_text site history did = lines_of site history did.entries ++ effect_line site did.effect

-- The transcript: the lines of each event, after the history before it.
abbrev pub transcript : SiteData → List Entry → List Did → List ℕ
transcript site history [] = []
transcript site history (did ∷ dids) = event_text site history did ++ transcript site (history ++ did.entries) dids
