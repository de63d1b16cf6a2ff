-- The event that a line says, by its keyword and the words after it.
use Rattle.std.specs.Prelude.{ℕ, List, [], ◌∷◌, Option, Some, None, option_map, option_and_then, if◌then◌else◌}
use Rattle.cts_def.specs.Sites.{SiteData}
use Rattle.cts_entry.specs.declared.event.Event.{Event}
use Rattle.cts_entry.specs.declared.event.Event.TheVariants as event
use Rattle.cts_scriptread.specs.declared.form.Keyword.{Keyword}
use Rattle.cts_scriptread.specs.declared.form.Keyword.TheVariants as keyword
use Rattle.cts_scriptread.specs.Makers.{both, interface_named, slot_named, maker_named}
use Rattle.cts_scriptread.specs.Words.{number_of, count_of, piece_of, why_of, is_log}

abbrev pub time_at : ℕ → ℕ → Event
time_at seconds micros = event.SetTime (record { seconds = seconds; micros = micros })

abbrev pub time_in : List (List ℕ) → Option Event
time_in (seconds ∷ micros ∷ []) = both time_at (number_of seconds) (number_of micros)
time_in _ = None

abbrev pub opens_in : SiteData → List (List ℕ) → Option Event
opens_in site (who ∷ []) = option_map event.Opens (maker_named site who)
opens_in site _ = None

abbrev pub piece_in : SiteData → List (List ℕ) → Option Event
piece_in site (who ∷ digits ∷ []) = both event.Piece (maker_named site who) (piece_of digits)
piece_in site _ = None

abbrev pub finish_in : SiteData → List (List ℕ) → Option Event
finish_in site (who ∷ why ∷ []) = both event.Finish (maker_named site who) (why_of why)
finish_in site _ = None

abbrev pub write_in : SiteData → List (List ℕ) → Option Event
write_in site (interface ∷ count ∷ []) = both event.Write (interface_named site interface) (count_of count)
write_in site _ = None

abbrev pub call_in : List (List ℕ) → Option Event
call_in (desk ∷ text ∷ []) = option_map (λ d. event.Call d text) (number_of desk)
call_in _ = None

-- the logs or a slot take `count` entries
abbrev pub drain_of : SiteData → List ℕ → ℕ → Option Event
drain_of site who count = if is_log who then Some (event.DrainLog count) else option_map (λ slot. event.DrainSlot slot count) (slot_named site who)

abbrev pub drain_in : SiteData → List (List ℕ) → Option Event
drain_in site (who ∷ count ∷ []) = option_and_then (drain_of site who) (count_of count)
drain_in site _ = None

abbrev pub stop_in : List (List ℕ) → Option Event
stop_in [] = Some event.Stop
stop_in _ = None

abbrev pub event_of : SiteData → Keyword → List (List ℕ) → Option Event
event_of site keyword.Time words = time_in words
event_of site keyword.Open words = opens_in site words
event_of site keyword.Bytes words = piece_in site words
event_of site keyword.Close words = finish_in site words
event_of site keyword.Write words = write_in site words
event_of site keyword.Call words = call_in words
event_of site keyword.Drain words = drain_in site words
event_of site keyword.Stop words = stop_in words
