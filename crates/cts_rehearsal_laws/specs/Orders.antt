-- What the requests of a rehearsal ask.
use Rattle.std.specs.Prelude.{ℕ, ◌≤◌, pos, true, List, [], ◌∷◌, ◌++◌, codes, Some}
use Rattle.cts_methods.specs.Asking.{in_text}
use Rattle.cts_api.specs.Replies.{IsRequested}
use Rattle.cts_cmd.specs.declared.request.Checks.{Checks}
use Rattle.cts_cmd.specs.declared.request.Given.TheVariants.{Whole}
use Rattle.cts_cmd.specs.declared.request.Request.{Request}
use Rattle.cts_core.specs.Sendings.{AsksFor}
use Rattle.cts_rehearsal.specs.Generated.{digits_of, order}

abbrev pub all_checks : Checks
all_checks = record { range = true; hazardous = true }

-- the text of the command with this duration
abbrev pub order_text : ℕ → List ℕ
order_text v = codes "INST COLLECT with DURATION " ++ digits_of v

-- and what it asks for
abbrev pub order_request : ℕ → Request
order_request v = record { target = codes "INST"; command = codes "COLLECT"; params = (codes "DURATION", Whole (pos v)) ∷ [] }

-- Each body of a rehearsal that sends a command calls the method that sends this text with all checks.
abbrev pub OrdersAskFor : Type 0
OrdersAskFor = (v : ℕ) → v ≤ 11 → AsksFor (order v) all_checks (in_text (order_text v))

-- The text is a command text, which asks for the command with this duration.
abbrev pub OrdersRequest : Type 0
OrdersRequest = (v : ℕ) → v ≤ 11 → IsRequested (in_text (order_text v)) (Some (order_request v))
