-- Commands of a rehearsal are sent, and may be written.
use Rattle.std.specs.Prelude.{◌≡◌, ℕ, ◌≤◌, pos, true, [], ◌∷◌, codes, Some, None, length}
use Rattle.cts_api.specs.Made.{built}
use Rattle.cts_cmd.specs.Checks.{refusal}
use Rattle.cts_cmd.specs.declared.refused.Refused.TheVariants.{OutOfRange}
use Rattle.cts_def.specs.Sites.{SiteData}
use Rattle.cts_entry.specs.Histories.{is_connected, since}
use Rattle.cts_entry.specs.declared.event.Event.TheVariants.{Call, Write}
use Rattle.cts_trace.specs.Routing.{walk}
use Rattle.cts_core.specs.Environments.{basis_of, site_environment}
use Rattle.cts_table.specs.States.{is_within}
use Rattle.cts_core.specs.Runs.{Did, Does, after}
use Rattle.cts_core.specs.Sendings.{command_entry}
use Rattle.cts_core.specs.States.{State, is_enabled}
use Rattle.cts_rehearsal.specs.Generated.{order}
use Rattle.cts_rehearsal_laws.specs.Demo.{HasDemoCommand}
use Rattle.cts_rehearsal_laws.specs.Orders.{all_checks, order_request}

-- No check refuses a duration of at most 10, and 11 is out of range.
abbrev pub OrdersAreChecked : Type 0
OrdersAreChecked = (site : SiteData) → HasDemoCommand site
    → ((v : ℕ) → v ≤ 10 → refusal site.definitions (order_request v) all_checks ≡ None)
    × (refusal site.definitions (order_request 11) all_checks ≡ Some (OutOfRange (codes "DURATION") (pos 11) (pos 0) (pos 10)))

-- the first interface is connected, and the history has room for the command
pub record MaySend (site : SiteData) (s : State) (v : ℕ) : Type 0 where
  pub connected : is_connected 0 s.history ≡ true
  pub room : is_within (basis_of site) s.history 1 (length (built site.definitions (order_request v)).bytes) ≡ true

-- What a client of a rehearsal sends is then appended, and nothing else is.
abbrev pub OrdersAreSent : Type 0
OrdersAreSent = (site : SiteData) → HasDemoCommand site → (s : State) (v : ℕ) (did : Did) → v ≤ 10 → MaySend site s v
    → Does (site_environment site) s (Call 0 (order v)) did → did.entries ≡ command_entry site s 0 0 (order_request v) ∷ []

-- And so the write that follows it is enabled, where the interface has passed no more commands than came.
abbrev pub WritesAreEnabled : Type 0
WritesAreEnabled = (site : SiteData) → HasDemoCommand site → (s : State) (v : ℕ) (did : Did) → v ≤ 10 → MaySend site s v
    → s.cursor 0 ≤ length (walk (site_environment site).routing 0 (since 0 s.history))
    → Does (site_environment site) s (Call 0 (order v)) did → is_enabled (site_environment site) (after s (Call 0 (order v)) did) (Write 0 1) ≡ true

-- A command that is out of range leaves the history as it was.
abbrev pub RefusedOrdersLeaveNothing : Type 0
RefusedOrdersLeaveNothing = (site : SiteData) → HasDemoCommand site → (s : State) (did : Did) → Does (site_environment site) s (Call 0 (order 11)) did
    → did.entries ≡ []
