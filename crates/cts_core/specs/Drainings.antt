-- What the logs take of a history.
use Rattle.std.specs.Prelude.{◌≡◌, ◌<◌, ◌≤◌, ℕ, List, length, take, drop, Result, Ok, Err}
use Rattle.cts_def.specs.Sites.{SiteData}
use Rattle.cts_entry.specs.declared.entry.Entry.{Entry}
use Rattle.cts_entry.specs.declared.event.Effect.{Effect}
use Rattle.cts_entry.specs.declared.event.Effect.TheVariants.{Logged}
use Rattle.cts_core.specs.Environments.{site_environment}
use Rattle.cts_core.specs.States.{commands_log, packets_log}
use Rattle.cts_core.specs.declared.fault.WorldFault.{WorldFault}
use Rattle.cts_core.specs.declared.fault.WorldFault.TheVariants.{NotEnabled, Full, Memory}

-- what the log of packets and the log of commands of a site have of some entries
abbrev pub site_packets_log : SiteData → List Entry → List ℕ
site_packets_log site entries = packets_log (site_environment site) entries

abbrev pub site_commands_log : SiteData → List Entry → List ℕ
site_commands_log site entries = commands_log (site_environment site) entries

-- What the logs take of the next `n` entries after a place: nothing exactly where fewer stand there.
abbrev pub Drains : SiteData → List Entry → ℕ → ℕ → Result Effect WorldFault → Type 0
Drains site history place n (Ok effect) =
    (n ≤ length (drop place history)) × (effect ≡ Logged (site_packets_log site (take n (drop place history)))
    (site_commands_log site (take n (drop place history))))
Drains site history place n (Err NotEnabled) = length (drop place history) < n
Drains site history place n (Err Memory) = n ≤ length (drop place history)
Drains site history place n (Err (Full entries bytes)) = ⊥
