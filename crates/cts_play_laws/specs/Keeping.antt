-- What every run keeps of the packets in its history.
use Rattle.std.specs.Prelude.{◌≡◌, ◌≢◌, ◌≤◌, ℕ, true, List, [], length}
use Rattle.std.specs.List.{AllByRecursion}
use Rattle.cts_core.specs.Environments.{environment_of}
use Rattle.cts_core.specs.Runs.{Did, Ending, Runs}
use Rattle.cts_core.specs.States.{opening}
use Rattle.cts_core_laws.specs.Told.{history_of}
use Rattle.cts_def.specs.Sites.{IsSoundSite, SiteData, targets_at}
use Rattle.cts_entry.specs.Workers.{is_interface}
use Rattle.cts_entry.specs.declared.entry.Entry.{Entry}
use Rattle.cts_entry.specs.declared.event.Event.{Event}
use Rattle.cts_entry.specs.declared.what.What.{What}
use Rattle.cts_entry.specs.declared.what.What.TheVariants.{Opened, Packet, Closed, Command, SetLimits, Enable, LimitsSetIs, Injected, Unrouted, Stop, Ended}
use Rattle.cts_framing.specs.Chains.{framings_at}
use Rattle.cts_ident_laws.specs.Named.{IsOfTargets}
use Rattle.cts_table.specs.declared.basis.Basis.{Basis}

-- a packet has bytes, and is one of its maker's targets where a definition fits
abbrev pub IsOfMaker : SiteData → ℕ → What → Type 0
IsOfMaker site by Opened = Unit {0}
IsOfMaker site by (Packet ident stored bytes) = (bytes ≢ []) × IsOfTargets site.definitions (targets_at site.interfaces by) ident
IsOfMaker site by (Closed why loss unposted unsent) = Unit {0}
IsOfMaker site by (Command interface command bytes) = Unit {0}
IsOfMaker site by (SetLimits enabled packet item persistence set limits) = Unit {0}
IsOfMaker site by (Enable packet item enabled) = Unit {0}
IsOfMaker site by (LimitsSetIs set) = Unit {0}
IsOfMaker site by (Injected packet bytes) = Unit {0}
IsOfMaker site by (Unrouted why bytes) = Unit {0}
IsOfMaker site by Stop = Unit {0}
IsOfMaker site by Ended = Unit {0}

-- the packets of all interfaces are such
abbrev pub AreOfMakers : SiteData → List Entry → Type 0
AreOfMakers site history = AllByRecursion (λ (e : Entry). is_interface site e.by ≡ true → IsOfMaker site e.by e.what) history

-- each interface has a chain with a stage
abbrev pub HaveStages : SiteData → Type 0
HaveStages site = (by : ℕ) → is_interface site by ≡ true → 1 ≤ length (framings_at site by)

abbrev pub RunsKeepPackets : Type 0
RunsKeepPackets = (base : Basis) (events : List Event) (dids : List Did) (ending : Ending) → IsSoundSite base.site → HaveStages base.site
    → Runs (environment_of base) opening events dids ending → AreOfMakers base.site (history_of dids)
