-- What the worker of a line needs, and what it owes.
use Rattle.std.specs.Prelude.{◌≡◌, ℕ, ◌≤◌, ◌⊎◌, Bool, true, false, List, Some}
use Rattle.cts_chain.specs.Builds.{IsFresh}
use Rattle.cts_chain.specs.Shapes.{ChainData}
use Rattle.cts_connection.specs.LinePlaces.{is_line}
use Rattle.cts_connection.specs.Routings.{site_routing}
use Rattle.cts_def.specs.Sites.{SiteData}
use Rattle.cts_entry.specs.declared.entry.Entry.{Entry}
use Rattle.cts_entry.specs.Histories.{is_stopped}
use Rattle.cts_framing.specs.Chains.{uses_at}
use Rattle.cts_line.specs.Ending.{CausesEnd, DialsFor, has_closed, has_stop, is_full, is_no_memory, opened_in, reconnects, stops_all}
use Rattle.cts_line.specs.Rows.{ToldInRows}
use Rattle.cts_line.specs.Talks.{room_of}
use Rattle.cts_line.specs.Telling.{Retells, SomeLine, made_by, since}
use Rattle.cts_line.specs.declared.ending.LineWhy.{LineWhy}
use Rattle.cts_line.specs.declared.ending.LineWhy.TheVariants.{Stopped, Finished, NoReconnect, DoorFailed, Full, NoMemory, Cancelled}
use Rattle.cts_outside.specs.Lines.{hung_up, told_after}
use Rattle.cts_outside.specs.Seen.{LineSeen}
use Rattle.cts_table.specs.declared.basis.Basis.{Basis}
use Rattle.cts_trace.specs.Makers.{LastEnded, faults_of}
use Rattle.cts_worker.specs.Counts.{RoseBy}
use Rattle.cts_server.specs.Workers.{IsUnstarted, LastLook}

-- The site is that of the turn, the worker is a line of it, and its chain is the site's, to which nothing was fed.
pub record MayRunLine (basis : Basis) (by : ℕ) (site : SiteData) (chain : ChainData) : Type 0 where
  pub same : site ≡ basis.site
  pub line : is_line site by ≡ true
  pub fresh : IsFresh (uses_at site by) chain

abbrev pub is_cancelled : LineWhy → Bool
is_cancelled Stopped = false
is_cancelled Finished = false
is_cancelled NoReconnect = false
is_cancelled DoorFailed = false
is_cancelled Full = false
is_cancelled NoMemory = false
is_cancelled Cancelled = true

-- What a line that ran leaves, by what its dialer showed before and shows now. What the history says of its connections is what its dialer
-- tells of this run, with the packets of each piece side by side, as what it saw at its last look did, and of a dialer that tells nothing
-- it says some connections; its last entry is its Ended. Why it ended has its cause in that look, since others may stop the server later.
pub record RanLine (basis : Basis) (by : ℕ) (found : List ℕ) (history : List Entry) (old new : LineSeen) (connections : ℕ) (why : LineWhy) : Type 0 where
  pub seen : List Entry
  pub look : LastLook by seen history
  pub looked : ToldInRows (site_routing basis.site) (room_of basis) by found seen (since (made_by old.told) new.told)
  pub told : ToldInRows (site_routing basis.site) (room_of basis) by found history (since (made_by old.told) new.told)
  pub some : SomeLine (λ told. ToldInRows (site_routing basis.site) (room_of basis) by found history told)
  pub retells : Retells (told_after hung_up old.told) new.told
  pub ended : LastEnded by history
  pub opened : connections ≡ opened_in by history
  pub once : reconnects basis.site by ≡ false → connections ≤ 1
  pub cause : CausesEnd basis.site basis.entries by seen new.told old.failed_dials new.failed_dials why
  pub stops : stops_all why ≡ true → is_stopped seen ≡ true
  pub own_stop : has_stop by history ≡ true → stops_all why ≡ true
  pub faults : RoseBy (faults_of by history) old.faults new.faults
  pub dials : DialsFor basis.site by (Some why) old new
  pub full : has_closed by is_full history ≡ true → why ≡ Full
  pub memory : has_closed by is_no_memory history ≡ true → why ≡ NoMemory
  pub idle : new.linked ≡ false

-- A line that was not started: its dialer is as it was.
pub record UnstartedLine (by : ℕ) (history : List Entry) (old new : LineSeen) (connections : ℕ) (why : LineWhy) : Type 0 where
  pub unstarted : IsUnstarted by history
  pub same : new ≡ old
  pub none : connections ≡ 0
  pub cancelled : why ≡ Cancelled

-- What the worker of a line owes at its end.
abbrev pub OwesLine : Basis → ℕ → List ℕ → List Entry → LineSeen → LineSeen → ℕ → LineWhy → Type 0
OwesLine basis by found history old new connections why = RanLine basis by found history old new connections why
    ⊎ UnstartedLine by history old new connections why
