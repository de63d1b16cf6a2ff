-- Rehearsals come to their end.
use Rattle.std.specs.Prelude.{◌≡◌, ℕ, ◌≤◌, List}
use Rattle.cts_core.specs.Environments.{site_environment}
use Rattle.cts_core.specs.Runs.{Did, Ending, Finished, Runs}
use Rattle.cts_core.specs.States.{opening}
use Rattle.cts_def.specs.Sites.{SiteData}
use Rattle.cts_rehearsal.specs.Generated.{generated}
use Rattle.cts_rehearsal_runs.specs.Sites.{IsDemoSite}

-- In each run of a rehearsal of at most a million choices, in the demo's site, all events are done: none is refused, and none finds the
-- history full.
abbrev pub RehearsalsFinish : Type 0
RehearsalsFinish = (site : SiteData) → IsDemoSite site → (n : ℕ) → n ≤ 1000000 → (dids : List Did) (ending : Ending)
    → Runs (site_environment site) opening (generated n) dids ending → ending ≡ Finished
