-- The demo's site, as far as a rehearsal needs it.
use Rattle.std.specs.Prelude.{◌≡◌, ◌≤◌, [], ◌∷◌, length}
use Rattle.cts_def.specs.Sites.{SiteData}
use Rattle.cts_rehearsal_laws.specs.Demo.{HasDemoCommand}
use Rattle.cts_rehearsal_runs.specs.Protocols.{both_ways, frames, lines}

-- It has the demo's one command and two interfaces, of which the first sends frames and the second lines, a router, and a desk.
pub record IsDemoSite (site : SiteData) : Type 0 where
  pub command : HasDemoCommand site
  pub instrument : command.first.chain ≡ both_ways frames ∷ []
  pub unit : command.second.chain ≡ both_ways lines ∷ []
  pub router : length site.routers ≡ 1
  pub desk : 1 ≤ site.desks
