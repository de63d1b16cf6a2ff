-- How many workers a site has, and which of them were cancelled.
use Rattle.std.specs.Prelude.{ℕ, ◌+◌, ◌*◌, Bool, List, [], ◌∷◌, ◌++◌, length, map}
use Rattle.cts_def.specs.Sites.{SiteData}
use Rattle.cts_server.specs.Desks.{is_cancelled as is_cancelled_desk}
use Rattle.cts_server.specs.Lines.{is_cancelled}
use Rattle.cts_server.specs.Scribes.{is_cancelled as is_cancelled_scribe}
use Rattle.cts_server.specs.declared.worked.DeskNote.{DeskNote}
use Rattle.cts_server.specs.declared.worked.Worked.{Worked}

-- the interfaces, two slots for each router, the desks and the scribe
abbrev pub worker_count : SiteData → ℕ
worker_count site = length site.interfaces + 2 * length site.routers + site.desks + 1

-- of each worker, in the order of the jobs, whether it was cancelled
abbrev pub cancellations : Worked → List Bool
cancellations w = map is_cancelled w.lines ++ (map (λ (n : DeskNote). is_cancelled_desk n.why) w.desks ++ is_cancelled_scribe w.scribe ∷ [])

-- a flag itself
abbrev pub is_set : Bool → Bool
is_set b = b
