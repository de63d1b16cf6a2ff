-- Which makers are lines, and where the connection of each stands: the interfaces first, and then the slots of the routers.
use Rattle.std.specs.Prelude.{ℕ, ◌+◌, ◌-◌, ◌*◌, Bool, ◌||◌, length, if◌then◌else◌}
use Rattle.cts_def.specs.Makers.{first_slot}
use Rattle.cts_def.specs.Sites.{SiteData}
use Rattle.cts_entry.specs.Workers.{is_interface, is_slot}

-- an interface, or a slot of a router
abbrev pub is_line : SiteData → ℕ → Bool
is_line site by = is_slot site by || is_interface site by

-- the place of a line's connection among those of its site
abbrev pub line_place : SiteData → ℕ → ℕ
line_place site by = if is_interface site by then by else length site.interfaces + (by - first_slot)

-- how many lines a site has
abbrev pub line_count : SiteData → ℕ
line_count site = length site.interfaces + 2 * length site.routers
