-- How many events one entry makes at most.
use Rattle.std.specs.Prelude.{ℕ, if◌then◌else◌, max, List, [], ◌∷◌, length}
use Rattle.cts_def.specs.Packets.{PacketData}
use Rattle.cts_def.specs.Sites.{SiteData}
use Rattle.cts_monitor.specs.Watching.{watches}

abbrev pub widest_of : List PacketData → ℕ
widest_of [] = 0
widest_of (p ∷ ps) = max (length p.items) (widest_of ps)

-- the most items of a telemetry packet
abbrev pub widest : SiteData → ℕ
widest site = widest_of site.definitions.telemetry

-- how many events an entry may make
abbrev pub width_of : SiteData → ℕ
width_of site = if watches site then widest site else 0
