-- The framings of the chains of a site.
use Rattle.std.specs.Prelude.{ℕ, nat_lt, List, [], map, filter, slice_index_or, if◌then◌else◌}
use Rattle.cts_def.specs.Makers.{first_slot, first_desk, router_of}
use Rattle.cts_def.specs.Protocols.{UseData, reads}
use Rattle.cts_def.specs.Sites.{InterfaceData, RouterData, SiteData}
use Rattle.cts_framing.specs.Framing.{Framing}
use Rattle.cts_framing.specs.Rows.{framing_of}

abbrev pub use_framing : UseData → Framing
use_framing u = framing_of u.spec

-- the framings of the protocols that read, in order
abbrev pub framings_of : List UseData → List Framing
framings_of uses = map use_framing (filter reads uses)

-- the chains of interfaces, and those of routers
abbrev pub interface_chains : SiteData → List (List UseData)
interface_chains site = map (λ (i : InterfaceData). i.chain) site.interfaces

abbrev pub router_chains : SiteData → List (List UseData)
router_chains site = map (λ (r : RouterData). r.chain) site.routers

-- the protocols of the interface or of the slot's router of this number, and none where there is no such maker
abbrev pub uses_at : SiteData → ℕ → List UseData
uses_at site by =
    if nat_lt by first_slot then slice_index_or (interface_chains site) by []
    else if nat_lt by first_desk then slice_index_or (router_chains site) (router_of by) []
    else []

-- the framings with which the bytes of this maker's connections are cut
abbrev pub framings_at : SiteData → ℕ → List Framing
framings_at site by = framings_of (uses_at site by)
