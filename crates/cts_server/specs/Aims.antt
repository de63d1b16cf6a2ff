-- Where the devices of a site are to connect to, or to accept clients.
use Rattle.std.specs.Prelude.{ℕ, pos, true, List, [], ◌∷◌, map, replicate}
use Rattle.std.specs.List.{flat_map}
use Rattle.cts_def.specs.Sites.{InterfaceData, RouterData, SiteData}
use Rattle.cts_outside.specs.Lines.{aimed, told_after}
use Rattle.cts_outside.specs.Seen.{LineSeen}
use Rattle.cts_outside.specs.declared.link.Aim.{Aim}

-- the dialer of an interface: where it connects, or accepts its device
abbrev pub interface_aim : InterfaceData → Aim
interface_aim i = record { host = i.aim_host; port = i.port; serves = i.serves; delay = i.delay }

-- a door, which accepts clients on a port
abbrev pub door_aim : ℕ → Aim
door_aim port = record { host = []; port = port; serves = true; delay = record { parts = pos 0 } }

-- either door of a router
abbrev pub router_aims : RouterData → List Aim
router_aims r = door_aim r.port ∷ door_aim r.port ∷ []

-- ---- those of all devices that a site needs, in the order of their workers

abbrev pub line_aims : SiteData → List Aim
line_aims site = map interface_aim site.interfaces

abbrev pub slot_aims : SiteData → List Aim
slot_aims site = flat_map router_aims site.routers

abbrev pub desk_aims : SiteData → List Aim
desk_aims site = replicate site.desks (door_aim site.api_port)

-- what a dialer shows once it is aimed: nothing else of it has changed
abbrev pub aimed_at : Aim → LineSeen → LineSeen
aimed_at aim s = record s { told = told_after (aimed aim) s.told }
