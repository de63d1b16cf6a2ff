-- What a site says of its lines, the interfaces and the slots of routers: who reads, who writes, where packets and commands go, and
-- who is logged.
use Rattle.std.specs.Prelude.{ℕ, false, Bool, ◌==◌, ◌&&◌, List, map, filter, slice_index_or, Option, Some, None, if◌then◌else◌}
use Rattle.std.specs.List.{list_any}
use Rattle.cts_chain.specs.Builds.{use_specs, writes}
use Rattle.cts_chain.specs.Writing.{chain_spelling}
use Rattle.cts_def.specs.Makers.{router_of}
use Rattle.cts_def.specs.Packets.{unknown}
use Rattle.cts_def.specs.Protocols.{SpecData}
use Rattle.cts_def.specs.Sites.{InterfaceData, SiteData}
use Rattle.cts_def.specs.declared.ident.Ident.{Ident}
use Rattle.cts_def.specs.declared.ident.Ident.TheVariants.{Known, Unknown}
use Rattle.cts_entry.specs.Workers.{is_interface, is_slot, interface_of}
use Rattle.cts_ident.specs.Identification.{identified, identified_command, named, routes_at}
use Rattle.cts_framing.specs.Chains.{framings_at, uses_at}
use Rattle.cts_framing.specs.Framing.{Heading, Output}
use Rattle.cts_def.specs.Names.{packet_names as names_of_packet, command_names}
use Rattle.cts_trace.specs.Routing.{Routing}

-- ---- which definition an output is

-- by its id fields: a packet of the interface's targets, or a command of the targets of the slot's router
abbrev pub identified_by : SiteData → ℕ → List ℕ → Ident
identified_by site by bytes = if is_interface site by then identified site by bytes else identified_command site (router_of by) bytes

-- by the names that it brings along, and by its id fields where it has none
abbrev pub ident_by : SiteData → ℕ → List ℕ → Option Heading → Ident
ident_by site by bytes None = identified_by site by bytes
ident_by site by bytes (Some heading) = named site by heading.target heading.packet

abbrev pub ident_of : SiteData → ℕ → Output → Ident
ident_of site by out = ident_by site by out.bytes out.heading

-- ---- where it goes

-- the slot's router routes the packets of the interface
abbrev pub is_routed : SiteData → ℕ → ℕ → Bool
is_routed site slot interface = is_slot site slot && list_any (λ n. n == interface) (routes_at site.routers (router_of slot))

-- the packets of the interface and the commands for it are logged
abbrev pub is_logged : SiteData → ℕ → Bool
is_logged site interface = slice_index_or (map (λ (i : InterfaceData). i.logged) site.interfaces) interface false

-- ---- names

-- the target and the name of a packet, which are UNKNOWN where no definition fits
abbrev pub packet_names : SiteData → Ident → List ℕ × List ℕ
packet_names site (Known number) = names_of_packet site number
packet_names site Unknown = (unknown, unknown)

-- ---- what is put

-- the specs of the protocols of this maker that write, in order
abbrev pub writers_at : SiteData → ℕ → List SpecData
writers_at site by = use_specs (filter writes (uses_at site by))

-- the spelling of some bytes by them, unless one of them refuses
abbrev pub spelling_at : SiteData → ℕ → Heading → List ℕ → Option (List ℕ)
spelling_at site by heading bytes = chain_spelling (writers_at site by) heading bytes

-- ---- all of this

abbrev pub site_routing : SiteData → Routing
site_routing site = record {
  is_interface = is_interface site;
  chain = framings_at site;
  ident = ident_of site;
  interface_of = interface_of site;
  routes = is_routed site;
  packet_names = packet_names site;
  command_names = command_names site;
  spelling = spelling_at site;
}
