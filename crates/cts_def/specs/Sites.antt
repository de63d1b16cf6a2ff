-- Interfaces, routers and sites: what contracts see of them, and the rules that they keep.
use Rattle.std.specs.Prelude.{◌≡◌, ℕ, zero, suc, pos, ◌≤◌, Bool, true, false, not, ◌&&◌, ◌||◌, ◌==◌, int_le, nat_le, nat_lt, nat_eq, List, [], ◌∷◌}
use Rattle.std.specs.Prelude.{map, length, Option, None, Some, IsTrue, if◌then◌else◌}
use Rattle.std.specs.List.{list_any, list_all, IsDistinct, AllByRecursion, flat_map}
use Rattle.cts_base.specs.declared.decimal.Decimal.{Decimal}
use Rattle.cts_def.specs.Items.{is_same}
use Rattle.cts_def.specs.Beginnings.{start_of}
use Rattle.cts_def.specs.Most.{least_cycle, most_cycle, most_desks, most_interfaces, most_routers}
use Rattle.cts_def.specs.Packets.{PacketData, DefinitionsData, of_targets}
use Rattle.cts_def.specs.Protocols.{SpecData, Fixed, UseData, is_chain, is_layout}

-- what contracts see of an interface: its fields
pub record InterfaceData : Type 0 where
  pub name : List ℕ
  pub aim_host : List ℕ
  pub port : ℕ
  pub serves : Bool
  pub targets : List (List ℕ)
  pub chain : List UseData
  pub reconnect : Bool
  pub delay : Decimal
  pub logged : Bool

pub record IsSoundInterface (i : InterfaceData) : Type 0 where
  pub port : 1 ≤ i.port
  pub host : IsTrue (not i.serves || (length i.aim_host == 0))
  pub chain : IsTrue (is_chain i.chain)
  pub delay : IsTrue (int_le (pos 0) i.delay.parts)

-- what contracts see of a router: its fields
pub record RouterData : Type 0 where
  pub name : List ℕ
  pub port : ℕ
  pub routes : List ℕ
  pub chain : List UseData

pub record IsSoundRouter (r : RouterData) : Type 0 where
  pub port : 1 ≤ r.port
  pub chain : IsTrue (is_chain r.chain)
  pub routes : IsDistinct nat_eq r.routes

-- what contracts see of a site: its fields
pub record SiteData : Type 0 where
  pub definitions : DefinitionsData
  pub interfaces : List InterfaceData
  pub routers : List RouterData
  pub api_port : ℕ
  pub desks : ℕ
  pub log_layout : ℕ
  pub log_cycle : Option ℕ

-- the targets of the interface of this number, and none where there is none
abbrev pub targets_at : List InterfaceData → ℕ → List (List ℕ)
targets_at [] n = []
targets_at (i ∷ interfaces) zero = i.targets
targets_at (i ∷ interfaces) (suc n) = targets_at interfaces n

-- the targets of the interfaces of these numbers
abbrev pub routed_targets : List InterfaceData → List ℕ → List (List ℕ)
routed_targets interfaces routes = flat_map (targets_at interfaces) routes

-- each route names one of so many interfaces
abbrev pub routes_within : ℕ → RouterData → Bool
routes_within interfaces r = list_all (λ n. nat_lt n interfaces) r.routes

-- the targets of these interfaces, one interface after the other
abbrev pub targets_of : List InterfaceData → List (List ℕ)
targets_of interfaces = flat_map (λ (i : InterfaceData). i.targets) interfaces

-- ---- targets and packets

-- one of these packets has the target
abbrev pub has_target : List PacketData → List ℕ → Bool
has_target packets name = list_any (λ (p : PacketData). is_same p.target name) packets

-- a packet or command has the target
abbrev pub is_known_target : DefinitionsData → List ℕ → Bool
is_known_target d name = has_target d.telemetry name || has_target d.commands name

-- the packets among which FIXED looks: telemetry packets or commands
abbrev pub packets_of : DefinitionsData → Bool → List PacketData
packets_of d telemetry = if telemetry then d.telemetry else d.commands

-- FIXED knows how all packets of these targets begin, and none of them is variable.
abbrev pub IsOfPackets : DefinitionsData → List (List ℕ) → SpecData → Type 0
IsOfPackets d targets (Fixed f) =
    (f.starts ≡ map start_of (of_targets targets (packets_of d f.telemetry)))
    × (list_any (λ (p : PacketData). p.variable) (of_targets targets (packets_of d f.telemetry)) ≡ false)
IsOfPackets d targets _ = Unit {0}

abbrev pub AreOfPackets : DefinitionsData → List (List ℕ) → List UseData → Type 0
AreOfPackets d targets chain = AllByRecursion (λ (u : UseData). IsOfPackets d targets u.spec) chain

-- ---- logs

-- the greatest size of a part of a log with more than one entry, where there is one
abbrev pub is_cycle : Option ℕ → Bool
is_cycle None = true
is_cycle (Some bytes) = nat_le least_cycle bytes && nat_le bytes most_cycle

-- ---- all that a site file has to keep

pub record IsSoundSite (s : SiteData) : Type 0 where
  pub few_interfaces : length s.interfaces ≤ most_interfaces
  pub few_routers : length s.routers ≤ most_routers
  pub interface_names : IsDistinct is_same (map (λ (i : InterfaceData). i.name) s.interfaces)
  pub router_names : IsDistinct is_same (map (λ (r : RouterData). r.name) s.routers)
  pub targets : IsDistinct is_same (targets_of s.interfaces)
  pub known_targets : IsTrue (list_all (is_known_target s.definitions) (targets_of s.interfaces))
  pub routes : IsTrue (list_all (routes_within (length s.interfaces)) s.routers)
  pub interface_packets : AllByRecursion (λ (i : InterfaceData). AreOfPackets s.definitions i.targets i.chain) s.interfaces
  pub router_packets : AllByRecursion (λ (r : RouterData). AreOfPackets s.definitions (routed_targets s.interfaces r.routes) r.chain) s.routers
  pub api_port : 1 ≤ s.api_port
  pub some_desks : 1 ≤ s.desks
  pub few_desks : s.desks ≤ most_desks
  pub log_layout : IsTrue (is_layout s.log_layout)
  pub log_cycle : IsTrue (is_cycle s.log_cycle)
