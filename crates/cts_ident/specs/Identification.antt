-- Which packet or command some bytes, or some names, are: the first that fits, in order of definition, among those of
-- the targets that a connection reaches.
use Rattle.std.specs.Prelude.{ℕ, ◌≡◌, ◌+◌, ◌<◌, Bool, nat_lt, List, [], ◌∷◌, map, length, Option, Some, None, IsTrue, slice_get, slice_index_or, if◌then◌else◌}
use Rattle.std.specs.List.{filter, find}
use Rattle.cts_def.specs.Beginnings.{begins_with, start_of}
use Rattle.cts_def.specs.Packets.{DefinitionsData, PacketData, is_named, is_of}
use Rattle.cts_def.specs.Sites.{RouterData, SiteData, routed_targets, targets_at}
use Rattle.cts_def.specs.declared.ident.Ident.{Ident}
use Rattle.cts_def.specs.Makers.{first_slot, router_of}
use Rattle.cts_def.specs.declared.ident.Ident.TheVariants.{Known, Unknown}

-- ---- candidates

-- packets with their numbers, of which the first is n
abbrev pub numbered : ℕ → List PacketData → List (ℕ × PacketData)
numbered n [] = []
numbered n (p ∷ ps) = (n, p) ∷ numbered (n + 1) ps

-- those of these packets that the targets send or take, in order, with their numbers among all
abbrev pub candidates : List (List ℕ) → List PacketData → List (ℕ × PacketData)
candidates targets packets = filter (λ (c : ℕ × PacketData). is_of targets c.1) (numbered 0 packets)

abbrev pub number_of : Option (ℕ × PacketData) → Ident
number_of None = Unknown
number_of (Some c) = Known c.0

-- the first candidate that passes the test
abbrev pub first_of : List (List ℕ) → List PacketData → (PacketData → Bool) → Ident
first_of targets packets test = number_of (find (λ (c : ℕ × PacketData). test c.1) (candidates targets packets))

-- ---- tests

-- all id fields of the packet lie within the bytes and have their values there
abbrev pub fits : List ℕ → PacketData → Bool
fits bytes p = begins_with (start_of p) bytes

-- ---- connections

-- the numbers of the interfaces that the router of this number routes, and none where there is none
abbrev pub routes_at : List RouterData → ℕ → List ℕ
routes_at routers n = slice_index_or (map (λ (r : RouterData). r.routes) routers) n []

-- the targets of the interfaces that the router routes
abbrev pub router_targets : SiteData → ℕ → List (List ℕ)
router_targets s router = routed_targets s.interfaces (routes_at s.routers router)

-- the telemetry packet of an interface's targets that these bytes are
abbrev pub identified : SiteData → ℕ → List ℕ → Ident
identified s interface bytes = first_of (targets_at s.interfaces interface) s.definitions.telemetry (fits bytes)

-- the command of a router's targets that these bytes are
abbrev pub identified_command : SiteData → ℕ → List ℕ → Ident
identified_command s router bytes = first_of (router_targets s router) s.definitions.commands (fits bytes)

-- a worker below the first slot is the interface of this number, and each router has two slots
abbrev pub is_interface : ℕ → Bool
is_interface worker = nat_lt worker first_slot

abbrev pub is_worker : SiteData → ℕ → Bool
is_worker s worker =
    if is_interface worker then nat_lt worker (length s.interfaces) else nat_lt (router_of worker) (length s.routers)

-- the targets that a worker reaches, and the packets that it is sent: telemetry by an interface, commands by a slot
abbrev pub worker_targets : SiteData → ℕ → List (List ℕ)
worker_targets s worker =
    if is_interface worker then targets_at s.interfaces worker else router_targets s (router_of worker)

abbrev pub worker_packets : DefinitionsData → ℕ → List PacketData
worker_packets d worker = if is_interface worker then d.telemetry else d.commands

-- the packet of a worker's targets that has these names
abbrev pub named : SiteData → ℕ → List ℕ → List ℕ → Ident
named s worker target name =
    first_of (worker_targets s worker) (worker_packets s.definitions worker) (is_named target name)

-- ---- laws

-- the packet of this number is of the targets and passes the test
pub record IsMatch (targets : List (List ℕ)) (packets : List PacketData) (test : PacketData → Bool) (n : ℕ) : Type 0 where
  pub packet : PacketData
  pub at : slice_get packets n ≡ Some packet
  pub target : IsTrue (is_of targets packet)
  pub passes : IsTrue (test packet)

-- and no packet before it does
pub record IsFirstMatch (targets : List (List ℕ)) (packets : List PacketData) (test : PacketData → Bool) (n : ℕ) : Type 0 where
  pub match : IsMatch targets packets test n
  pub first : (k : ℕ) → k < n → IsMatch targets packets test k → ⊥
