-- What stands after some statements: a site of the interfaces and routers that are complete, and the one that is read.
use Rattle.std.specs.Prelude.{ℕ, zero, suc, true, false, Bool, List, [], ◌∷◌, ◌++◌, map, Option, Some, None, if◌then◌else◌}
use Rattle.cts_def.specs.Beginnings.{start_of}
use Rattle.cts_def.specs.Items.{is_same}
use Rattle.cts_def.specs.Packets.{PacketData, DefinitionsData, of_targets}
use Rattle.cts_def.specs.Protocols as spec
use Rattle.cts_def.specs.Protocols.{SpecData, UseData}
use Rattle.cts_def.specs.Sites.{InterfaceData, RouterData, SiteData, packets_of, routed_targets}
use Rattle.cts_def.specs.Starts.{StartData}
use Rattle.cts_plan.specs.declared.draft.Draft.{Draft}
use Rattle.cts_plan.specs.declared.opened.Current.{Current}
use Rattle.cts_plan.specs.declared.opened.Current.TheVariants as current
use Rattle.cts_plan.specs.declared.line.Line.{Line}
use Rattle.cts_plan.specs.declared.line.Line.TheVariants as line
use Rattle.cts_plan.specs.declared.line.Detail.{Detail}
use Rattle.cts_plan.specs.declared.line.Detail.TheVariants as detail
use Rattle.cts_plan.specs.Steps.{StepData, whole_chain}
use Rattle.cts_plan.specs.Drafts.{InterfaceDraftData, RouterDraftData}

-- nothing, the desks at port 7777, four of them, and logs of layout 2, each in one part
abbrev pub first_site : DefinitionsData → SiteData
first_site d = record { definitions = d; interfaces = []; routers = []; api_port = 7777; desks = 4; log_layout = 2; log_cycle = None }

abbrev pub start : DefinitionsData → Draft
start d = record { site = first_site d; current = current.Nothing; layout_said = false }

-- ---- a chain

-- how the packets of the targets begin
abbrev pub starts_of : List (List ℕ) → List PacketData → List StartData
starts_of targets packets = map start_of (of_targets targets packets)

-- FIXED looks among the packets of the targets
abbrev pub spec_with : DefinitionsData → List (List ℕ) → SpecData → SpecData
spec_with d targets (spec.Fixed f) = spec.Fixed (record f { starts = starts_of targets (packets_of d f.telemetry) })
spec_with d targets s = s

abbrev pub use_of : DefinitionsData → List (List ℕ) → StepData → UseData
use_of d targets s = record { spec = spec_with d targets s.used.spec; reads = s.used.reads; writes = s.used.writes }

-- the protocols of an interface or router with the targets
abbrev pub chain_of : DefinitionsData → List (List ℕ) → List StepData → List UseData
chain_of d targets steps = map (use_of d targets) (whole_chain steps)

-- ---- complete interfaces and routers

abbrev pub interface_of : DefinitionsData → InterfaceDraftData → InterfaceData
interface_of d i = record {
  name = i.name;
  aim_host = i.host;
  port = i.port;
  serves = i.serves;
  targets = i.targets;
  chain = chain_of d i.targets i.chain;
  reconnect = i.reconnect;
  delay = i.delay;
  logged = i.logged;
}

-- a router over the interfaces of this site
abbrev pub router_of : SiteData → RouterDraftData → RouterData
router_of site r = record {
  name = r.name;
  port = r.port;
  routes = r.routes;
  chain = chain_of site.definitions (routed_targets site.interfaces r.routes) r.chain;
}

-- the site with what is complete now
abbrev pub completed : SiteData → Current → SiteData
completed site current.Nothing = site
completed site (current.Interface i) = record site { interfaces = site.interfaces ++ interface_of site.definitions i ∷ [] }
completed site (current.Router r) = record site { routers = site.routers ++ router_of site r ∷ [] }

-- an INTERFACE or ROUTER statement completes what is read
abbrev pub closed : Draft → Draft
closed s = record s { site = completed s.site s.current; current = current.Nothing }

-- ---- a line more

abbrev pub has_name : List ℕ → InterfaceData → Bool
has_name name i = is_same i.name name

-- the number of the interface of this name, counted from 0
abbrev pub number_of : List InterfaceData → List ℕ → ℕ
number_of [] name = zero
number_of (i ∷ interfaces) name = if has_name name i then zero else suc (number_of interfaces name)

abbrev pub change_interface : Detail → InterfaceDraftData → InterfaceDraftData
change_interface (detail.Target name) i = record i { targets = i.targets ++ name ∷ [] }
change_interface (detail.Step step) i = record i { chain = i.chain ++ step ∷ [] }
change_interface (detail.Route name) i = i
change_interface (detail.Delay delay) i = record i { delay = delay }
change_interface detail.DontReconnect i = record i { reconnect = false }
change_interface (detail.Logged logged) i = record i { logged = logged }

-- the routes with that to the interface of this name
abbrev pub routes_with : List InterfaceData → Option (List ℕ) → List ℕ → List ℕ
routes_with interfaces None routes = routes
routes_with interfaces (Some name) routes = routes ++ number_of interfaces name ∷ []

abbrev pub change_router : List InterfaceData → Detail → RouterDraftData → RouterDraftData
change_router interfaces (detail.Step step) r = record r { chain = r.chain ++ step ∷ [] }
change_router interfaces (detail.Route name) r = record r { routes = routes_with interfaces name r.routes }
change_router interfaces (detail.Target name) r = r
change_router interfaces (detail.Delay delay) r = r
change_router interfaces detail.DontReconnect r = r
change_router interfaces (detail.Logged logged) r = r

abbrev pub change : List InterfaceData → Detail → Current → Current
change interfaces t current.Nothing = current.Nothing
change interfaces t (current.Interface i) = current.Interface (change_interface t i)
change interfaces t (current.Router r) = current.Router (change_router interfaces t r)

abbrev pub with_port : ℕ → SiteData → SiteData
with_port port site = record site { api_port = port }

abbrev pub with_desks : ℕ → SiteData → SiteData
with_desks desks site = record site { desks = desks }

abbrev pub with_log_layout : ℕ → SiteData → SiteData
with_log_layout layout site = record site { log_layout = layout }

abbrev pub with_log_cycle : ℕ → SiteData → SiteData
with_log_cycle bytes site = record site { log_cycle = Some bytes }

-- Of the ports and numbers of desks, and of the delays of an interface and what is said of its logging, the last one counts.
abbrev pub place : Line → Draft → Draft
place line.Nothing s = s
place (line.ApiPort port) s = record s { site = with_port port s.site }
place (line.Desks desks) s = record s { site = with_desks desks s.site }
place (line.LogLayout layout) s = record s { site = with_log_layout layout s.site; layout_said = true }
place (line.LogCycle bytes) s = record s { site = with_log_cycle bytes s.site }
place (line.Interface i) s = record s { current = current.Interface i }
place (line.Router r) s = record s { current = current.Router r }
place (line.Detail t) s = record s { current = change s.site.interfaces t s.current }
