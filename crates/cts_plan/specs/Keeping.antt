-- What is true of all that stands, and when a line can be placed. Functions of the crate cite this, and the definitions do not.
use Rattle.std.specs.Prelude.{◌≡◌, ℕ, pos, ◌≤◌, true, false, ◌&&◌, nat_le, nat_lt, nat_eq, int_le, List, ◌++◌, length, Some, None, Option, IsTrue}
use Rattle.std.specs.List.{list_any, list_all, IsDistinct}
use Rattle.cts_def.specs.Items.{is_same}
use Rattle.cts_def.specs.Most.{most_desks, most_interfaces, most_protocols, most_routers}
use Rattle.cts_def.specs.Packets.{DefinitionsData}
use Rattle.cts_def.specs.Protocols.{is_layout}
use Rattle.cts_def.specs.Sites.{InterfaceData, RouterData, SiteData, IsSoundSite, is_cycle, is_known_target, targets_of}
use Rattle.cts_plan.specs.declared.draft.Draft.{Draft}
use Rattle.cts_plan.specs.declared.opened.Current.{Current}
use Rattle.cts_plan.specs.declared.opened.Current.TheVariants as current
use Rattle.cts_plan.specs.declared.line.Line.{Line}
use Rattle.cts_plan.specs.declared.line.Line.TheVariants as line
use Rattle.cts_plan.specs.declared.line.Detail.{Detail}
use Rattle.cts_plan.specs.declared.line.Detail.TheVariants as detail
use Rattle.cts_plan.specs.Steps.{StepData, step_reads, step_reads_packets}
use Rattle.cts_plan.specs.Drafts.{InterfaceDraftData, RouterDraftData}
use Rattle.cts_plan.specs.Standing.{has_name, number_of}
use Rattle.cts_plan.specs.Causes.{is_router_named, maps, is_in}

-- ---- what is true of all that stands

-- an interface of the name and the targets: the site has room for it, no other has the name, and each target is known and
-- no other's
pub record IsNewInterface (d : DefinitionsData) (interfaces : List InterfaceData) (own : List ℕ) (its : List (List ℕ)) : Type 0 where
  pub few : nat_le most_interfaces (length interfaces) ≡ false
  pub name : list_any (has_name own) interfaces ≡ false
  pub targets : IsDistinct is_same (targets_of interfaces ++ its)
  pub known : list_all (is_known_target d) its ≡ true

-- a router of the name and the routes: the site has room for it, no other has the name, and each route is an interface
pub record IsNewRouter (interfaces : List InterfaceData) (routers : List RouterData) (own : List ℕ) (its : List ℕ) : Type 0 where
  pub few : nat_le most_routers (length routers) ≡ false
  pub name : list_any (is_router_named own) routers ≡ false
  pub routes : list_all (λ n. nat_lt n (length interfaces)) its ≡ true

abbrev pub IsNew : DefinitionsData → List InterfaceData → List RouterData → Current → Type 0
IsNew d interfaces routers current.Nothing = Unit {0}
IsNew d interfaces routers (current.Interface i) = IsNewInterface d interfaces i.name i.targets
IsNew d interfaces routers (current.Router r) = IsNewRouter interfaces routers r.name r.routes

-- what is complete is a site, and what is read can be part of it
pub record KeepsRules (s : Draft) : Type 0 where
  pub site : IsSoundSite s.site
  pub current : IsNew s.site.definitions s.site.interfaces s.site.routers s.current

-- ---- when a line can be placed

abbrev pub HasRoom : StepData → List StepData → Type 0
HasRoom step chain = (nat_le most_protocols (length chain) ≡ false) × ((step_reads step && list_any step_reads_packets chain) ≡ false)

abbrev pub FitsInterface : SiteData → Detail → InterfaceDraftData → Type 0
FitsInterface site (detail.Target name) i =
    (is_known_target site.definitions name ≡ true) × (list_any (maps name) site.interfaces ≡ false) × (is_in i.targets name ≡ false)
FitsInterface site (detail.Step step) i = HasRoom step i.chain
FitsInterface site (detail.Delay delay) i = IsTrue (int_le (pos 0) delay.parts)
FitsInterface site _ i = Unit {0}

abbrev pub IsNewRoute : List InterfaceData → Option (List ℕ) → List ℕ → Type 0
IsNewRoute interfaces None routes = Unit {0}
IsNewRoute interfaces (Some name) routes =
    (list_any (has_name name) interfaces ≡ true) × (list_any (λ route. nat_eq route (number_of interfaces name)) routes ≡ false)

abbrev pub FitsRouter : SiteData → Detail → RouterDraftData → Type 0
FitsRouter site (detail.Step step) r = HasRoom step r.chain
FitsRouter site (detail.Route name) r = IsNewRoute site.interfaces name r.routes
FitsRouter site _ r = Unit {0}

abbrev pub FitsCurrent : SiteData → Detail → Current → Type 0
FitsCurrent site d current.Nothing = Unit {0}
FitsCurrent site d (current.Interface i) = FitsInterface site d i
FitsCurrent site d (current.Router r) = FitsRouter site d r

-- the line can be placed
abbrev pub Fits : Line → Draft → Type 0
Fits line.Nothing s = Unit {0}
Fits (line.ApiPort port) s = 1 ≤ port
Fits (line.Desks desks) s = (1 ≤ desks) × (desks ≤ most_desks)
Fits (line.LogLayout layout) s = IsTrue (is_layout layout)
Fits (line.LogCycle bytes) s = IsTrue (is_cycle (Some bytes))
Fits (line.Interface i) s = IsNewInterface s.site.definitions s.site.interfaces i.name i.targets
Fits (line.Router r) s = IsNewRouter s.site.interfaces s.site.routers r.name r.routes
Fits (line.Detail d) s = FitsCurrent s.site d s.current
