-- What ties a router of one site to an interface of another.
use Rattle.std.specs.Prelude.{◌≡◌, ℕ, Bool, true, false, ◌&&◌, ◌==◌, List, [], ◌∷◌, map, Option, Some, None, Result, Ok, Err}
use Rattle.std.specs.Prelude.{if◌then◌else◌}
use Rattle.std.specs.List.{filter, list_any}
use Rattle.cts_def.specs.Items.{ItemData, is_same}
use Rattle.cts_def.specs.Protocols.{SpecData, Preidentified, UseData}
use Rattle.cts_hub.specs.declared.hub.HubFault.{HubFault}
use Rattle.cts_hub.specs.declared.hub.HubFault.TheVariants.{Chain, Definitions as Differ, Target, Memory}
use Rattle.cts_def.specs.Sites.{InterfaceData, RouterData, SiteData, routed_targets}

-- whether a protocol is used so: it reads, or it writes
abbrev pub is_used : Bool → UseData → Bool
is_used true u = u.reads
is_used false u = u.writes

-- the protocols that read, or those that write
abbrev pub specs_used : Bool → List UseData → List SpecData
specs_used reading uses = map (λ (u : UseData). u.spec) (filter (is_used reading) uses)

-- the one of a list that has one
abbrev pub alone : List SpecData → Option SpecData
alone [] = None
alone (s ∷ []) = Some s
alone (s ∷ t ∷ specs) = None

abbrev pub same_max : Option ℕ → Option ℕ → Bool
same_max None None = true
same_max None (Some n) = false
same_max (Some m) None = false
same_max (Some m) (Some n) = m == n

-- both are PREIDENTIFIED, with the same parameters
abbrev pub are_same_heads : SpecData → SpecData → Bool
are_same_heads (Preidentified d) (Preidentified e) = is_same d.sync e.sync && (same_max d.max e.max && d.layout == e.layout)
are_same_heads s t = false

abbrev pub are_tied : Option SpecData → Option SpecData → Bool
are_tied (Some s) (Some t) = are_same_heads s t
are_tied s t = false

-- What is written is one PREIDENTIFIED, and what reads is one with the same parameters.
abbrev pub chains_fit : List UseData → List UseData → Bool
chains_fit writing reading = are_tied (alone (specs_used false writing)) (alone (specs_used true reading))

-- the first of these names that is not among the others
abbrev pub first_missing : List (List ℕ) → List (List ℕ) → Option (List ℕ)
first_missing targets [] = None
first_missing targets (name ∷ names) = if list_any (is_same name) targets then first_missing targets names else Some name

-- ---- two items

pub record SameFront (a b : ItemData) : Type 0 where
  pub name : a.name ≡ b.name
  pub kind : a.kind ≡ b.kind

pub record SamePlace (a b : ItemData) : Type 0 where
  pub offset : a.offset ≡ b.offset
  pub size : a.size ≡ b.size

pub record SameRules (a b : ItemData) : Type 0 where
  pub order : a.order ≡ b.order
  pub id : a.id ≡ b.id
  pub range : a.range ≡ b.range
  pub required : a.required ≡ b.required
  pub overflow : a.overflow ≡ b.overflow

pub record SameValues (a b : ItemData) : Type 0 where
  pub preset : a.preset ≡ b.preset
  pub states : a.states ≡ b.states
  pub conversion : a.conversion ≡ b.conversion

pub record SameTexts (a b : ItemData) : Type 0 where
  pub limits : a.limits ≡ b.limits
  pub units : a.units ≡ b.units
  pub format : a.format ≡ b.format

-- ---- ties

-- the first target of the interfaces that the router routes that is none of the interface's
abbrev pub missing_target : SiteData → RouterData → InterfaceData → Option (List ℕ)
missing_target above r i = first_missing i.targets (routed_targets above.interfaces r.routes)

-- What an attempt to tie a router to an interface answers. The cases exclude one another, but for want of memory.
abbrev pub HubIs : SiteData → RouterData → SiteData → InterfaceData → ℕ → Result ℕ HubFault → Type 0
HubIs above r below i number (Ok hub) =
    (hub ≡ number) × (chains_fit r.chain i.chain ≡ true) × (above.definitions ≡ below.definitions) × (missing_target above r i ≡ None)
HubIs above r below i number (Err Chain) = chains_fit r.chain i.chain ≡ false
HubIs above r below i number (Err Differ) = (chains_fit r.chain i.chain ≡ true) × (above.definitions ≡ below.definitions → ⊥)
HubIs above r below i number (Err (Target name)) =
    (chains_fit r.chain i.chain ≡ true) × (above.definitions ≡ below.definitions) × (missing_target above r i ≡ Some name)
HubIs above r below i number (Err Memory) = Unit {0}
