-- What a site has of the statements of its file.
use Rattle.std.specs.Prelude.{◌≡◌, ◌≤◌, ℕ, pos, Bool, true, false, not, List, [], ◌∷◌, ◌++◌, map, length, option_to_list, option_map, Option, Some}
use Rattle.std.specs.Prelude.{None, Ok, unwrap_or, if◌then◌else◌}
use Rattle.std.specs.List.{filter, filter_map, list_any}
use Rattle.cts_base.specs.declared.decimal.Decimal.{Decimal}
use Rattle.cts_def.specs.Packets.{DefinitionsData}
use Rattle.cts_def.specs.Sites.{InterfaceData, RouterData, SiteData, IsSoundSite, routed_targets}
use Rattle.cts_words.specs.declared.statement.Statement.{Statement}
use Rattle.cts_words.specs.Blocks.{blocks, last_of}
use Rattle.cts_plan.specs.declared.keyword.Keyword.{Keyword}
use Rattle.cts_plan.specs.declared.keyword.Keyword.TheVariants as keyword
use Rattle.cts_plan.specs.declared.words.Way.TheVariants.{ReadWrite}
use Rattle.cts_plan.specs.Steps.{StepData}
use Rattle.cts_plan.specs.Words.{word, way_of, port_of, desks_of, log_layout_of, cycle_of, delay_of}
use Rattle.cts_def.specs.declared.proto_spec.Kind.{Kind}
use Rattle.cts_plan.specs.Forms.{role_of, protocol_of, parameters}
use Rattle.cts_plan_laws.specs.Parameters.{Fit}
use Rattle.cts_plan.specs.Lines.{name_of, step_at, is_server, host_of, port_at, port_or_one}
use Rattle.cts_plan.specs.Standing.{chain_of, number_of}
use Rattle.cts_plan.specs.SiteFiles.{parts, opening, site_of}

-- ---- what statements say, by their keywords

abbrev pub of_parts : {X : Type 0} → (Keyword → List (List ℕ) → Option X) → Option (Keyword × List (List ℕ)) → Option X
of_parts says None = None
of_parts says (Some p) = says p.0 p.1

-- what a statement says of something, by its keyword and the words after it
abbrev pub said : {X : Type 0} → (Keyword → List (List ℕ) → Option X) → Statement → Option X
said says s = of_parts says (parts s.words)

-- all that statements say of something, in their order
abbrev pub all_said : {X : Type 0} → (Keyword → List (List ℕ) → Option X) → List Statement → List X
all_said says statements = filter_map (said says) statements

-- what they say of it last, and the default where none does
abbrev pub last_said : {X : Type 0} → (Keyword → List (List ℕ) → Option X) → X → List Statement → X
last_said says default statements = unwrap_or (last_of (all_said says statements)) default

-- TARGET: the name
abbrev pub target : Keyword → List (List ℕ) → Option (List ℕ)
target keyword.Target ws = name_of (word ws 0)
target _ ws = None

-- ROUTE: the interface's name
abbrev pub route : Keyword → List (List ℕ) → Option (List ℕ)
route keyword.Route ws = name_of (word ws 0)
route _ ws = None

-- LOG and DONT_LOG: whether it is logged
abbrev pub logging : Keyword → List (List ℕ) → Option Bool
logging keyword.Log ws = Some true
logging keyword.DontLog ws = Some false
logging _ ws = None

-- RECONNECT_DELAY: the seconds
abbrev pub waiting : Keyword → List (List ℕ) → Option Decimal
waiting keyword.ReconnectDelay ws = delay_of (word ws 0)
waiting _ ws = None

-- DONT_RECONNECT
abbrev pub ending : Keyword → Bool
ending keyword.DontReconnect = true
ending _ = false

abbrev pub ends : Option (Keyword × List (List ℕ)) → Bool
ends None = false
ends (Some p) = ending p.0

abbrev pub is_dont_reconnect : Statement → Bool
is_dont_reconnect s = ends (parts s.words)

-- PROTOCOL: the protocol of a statement of this number
abbrev pub protocol : ℕ → Keyword → List (List ℕ) → Option StepData
protocol n keyword.Protocol ws = step_at n (unwrap_or (way_of (word ws 0)) ReadWrite) keyword.Protocol ws
protocol n _ ws = None

abbrev pub protocol_said : Statement → Option StepData
protocol_said s = said (protocol s.line) s

-- PORT: the port of the desks
abbrev pub api_port : Keyword → List (List ℕ) → Option ℕ
api_port keyword.Port ws = port_of (word ws 1)
api_port _ ws = None

-- DESKS: how many there are
abbrev pub desk_count : Keyword → List (List ℕ) → Option ℕ
desk_count keyword.Desks ws = desks_of (word ws 0)
desk_count _ ws = None

-- LOG_LAYOUT: the layout in which logs are written
abbrev pub log_layout : Keyword → List (List ℕ) → Option ℕ
log_layout keyword.LogLayout ws = log_layout_of (word ws 0)
log_layout _ ws = None

-- LOG_CYCLE: the greatest size of a part of a log
abbrev pub log_cycle : Keyword → List (List ℕ) → Option ℕ
log_cycle keyword.LogCycle ws = cycle_of (word ws 0)
log_cycle _ ws = None

-- ---- interfaces and routers with their statements

-- An INTERFACE or ROUTER statement: its number, its keyword, the name that it gives, and the words after the keyword.
pub record Opener : Type 0 where
  pub line : ℕ
  pub keyword : Keyword
  pub name : List ℕ
  pub words : List (List ℕ)

abbrev pub opener_with : ℕ → Keyword → List (List ℕ) → List ℕ → Opener
opener_with n k ws name = record { line = n; keyword = k; name = name; words = ws }

abbrev pub opener_by : ℕ → Keyword → List (List ℕ) → Option Opener
opener_by n k ws = if opening k then option_map (opener_with n k ws) (name_of (word ws 0)) else None

abbrev pub opener : Statement → Option Opener
opener s = said (opener_by s.line) s

-- each interface and router: the statement that opens it, and those after that up to the next that opens one
abbrev pub groups : List Statement → List (Opener × List Statement)
groups statements = blocks opener statements

abbrev pub opens_router : Keyword → Bool
opens_router keyword.Router = true
opens_router _ = false

abbrev pub is_router_group : Opener × List Statement → Bool
is_router_group g = opens_router g.0.keyword

abbrev pub is_interface_group : Opener × List Statement → Bool
is_interface_group g = not (is_router_group g)

abbrev pub interface_groups : List Statement → List (Opener × List Statement)
interface_groups statements = filter is_interface_group (groups statements)

abbrev pub router_groups : List Statement → List (Opener × List Statement)
router_groups statements = filter is_router_group (groups statements)

-- the protocol on the opening line comes first, and is used both ways; then those of the PROTOCOL lines
abbrev pub protocols : Opener × List Statement → List StepData
protocols g = option_to_list (step_at g.0.line ReadWrite g.0.keyword g.0.words) ++ filter_map protocol_said g.1

-- the delay where no line says one: 5.0
abbrev pub five_seconds : Decimal
five_seconds = record { parts = pos 5000000000000 }

-- An interface has what its own statements say.
pub record IsInterface (d : DefinitionsData) (g : Opener × List Statement) (i : InterfaceData) : Type 0 where
  pub name : i.name ≡ g.0.name
  pub serves : i.serves ≡ is_server (role_of g.0.keyword g.0.words)
  pub to_host : i.aim_host ≡ host_of (role_of g.0.keyword g.0.words) g.0.words
  pub port : i.port ≡ port_or_one (word g.0.words (port_at (role_of g.0.keyword g.0.words)))
  pub targets : i.targets ≡ all_said target g.1
  pub chain : i.chain ≡ chain_of d (all_said target g.1) (protocols g)
  pub reconnect : i.reconnect ≡ not (list_any is_dont_reconnect g.1)
  pub delay : i.delay ≡ last_said waiting five_seconds g.1
  pub logged : i.logged ≡ last_said logging true g.1

-- A router over the interfaces has what its own statements say.
pub record IsRouter (d : DefinitionsData) (interfaces : List InterfaceData) (g : Opener × List Statement) (r : RouterData) : Type 0 where
  pub name : r.name ≡ g.0.name
  pub port : r.port ≡ port_or_one (word g.0.words (port_at (role_of g.0.keyword g.0.words)))
  pub routes : r.routes ≡ map (number_of interfaces) (all_said route g.1)
  pub chain : r.chain ≡ chain_of d (routed_targets interfaces r.routes) (protocols g)

-- there is one y for each x, in their order, and it is so to it
abbrev pub Each : {X Y : Type 0} → (X → Y → Type 0) → List X → List Y → Type 0
Each R [] [] = Unit {0}
Each R [] (y ∷ ys) = ⊥
Each R (x ∷ xs) [] = ⊥
Each R (x ∷ xs) (y ∷ ys) = R x y × Each R xs ys

-- A site has an interface for each INTERFACE statement and a router for each ROUTER statement, in their order. Of the port and the number of
-- desks the last statement counts; the layout and the cycle of logs are said once at most.
pub record IsSite (d : DefinitionsData) (all : List Statement) (s : SiteData) : Type 0 where
  pub definitions : s.definitions ≡ d
  pub interfaces : Each (IsInterface d) (interface_groups all) s.interfaces
  pub routers : Each (IsRouter d s.interfaces) (router_groups all) s.routers
  pub port : s.api_port ≡ last_said api_port 7777 all
  pub desks : s.desks ≡ last_said desk_count 4 all
  pub layout : s.log_layout ≡ last_said log_layout 2 all
  pub cycle : s.log_cycle ≡ last_of (all_said log_cycle all)
  pub one_layout : length (all_said log_layout all) ≤ 1
  pub one_cycle : length (all_said log_cycle all) ≤ 1

-- The site of statements has what they say.
abbrev pub SitesAreOfTheirStatements : Type 0
SitesAreOfTheirStatements = (d : DefinitionsData) (all : List Statement) (s : SiteData) → site_of d all ≡ Ok s → IsSite d all s

-- A site of statements keeps the rules of sites.
abbrev pub SitesAreSound : Type 0
SitesAreSound = (d : DefinitionsData) (all : List Statement) (s : SiteData) → site_of d all ≡ Ok s → IsSoundSite s

-- An INTERFACE or ROUTER statement gives a name and a port, and the words after a protocol fit its parameters.
pub record Fits (k : Keyword) (ws : List (List ℕ)) : Type 0 where
  pub named : opening k ≡ true → (name : List ℕ) × (name_of (word ws 0) ≡ Some name)
  pub ported : opening k ≡ true → (port : ℕ) × (port_of (word ws (port_at (role_of k ws))) ≡ Some port)
  pub fit : (kind : Kind) → protocol_of k ws ≡ Some kind → Fit kind (parameters k ws)

-- Each statement of a site has fitting words.
abbrev pub StatementsFit : Type 0
StatementsFit = (d : DefinitionsData) (front : List Statement) (t : Statement) (rest : List Statement) (s : SiteData) → site_of d (front ++ t ∷ rest) ≡ Ok s
    → (k : Keyword) (ws : List (List ℕ)) → parts t.words ≡ Some (k, ws) → Fits k ws
