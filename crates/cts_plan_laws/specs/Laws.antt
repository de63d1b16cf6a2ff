-- What statements say, said of all of them.
use Rattle.std.specs.Prelude.{◌≡◌, ◌↔◌, ℕ, Bool, true, false, not, List, [], ◌∷◌, ◌++◌, map, Some, None, Ok, Err}
use Rattle.std.specs.List.{filter, filter_map, list_any, AllByRecursion}
use Rattle.cts_def.specs.Packets.{DefinitionsData}
use Rattle.cts_def.specs.Sites.{InterfaceData, RouterData, SiteData}
use Rattle.cts_words.specs.declared.statement.Statement.{Statement}
use Rattle.cts_words.specs.Refusals.{NoneRefused, IsFirstRefusal}
use Rattle.cts_plan.specs.declared.line.Line.{Line}
use Rattle.cts_plan.specs.declared.opened.Current.{Current}
use Rattle.cts_plan.specs.declared.opened.Current.TheVariants as current
use Rattle.cts_plan.specs.Words.{word}
use Rattle.cts_plan.specs.Forms.{role_of}
use Rattle.cts_plan.specs.Drafts.{InterfaceDraftData, RouterDraftData}
use Rattle.cts_plan.specs.Lines.{is_server, host_of, port_at, port_or_one}
use Rattle.cts_plan.specs.Standing.{number_of}
use Rattle.cts_plan.specs.Completing.{Refused}
use Rattle.cts_plan.specs.SiteFiles.{parts, opens, line_of_statement, after, refusal, at_end, site_in, site_of}
use Rattle.cts_plan_laws.specs.SiteLaws.{target, route, logging, waiting, is_dont_reconnect, all_said, last_said, five_seconds, Opener, opener}
use Rattle.cts_plan_laws.specs.SiteLaws.{opens_router, protocols}

-- ---- the first refusal

-- Statements are refused exactly where one of them is refused after those before it, and by the first such one, or where
-- none of them is and their end is.
abbrev pub RefusesTheFirst : Type 0
RefusesTheFirst = (d : DefinitionsData) (all : List Statement) (r : Refused) → (site_of d all ≡ Err r) ↔ IsFirstRefusal (refusal d) (at_end d) all (Some r)

-- Where none is refused, they say the site of all that stands.
abbrev pub TakesTheOthers : Type 0
TakesTheOthers = (d : DefinitionsData) (all : List Statement) → NoneRefused (refusal d) all → at_end d all ≡ None → site_of d all ≡ Ok (site_in (after d all))

-- A statement that is not refused says a line.
abbrev pub StatementsSayLines : Type 0
StatementsSayLines = (d : DefinitionsData) (before : List Statement) (s : Statement) → refusal d before s ≡ None → (l : Line) × (line_of_statement s ≡ Some l)

-- ---- interfaces and routers by their statements

-- An interface that is read has what its own statement and those after it say.
pub record IsInterfaceDraft (g : Opener × List Statement) (i : InterfaceDraftData) : Type 0 where
  pub line : i.line ≡ g.0.line
  pub name : i.name ≡ g.0.name
  pub serves : i.serves ≡ is_server (role_of g.0.keyword g.0.words)
  pub to_host : i.host ≡ host_of (role_of g.0.keyword g.0.words) g.0.words
  pub port : i.port ≡ port_or_one (word g.0.words (port_at (role_of g.0.keyword g.0.words)))
  pub chain : i.chain ≡ protocols g
  pub targets : i.targets ≡ all_said target g.1
  pub delay : i.delay ≡ last_said waiting five_seconds g.1
  pub reconnect : i.reconnect ≡ not (list_any is_dont_reconnect g.1)
  pub logged : i.logged ≡ last_said logging true g.1

-- A router that is read over the interfaces has what its own statement and those after it say.
pub record IsRouterDraft (interfaces : List InterfaceData) (g : Opener × List Statement) (r : RouterDraftData) : Type 0 where
  pub line : r.line ≡ g.0.line
  pub name : r.name ≡ g.0.name
  pub port : r.port ≡ port_or_one (word g.0.words (port_at (role_of g.0.keyword g.0.words)))
  pub chain : r.chain ≡ protocols g
  pub routes : r.routes ≡ map (number_of interfaces) (all_said route g.1)

abbrev pub IsOpened : List InterfaceData → Opener × List Statement → Current → Type 0
IsOpened interfaces g current.Nothing = ⊥
IsOpened interfaces g (current.Interface i) = (opens_router g.0.keyword ≡ false) × IsInterfaceDraft g i
IsOpened interfaces g (current.Router r) = (opens_router g.0.keyword ≡ true) × IsRouterDraft interfaces g r

-- no INTERFACE and no ROUTER statement
abbrev pub OpenNothing : List Statement → Type 0
OpenNothing statements = AllByRecursion (λ (s : Statement). opens (parts s.words) ≡ false) statements

-- Statements after one that opens an interface or router belong to it, up to the next that opens one. All others are
-- complete, and stand as they did before it.
pub record IsLast (d : DefinitionsData) (before : List Statement) (s : Statement) (o : Opener) (body : List Statement) : Type 0 where
  pub current : IsOpened (after d (before ++ s ∷ body)).site.interfaces (o, body) (after d (before ++ s ∷ body)).current
  pub interfaces : (after d (before ++ s ∷ body)).site.interfaces ≡ (site_in (after d before)).interfaces
  pub routers : (after d (before ++ s ∷ body)).site.routers ≡ (site_in (after d before)).routers

abbrev pub ConnectionsHaveTheirStatements : Type 0
ConnectionsHaveTheirStatements = (d : DefinitionsData) (before : List Statement) (s : Statement) (o : Opener) (body : List Statement)
    → opener s ≡ Some o → OpenNothing body → IsLast d before s o body

-- No interface or router has the statements before the first one.
pub record IsNone (d : DefinitionsData) (statements : List Statement) : Type 0 where
  pub current : (after d statements).current ≡ current.Nothing
  pub interfaces : (after d statements).site.interfaces ≡ []
  pub routers : (after d statements).site.routers ≡ []

abbrev pub NoneStandsBefore : Type 0
NoneStandsBefore = (d : DefinitionsData) (statements : List Statement) → OpenNothing statements → IsNone d statements

-- what an interface has of its own statement alone: its name and host, whether it serves, and its port
abbrev pub interface_head : InterfaceData → List ℕ × List ℕ × Bool × ℕ
interface_head i = (i.name, i.aim_host, i.serves, i.port)

abbrev pub interface_head_by : Opener → List ℕ × List ℕ × Bool × ℕ
interface_head_by o =
    let role = role_of o.keyword o.words in
    (o.name, host_of role o.words, is_server role, port_or_one (word o.words (port_at role)))

-- what a router has of it: its name and its port
abbrev pub router_head : RouterData → List ℕ × ℕ
router_head r = (r.name, r.port)

abbrev pub router_head_by : Opener → List ℕ × ℕ
router_head_by o = (o.name, port_or_one (word o.words (port_at (role_of o.keyword o.words))))

abbrev pub is_router_opener : Opener → Bool
is_router_opener o = opens_router o.keyword

abbrev pub is_interface_opener : Opener → Bool
is_interface_opener o = not (opens_router o.keyword)

-- There is one interface for each statement that opens one, and one router, in their order.
pub record HasHeads (all : List Statement) (s : SiteData) : Type 0 where
  pub interfaces : map interface_head s.interfaces ≡ map interface_head_by (filter is_interface_opener (filter_map opener all))
  pub routers : map router_head s.routers ≡ map router_head_by (filter is_router_opener (filter_map opener all))

abbrev pub ConnectionsAreOfTheirStatements : Type 0
ConnectionsAreOfTheirStatements = (d : DefinitionsData) (all : List Statement) → HasHeads all (site_in (after d all))
