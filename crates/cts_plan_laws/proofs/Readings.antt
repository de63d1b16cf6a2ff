-- What the line of a statement says, by the statement's keyword.
use Rattle.std.proofs.Common.{◌≡◌, ℕ, Bool, true, false, List, ◌++◌, map, Option, Some, None, refl, ap, ◌∙◌}
use Rattle.std.proofs.Math.Bool.{and-false, and-true}
use Rattle.std.specs.Prelude.{not, ◌&&◌, ◌||◌, is_some, option_map, option_to_list, unwrap_or}
use Rattle.std.specs.Option.{option_or}
use Rattle.std.proofs.lemmas.List.{append-nil}
use Rattle.cts_base.specs.declared.decimal.Decimal.{Decimal}
use Rattle.cts_def.specs.Sites.{InterfaceData, SiteData}
use Rattle.cts_words.specs.declared.statement.Statement.{Statement}
use Rattle.cts_plan.specs.declared.draft.Draft.{Draft}
use Rattle.cts_plan.specs.declared.opened.Current.{Current}
use Rattle.cts_plan.specs.declared.opened.Current.TheVariants as current
use Rattle.cts_plan.specs.declared.keyword.Keyword.{Keyword}
use Rattle.cts_plan.specs.declared.keyword.Keyword.TheVariants as keyword
use Rattle.cts_plan.specs.declared.words.Way.TheVariants.{ReadWrite}
use Rattle.cts_plan.specs.declared.line.Line.{Line}
use Rattle.cts_plan.specs.declared.line.Line.TheVariants as line
use Rattle.cts_plan.specs.declared.line.Detail.{Detail}
use Rattle.cts_plan.specs.declared.line.Detail.TheVariants as detail
use Rattle.cts_plan.specs.Words.{word, way_of, port_of, desks_of, log_layout_of, cycle_of, delay_of}
use Rattle.cts_plan.specs.Steps.{StepData}
use Rattle.cts_plan.specs.Drafts.{InterfaceDraftData, RouterDraftData}
use Rattle.cts_plan.specs.Lines.{name_of, step_at, interface_by, router_by, said_or_nothing, line_of}
use Rattle.cts_plan.specs.Standing.{number_of, change, place}
use Rattle.cts_plan.specs.SiteFiles.{parts, ready, with_line, step}
use Rattle.cts_plan_laws.specs.SiteLaws.{of_parts, target, route, logging, waiting, ends, protocol, api_port, desk_count, log_layout, log_cycle, Opener, opener_with, opener_by}

-- all that a line or a statement says
pub record Says : Type 0 where
  pub target : Option (List ℕ)
  pub step : Option StepData
  pub route : Option (List ℕ)
  pub delay : Option Decimal
  pub ends : Bool
  pub logged : Option Bool
  pub port : Option ℕ
  pub desks : Option ℕ
  pub layout : Option ℕ
  pub cycle : Option ℕ
  pub opened : Option Current

abbrev pub silent : Says
silent = record { target = None; step = None; route = None; delay = None; ends = false; logged = None; port = None; desks = None; layout = None; cycle = None; opened = None }

abbrev pub reads_of : Detail → Says
reads_of (detail.Target name) = record silent { target = Some name }
reads_of (detail.Step step) = record silent { step = Some step }
reads_of (detail.Route name) = record silent { route = name }
reads_of (detail.Delay delay) = record silent { delay = Some delay }
reads_of detail.DontReconnect = record silent { ends = true }
reads_of (detail.Logged logged) = record silent { logged = Some logged }

abbrev pub reads : Line → Says
reads line.Nothing = silent
reads (line.ApiPort port) = record silent { port = Some port }
reads (line.Desks desks) = record silent { desks = Some desks }
reads (line.LogLayout layout) = record silent { layout = Some layout }
reads (line.LogCycle bytes) = record silent { cycle = Some bytes }
reads (line.Interface i) = record silent { opened = Some (current.Interface i) }
reads (line.Router r) = record silent { opened = Some (current.Router r) }
reads (line.Detail d) = reads_of d

-- what an opening statement opens
abbrev pub opened_with : Keyword → ℕ → List (List ℕ) → List ℕ → Current
opened_with keyword.Interface n ws name = current.Interface (interface_by n ws name)
opened_with keyword.Router n ws name = current.Router (router_by n ws name)
opened_with _ n ws name = current.Nothing

abbrev pub opened_by : Opener → Current
opened_by o = opened_with o.keyword o.line o.words o.name

abbrev pub says_at : ℕ → Option (Keyword × List (List ℕ)) → Says
says_at n p = record {
  target = of_parts target p;
  step = of_parts (protocol n) p;
  route = of_parts route p;
  delay = of_parts waiting p;
  ends = ends p;
  logged = of_parts logging p;
  port = of_parts api_port p;
  desks = of_parts desk_count p;
  layout = of_parts log_layout p;
  cycle = of_parts log_cycle p;
  opened = option_map opened_by (of_parts (opener_by n) p);
}

abbrev pub says_of : Statement → Says
says_of s = says_at s.line (parts s.words)

found : {X : Type 0} (f : X → Line) (g : Option X → Says) (o : Option X) → ((x : X) → reads (f x) ≡ g (Some x)) → silent ≡ g None → reads (said_or_nothing f o) ≡ g o
found f g None some none = none
found f g (Some x) some none = some x

-- A line says what the keyword of its statement says.
pub reads_as : (n : ℕ) (k : Keyword) (ws : List (List ℕ)) → reads (line_of n k ws) ≡ says_at n (Some (k, ws))
reads_as n keyword.Title ws = refl
reads_as n keyword.Port ws = found (λ port. line.ApiPort port) (λ o. record silent { port = o }) (port_of (word ws 1)) (λ x. refl) refl
reads_as n keyword.Desks ws = found (λ desks. line.Desks desks) (λ o. record silent { desks = o }) (desks_of (word ws 0)) (λ x. refl) refl
reads_as n keyword.LogLayout ws = found (λ layout. line.LogLayout layout) (λ o. record silent { layout = o }) (log_layout_of (word ws 0)) (λ x. refl) refl
reads_as n keyword.LogCycle ws = found (λ bytes. line.LogCycle bytes) (λ o. record silent { cycle = o }) (cycle_of (word ws 0)) (λ x. refl) refl
reads_as n keyword.Interface ws =
    found (λ name. line.Interface (interface_by n ws name)) (λ o. record silent { opened = option_map opened_by (option_map (opener_with n keyword.Interface ws) o) }) (name_of (word ws 0)) (λ x. refl) refl
reads_as n keyword.Router ws =
    found (λ name. line.Router (router_by n ws name)) (λ o. record silent { opened = option_map opened_by (option_map (opener_with n keyword.Router ws) o) }) (name_of (word ws 0)) (λ x. refl) refl
reads_as n keyword.Target ws = found (λ name. line.Detail (detail.Target name)) (λ o. record silent { target = o }) (name_of (word ws 0)) (λ x. refl) refl
reads_as n keyword.Protocol ws =
    found (λ step. line.Detail (detail.Step step)) (λ o. record silent { step = o }) (step_at n (unwrap_or (way_of (word ws 0)) ReadWrite) keyword.Protocol ws) (λ x. refl) refl
reads_as n keyword.ReconnectDelay ws = found (λ delay. line.Detail (detail.Delay delay)) (λ o. record silent { delay = o }) (delay_of (word ws 0)) (λ x. refl) refl
reads_as n keyword.DontReconnect ws = refl
reads_as n keyword.Log ws = refl
reads_as n keyword.DontLog ws = refl
reads_as n keyword.Route ws = refl

-- ---- what stands, by what a statement says

abbrev pub interface_with : Says → InterfaceDraftData → InterfaceDraftData
interface_with r i = record {
  line = i.line;
  name = i.name;
  host = i.host;
  serves = i.serves;
  port = i.port;
  chain = i.chain ++ option_to_list r.step;
  targets = i.targets ++ option_to_list r.target;
  delay = unwrap_or r.delay i.delay;
  reconnect = i.reconnect && not r.ends;
  logged = unwrap_or r.logged i.logged;
}

abbrev pub router_with : List InterfaceData → Says → RouterDraftData → RouterDraftData
router_with is r q = record {
  line = q.line;
  name = q.name;
  port = q.port;
  chain = q.chain ++ option_to_list r.step;
  routes = q.routes ++ map (number_of is) (option_to_list r.route);
}

abbrev pub change_by : List InterfaceData → Says → Current → Current
change_by is r current.Nothing = current.Nothing
change_by is r (current.Interface i) = current.Interface (interface_with r i)
change_by is r (current.Router q) = current.Router (router_with is r q)

-- the site with its settings
abbrev pub site_with : Says → SiteData → SiteData
site_with r site = record site {
  api_port = unwrap_or r.port site.api_port;
  desks = unwrap_or r.desks site.desks;
  log_layout = unwrap_or r.layout site.log_layout;
  log_cycle = option_or r.cycle site.log_cycle;
}

abbrev pub placed_by : Says → Draft → Draft
placed_by r s = record {
  site = site_with r s.site;
  current = unwrap_or r.opened (change_by s.site.interfaces r s.current);
  layout_said = is_some r.layout || s.layout_said;
}

same_current : (is : List InterfaceData) (c : Current) → c ≡ change_by is silent c
same_current is current.Nothing = refl
same_current is (current.Interface i) = rw (append-nil i.chain, append-nil i.targets, and-true i.reconnect) refl
same_current is (current.Router r) = rw (append-nil r.chain, append-nil r.routes) refl

changed_by : (is : List InterfaceData) (d : Detail) (c : Current) → change is d c ≡ change_by is (reads_of d) c
changed_by is d current.Nothing = refl
changed_by is (detail.Target name) (current.Interface i) = rw (append-nil i.chain, and-true i.reconnect) refl
changed_by is (detail.Step step) (current.Interface i) = rw (append-nil i.targets, and-true i.reconnect) refl
changed_by is (detail.Route name) (current.Interface i) = rw (append-nil i.chain, append-nil i.targets, and-true i.reconnect) refl
changed_by is (detail.Delay delay) (current.Interface i) = rw (append-nil i.chain, append-nil i.targets, and-true i.reconnect) refl
changed_by is detail.DontReconnect (current.Interface i) = rw (append-nil i.chain, append-nil i.targets, and-false i.reconnect) refl
changed_by is (detail.Logged logged) (current.Interface i) = rw (append-nil i.chain, append-nil i.targets, and-true i.reconnect) refl
changed_by is (detail.Target name) (current.Router r) = rw (append-nil r.chain, append-nil r.routes) refl
changed_by is (detail.Step step) (current.Router r) = rw (append-nil r.routes) refl
changed_by is (detail.Route None) (current.Router r) = rw (append-nil r.chain, append-nil r.routes) refl
changed_by is (detail.Route (Some name)) (current.Router r) = rw (append-nil r.chain) refl
changed_by is (detail.Delay delay) (current.Router r) = rw (append-nil r.chain, append-nil r.routes) refl
changed_by is detail.DontReconnect (current.Router r) = rw (append-nil r.chain, append-nil r.routes) refl
changed_by is (detail.Logged logged) (current.Router r) = rw (append-nil r.chain, append-nil r.routes) refl

abbrev draft_with : SiteData → Bool → Current → Draft
draft_with site given c = record { site = site; current = c; layout_said = given }

-- a detail says nothing of the whole server, and opens nothing
detail_by : (d : Detail) (s : Draft) → draft_with s.site s.layout_said (change_by s.site.interfaces (reads_of d) s.current) ≡ placed_by (reads_of d) s
detail_by (detail.Target name) s = refl
detail_by (detail.Step step) s = refl
detail_by (detail.Route name) s = refl
detail_by (detail.Delay delay) s = refl
detail_by detail.DontReconnect s = refl
detail_by (detail.Logged logged) s = refl

place_by : (l : Line) (s : Draft) → place l s ≡ placed_by (reads l) s
place_by line.Nothing s = ap (draft_with s.site s.layout_said) (same_current s.site.interfaces s.current)
place_by (line.ApiPort port) s = ap (draft_with (record s.site { api_port = port }) s.layout_said) (same_current s.site.interfaces s.current)
place_by (line.Desks desks) s = ap (draft_with (record s.site { desks = desks }) s.layout_said) (same_current s.site.interfaces s.current)
place_by (line.LogLayout layout) s = ap (draft_with (record s.site { log_layout = layout }) true) (same_current s.site.interfaces s.current)
place_by (line.LogCycle bytes) s = ap (draft_with (record s.site { log_cycle = Some bytes }) s.layout_said) (same_current s.site.interfaces s.current)
place_by (line.Interface i) s = refl
place_by (line.Router r) s = refl
place_by (line.Detail d) s = ap (draft_with s.site s.layout_said) (changed_by s.site.interfaces d s.current) ∙ detail_by d s

line_by : (n : ℕ) (p : Option (Keyword × List (List ℕ))) (s : Draft) → with_line n p s ≡ placed_by (says_at n p) (ready p s)
line_by n None s = ap (draft_with s.site s.layout_said) (same_current s.site.interfaces s.current)
line_by n (Some p) s = place_by (line_of n p.0 p.1) (ready (Some p) s) ∙ ap (λ r. placed_by r (ready (Some p) s)) (reads_as n p.0 p.1)

-- What stands after one more statement, by what it says.
pub step_by : (s : Draft) (t : Statement) → step s t ≡ placed_by (says_of t) (ready (parts t.words) s)
step_by s t = line_by t.line (parts t.words) s
