-- What a site has of its statements.
use Rattle.std.proofs.Common.{◌≡◌, ◌≤◌, ℕ, zero, suc, Bool, true, false, List, [], ◌∷◌, ◌++◌, length, map, Option, Some, None, Ok, refl, sym, ◌∙◌, ap, subst, arith}
use Rattle.std.specs.Prelude.{◌&&◌, ◌||◌, not, is_some, option_map, option_to_list, cond}
use Rattle.std.specs.Option.{option_or}
use Rattle.std.specs.List.{filter, list_any, list_all}
use Rattle.std.proofs.lemmas.List.{append-nil}
use Rattle.std.proofs.lemmas.List.Elements.{filter-append}
use Rattle.std.proofs.lemmas.List.Folds.{list_any-append}
use Rattle.cts_def.specs.Packets.{DefinitionsData}
use Rattle.cts_def.specs.Sites.{InterfaceData, RouterData, SiteData, routed_targets, routes_within}
use Rattle.cts_words.specs.declared.statement.Statement.{Statement}
use Rattle.cts_words.specs.Blocks.{last_of, on_last}
use Rattle.cts_words.specs.Refusals.{or_else, first_refusal}
use Rattle.cts_words.proofs.Blocks.{blocks-more, blocks-joined, last_snoc}
use Rattle.cts_plan.specs.declared.draft.Draft.{Draft}
use Rattle.cts_plan.specs.declared.opened.Current.{Current}
use Rattle.cts_plan.specs.declared.opened.Current.TheVariants as current
use Rattle.cts_plan.specs.declared.keyword.Keyword.{Keyword}
use Rattle.cts_plan.specs.declared.line.Line.{Line}
use Rattle.cts_plan.specs.declared.line.Line.TheVariants as line
use Rattle.cts_plan.specs.declared.line.Detail.TheVariants as detail
use Rattle.cts_plan.specs.Words.{word}
use Rattle.cts_plan.specs.Drafts.{InterfaceDraftData, RouterDraftData}
use Rattle.cts_plan.specs.Lines.{name_of, line_of}
use Rattle.cts_plan.specs.Standing.{start, chain_of, interface_of, router_of, completed, closed, has_name, number_of}
use Rattle.cts_plan.specs.Causes.{holds, order, is_file_unknown, is_unrouted, is_double}
use Rattle.cts_reader.specs.Reading.{at_line, unless_refused}
use Rattle.cts_plan.specs.Completing.{Refused, due}
use Rattle.cts_plan.specs.SiteFiles.{parts, opening, opens, ready, cause_in, step, after, refusal, refusal_in, at_end, site_in}
use Rattle.cts_plan.specs.Keeping.{KeepsRules}
use Rattle.cts_plan.proofs.Lists.{both, neither, not_false, and_true, but_last, but_last_snoc, but_last_kept}
use Rattle.cts_plan.proofs.Completed.{routed_kept, all_joined}
use Rattle.cts_plan.proofs.Kept.{keeps_rules, at_start}
use Rattle.cts_plan.proofs.Runs.{after_more}
use Rattle.cts_words.proofs.Finds.{none_passes}
use Rattle.cts_plan_laws.specs.SiteLaws.{of_parts, said, all_said, last_said, target, route, api_port, desk_count, log_layout, log_cycle, Opener, opener_with, opener_by, opener, groups, is_router_group, is_interface_group, router_groups, protocols, IsInterface, IsRouter, Each, IsSite, SitesAreOfTheirStatements}
use Rattle.cts_plan_laws.specs.Laws.{IsInterfaceDraft, IsRouterDraft, IsOpened}
use Rattle.cts_plan_laws.proofs.FirstRefused.{none_holds, through}
use Rattle.cts_plan_laws.proofs.Fitting.{words_fit}
use Rattle.cts_plan_laws.proofs.Readings.{Says, reads, reads_as, says_at, says_of, opened_by, change_by}
use Rattle.cts_plan_laws.proofs.Opened.{said_more, last_more, last_one_more, opened_more, details, opened_now, opened_new}

abbrev Group : Type 0
Group = Opener × List Statement

-- ---- numbers stay, with an interface more

kept_step : (b any : Bool) (m n : ℕ) → (any ≡ true → m ≡ n) → (b || any) ≡ true → cond b zero (suc m) ≡ cond b zero (suc n)
kept_step true any m n h e = refl
kept_step false any m n h e = ap suc (h e)

number_kept : (is : List InterfaceData) (i : InterfaceData) (name : List ℕ) → list_any (has_name name) is ≡ true → number_of (is ++ i ∷ []) name ≡ number_of is name
number_kept [] i name e = absurd cc
number_kept (j ∷ is) i name e = kept_step (has_name name j) (list_any (has_name name) is) (number_of (is ++ i ∷ []) name) (number_of is name) (number_kept is i name) e

-- each name is that of an interface
abbrev are_known : List InterfaceData → List (List ℕ) → Bool
are_known is names = list_all (λ name. list_any (has_name name) is) names

numbers_kept : (is : List InterfaceData) (i : InterfaceData) (names : List (List ℕ)) → are_known is names ≡ true → map (number_of (is ++ i ∷ [])) names ≡ map (number_of is) names
numbers_kept is i [] e = refl
numbers_kept is i (name ∷ names) e =
    let parts = both (list_any (has_name name) is) (are_known is names) e in
    ap (λ n. n ∷ map (number_of (is ++ i ∷ [])) names) (number_kept is i name parts.0) ∙ ap (λ ns. number_of is name ∷ ns) (numbers_kept is i names parts.1)

or_more : (a b : Bool) → a ≡ true → (a || b) ≡ true
or_more true b e = refl
or_more false b e = absurd cc

known_kept : (is : List InterfaceData) (i : InterfaceData) (names : List (List ℕ)) → are_known is names ≡ true → are_known (is ++ i ∷ []) names ≡ true
known_kept is i [] e = refl
known_kept is i (name ∷ names) e =
    let parts = both (list_any (has_name name) is) (are_known is names) e in
    and_true (list_any (has_name name) (is ++ i ∷ [])) (are_known (is ++ i ∷ []) names)
    (list_any-append (has_name name) is (i ∷ []) ∙ or_more (list_any (has_name name) is) (list_any (has_name name) (i ∷ [])) parts.0) (known_kept is i names parts.1)

-- ---- what is complete

-- a router of its group, whose routes are known
record IsKnownRouter (d : DefinitionsData) (is : List InterfaceData) (g : Group) (r : RouterData) : Type 0 where
  pub said : IsRouter d is g r
  pub known : are_known is (all_said route g.1) ≡ true

router_kept : (d : DefinitionsData) (is : List InterfaceData) (i : InterfaceData) (g : Group) (r : RouterData) → routes_within (length is) r ≡ true → IsKnownRouter d is g r → IsKnownRouter d (is ++ i ∷ []) g r
router_kept d is i g r within h = record {
  said = record {
    name = h.said.name;
    port = h.said.port;
    routes = h.said.routes ∙ sym (numbers_kept is i (all_said route g.1) h.known);
    chain = h.said.chain ∙ ap (λ ts. chain_of d ts (protocols g)) (sym (routed_kept is i r.routes within));
  };
  known = known_kept is i (all_said route g.1) h.known;
}

routers_kept : (d : DefinitionsData) (is : List InterfaceData) (i : InterfaceData) (gs : List Group) (rs : List RouterData) → list_all (routes_within (length is)) rs ≡ true
    → Each (IsKnownRouter d is) gs rs → Each (IsKnownRouter d (is ++ i ∷ [])) gs rs
routers_kept d is i [] [] e h = tt
routers_kept d is i [] (r ∷ rs) e h = h
routers_kept d is i (g ∷ gs) [] e h = h
routers_kept d is i (g ∷ gs) (r ∷ rs) e h =
    let parts = both (routes_within (length is) r) (list_all (routes_within (length is)) rs) e in
    (router_kept d is i g r parts.0 h.0, routers_kept d is i gs rs parts.1 h.1)

each_snoc : {X Y : Type 0} (R : X → Y → Type 0) (xs : List X) (ys : List Y) (x : X) (y : Y) → Each R xs ys → R x y → Each R (xs ++ x ∷ []) (ys ++ y ∷ [])
each_snoc R [] [] x y h here = (here, tt)
each_snoc R [] (z ∷ ys) x y h here = absurd h
each_snoc R (z ∷ xs) [] x y h here = absurd h
each_snoc R (z ∷ xs) (w ∷ ys) x y h here = (h.0, each_snoc R xs ys x y h.1 here)

filter_in : {X : Type 0} (p : X → Bool) (xs : List X) (x : X) → p x ≡ true → filter p (xs ++ x ∷ []) ≡ filter p xs ++ x ∷ []
filter_in p xs x e = filter-append p xs (x ∷ []) ∙ ap (λ b. filter p xs ++ cond b (x ∷ []) []) e

filter_out : {X : Type 0} (p : X → Bool) (xs : List X) (x : X) → p x ≡ false → filter p (xs ++ x ∷ []) ≡ filter p xs
filter_out p xs x e = filter-append p xs (x ∷ []) ∙ ap (λ b. filter p xs ++ cond b (x ∷ []) []) e ∙ append-nil (filter p xs)

record IsComplete (d : DefinitionsData) (gs : List Group) (is : List InterfaceData) (rs : List RouterData) : Type 0 where
  pub interfaces : Each (IsInterface d) (filter is_interface_group gs) is
  pub routers : Each (IsKnownRouter d is) (filter is_router_group gs) rs

-- what is read is the last group, whose routes are known
abbrev IsRead : List InterfaceData → Option Group → Current → Type 0
IsRead is None c = c ≡ current.Nothing
IsRead is (Some g) c = IsOpened is g c × (are_known is (all_said route g.1) ≡ true)

interface_made : (d : DefinitionsData) (g : Group) (i : InterfaceDraftData) → IsInterfaceDraft g i → IsInterface d g (interface_of d i)
interface_made d g i h = record {
  name = h.name;
  serves = h.serves;
  to_host = h.to_host;
  port = h.port;
  targets = h.targets;
  chain = ap (λ ts. chain_of d ts i.chain) h.targets ∙ ap (chain_of d (all_said target g.1)) h.chain;
  reconnect = h.reconnect;
  delay = h.delay;
  logged = h.logged;
}

router_made : (s : SiteData) (g : Group) (r : RouterDraftData) → IsRouterDraft s.interfaces g r → IsRouter s.definitions s.interfaces g (router_of s r)
router_made s g r h = record {
  name = h.name;
  port = h.port;
  routes = h.routes;
  chain = ap (chain_of s.definitions (routed_targets s.interfaces r.routes)) h.chain;
}

complete_with : (s : SiteData) (front : List Group) (g : Group) (c : Current) → IsComplete s.definitions front s.interfaces s.routers → IsOpened s.interfaces g c → are_known s.interfaces (all_said route g.1) ≡ true
    → list_all (routes_within (length s.interfaces)) s.routers ≡ true → IsComplete s.definitions (front ++ g ∷ []) (completed s c).interfaces (completed s c).routers
complete_with s front g current.Nothing h opened known within = absurd opened
complete_with s front g (current.Interface i) h opened known within =
    let d = s.definitions in
    let more = interface_of d i in
    record {
      interfaces = subst (λ gs. Each (IsInterface d) gs (s.interfaces ++ more ∷ [])) (sym (filter_in is_interface_group front g (ap not opened.0)))
          (each_snoc (IsInterface d) (filter is_interface_group front) s.interfaces g more h.interfaces (interface_made d g i opened.1));
      routers = subst (λ gs. Each (IsKnownRouter d (s.interfaces ++ more ∷ [])) gs s.routers) (sym (filter_out is_router_group front g opened.0))
          (routers_kept d s.interfaces more (filter is_router_group front) s.routers within h.routers);
    }
complete_with s front g (current.Router r) h opened known within =
    let d = s.definitions in
    let more = router_of s r in
    record {
      interfaces = subst (λ gs. Each (IsInterface d) gs s.interfaces) (sym (filter_out is_interface_group front g (ap not opened.0))) h.interfaces;
      routers = subst (λ gs. Each (IsKnownRouter d s.interfaces) gs (s.routers ++ more ∷ [])) (sym (filter_in is_router_group front g opened.0))
          (each_snoc (IsKnownRouter d s.interfaces) (filter is_router_group front) s.routers g more h.routers (record { said = router_made s g r opened.1; known = known }));
    }

complete_more : (s : SiteData) (front : List Group) (o : Option Group) (c : Current) → IsComplete s.definitions front s.interfaces s.routers → IsRead s.interfaces o c
    → list_all (routes_within (length s.interfaces)) s.routers ≡ true → IsComplete s.definitions (front ++ option_to_list o) (completed s c).interfaces (completed s c).routers
complete_more s front (Some g) c h here within = complete_with s front g c h here.0 here.1 within
complete_more s front None c h here within =
    subst (λ (x : Current). IsComplete s.definitions (front ++ []) (completed s x).interfaces (completed s x).routers) (sym here)
    (subst (λ (gs : List Group). IsComplete s.definitions gs s.interfaces s.routers) (sym (append-nil front)) h)

split_last : {X : Type 0} (xs : List X) → but_last xs ++ option_to_list (last_of xs) ≡ xs
split_last [] = refl
split_last (x ∷ []) = refl
split_last (x ∷ y ∷ xs) = ap (λ ys. x ∷ ys) (split_last (y ∷ xs))

-- ---- what is said once at most

-- where it was not given it is not said, and it is said once at most
abbrev IsOnce : {X : Type 0} → Bool → List X → Type 0
IsOnce given xs = (given ≡ false → xs ≡ []) × (length xs ≤ 1)

once_with : {X : Type 0} (given : Bool) (o : Option X) (xs : List X) → IsOnce given xs → (is_some o && given) ≡ false → IsOnce (is_some o || given) (xs ++ option_to_list o)
once_with given None xs h e = subst (IsOnce given) (sym (append-nil xs)) h
once_with given (Some x) xs h e = (λ never. absurd (cc never), subst (λ ys. length (ys ++ x ∷ []) ≤ 1) (sym (h.0 e)) (omega arith))

once_more : {X : Type 0} (says : Keyword → List (List ℕ) → Option X) (given : Bool) (before : List Statement) (t : Statement) → IsOnce given (all_said says before)
    → (is_some (said says t) && given) ≡ false → IsOnce (is_some (said says t) || given) (all_said says (before ++ t ∷ []))
once_more says given before t h e = subst (IsOnce (is_some (said says t) || given)) (sym (said_more (said says) before t)) (once_with given (said says t) (all_said says before) h e)

either_there : {X : Type 0} (o p : Option X) → is_some (option_or o p) ≡ (is_some o || is_some p)
either_there None p = refl
either_there (Some x) p = refl

-- a line without a cause gives neither again
record GivesAnew (s : Draft) (r : Says) : Type 0 where
  pub layout : (is_some r.layout && s.layout_said) ≡ false
  pub cycle : (is_some r.cycle && is_some s.site.log_cycle) ≡ false

line_anew : (s : Draft) (l : Line) → is_double s l ≡ false → GivesAnew s (reads l)
line_anew s line.Nothing e = record { layout = refl; cycle = refl }
line_anew s (line.ApiPort port) e = record { layout = refl; cycle = refl }
line_anew s (line.Desks desks) e = record { layout = refl; cycle = refl }
line_anew s (line.LogLayout layout) e = record { layout = e; cycle = refl }
line_anew s (line.LogCycle bytes) e = record { layout = refl; cycle = e }
line_anew s (line.Interface i) e = record { layout = refl; cycle = refl }
line_anew s (line.Router r) e = record { layout = refl; cycle = refl }
line_anew s (line.Detail (detail.Target name)) e = record { layout = refl; cycle = refl }
line_anew s (line.Detail (detail.Step step)) e = record { layout = refl; cycle = refl }
line_anew s (line.Detail (detail.Route name)) e = record { layout = refl; cycle = refl }
line_anew s (line.Detail (detail.Delay delay)) e = record { layout = refl; cycle = refl }
line_anew s (line.Detail detail.DontReconnect) e = record { layout = refl; cycle = refl }
line_anew s (line.Detail (detail.Logged logged)) e = record { layout = refl; cycle = refl }

anew_at : (s : Draft) (n : ℕ) (p : Option (Keyword × List (List ℕ))) → or_else (cond (opens p) (due s) None) (at_line n (cause_in (ready p s) n p)) ≡ None → GivesAnew (ready p s) (says_at n p)
anew_at s n None e = record { layout = refl; cycle = refl }
anew_at s n (Some p) e =
    let stands = ready (Some p) s in
    let l = line_of n p.0 p.1 in
    let passes = none_passes (λ c. holds c stands p.0 p.1 l) order (none_holds s n p e) in
    subst (GivesAnew stands) (reads_as n p.0 p.1) (line_anew stands l passes.1.1.1.1.1.0)

same_cycle : (s : SiteData) (c : Current) → (completed s c).log_cycle ≡ s.log_cycle
same_cycle s current.Nothing = refl
same_cycle s (current.Interface i) = refl
same_cycle s (current.Router r) = refl

anew_before : (b : Bool) (s : Draft) (r : Says) → GivesAnew (cond b (closed s) s) r → GivesAnew s r
anew_before true s r h = record { layout = h.layout; cycle = ap (λ o. is_some r.cycle && is_some o) (sym (same_cycle s.site s.current)) ∙ h.cycle }
anew_before false s r h = h

gives_anew : (s : Draft) (t : Statement) → refusal_in s t ≡ None → GivesAnew s (says_of t)
gives_anew s t none = anew_before (opens (parts t.words)) s (says_of t) (anew_at s t.line (parts t.words) none)

-- ---- a statement more

record IsSoFar (d : DefinitionsData) (before : List Statement) (s : Draft) : Type 0 where
  pub definitions : s.site.definitions ≡ d
  pub complete : IsComplete s.site.definitions (but_last (groups before)) s.site.interfaces s.site.routers
  pub current : IsRead s.site.interfaces (last_of (groups before)) s.current
  pub port : s.site.api_port ≡ last_said api_port 7777 before
  pub desks : s.site.desks ≡ last_said desk_count 4 before
  pub layout : s.site.log_layout ≡ last_said log_layout 2 before
  pub cycle : s.site.log_cycle ≡ last_of (all_said log_cycle before)
  pub one_layout : IsOnce s.layout_said (all_said log_layout before)
  pub one_cycle : IsOnce (is_some s.site.log_cycle) (all_said log_cycle before)
  pub kept : KeepsRules s

-- all groups, with what is read complete
all_complete : (d : DefinitionsData) (before : List Statement) (s : Draft) → IsSoFar d before s → IsComplete s.site.definitions (groups before) (site_in s).interfaces (site_in s).routers
all_complete d before s h =
    subst (λ gs. IsComplete s.site.definitions gs (site_in s).interfaces (site_in s).routers) (split_last (groups before))
    (complete_more s.site (but_last (groups before)) (last_of (groups before)) s.current h.complete h.current h.kept.site.routes)

same_definitions : (s : SiteData) (c : Current) → (completed s c).definitions ≡ s.definitions
same_definitions s current.Nothing = refl
same_definitions s (current.Interface i) = refl
same_definitions s (current.Router r) = refl

same_port : (s : SiteData) (c : Current) → (completed s c).api_port ≡ s.api_port
same_port s current.Nothing = refl
same_port s (current.Interface i) = refl
same_port s (current.Router r) = refl

same_desks : (s : SiteData) (c : Current) → (completed s c).desks ≡ s.desks
same_desks s current.Nothing = refl
same_desks s (current.Interface i) = refl
same_desks s (current.Router r) = refl

same_layout : (s : SiteData) (c : Current) → (completed s c).log_layout ≡ s.log_layout
same_layout s current.Nothing = refl
same_layout s (current.Interface i) = refl
same_layout s (current.Router r) = refl

-- the route that a line names is known
line_known : (s : Draft) (l : Line) → is_unrouted s l ≡ false → are_known s.site.interfaces (option_to_list (reads l).route) ≡ true
line_known s line.Nothing e = refl
line_known s (line.ApiPort port) e = refl
line_known s (line.Desks desks) e = refl
line_known s (line.LogLayout layout) e = refl
line_known s (line.LogCycle bytes) e = refl
line_known s (line.Interface i) e = refl
line_known s (line.Router r) e = refl
line_known s (line.Detail (detail.Target name)) e = refl
line_known s (line.Detail (detail.Step step)) e = refl
line_known s (line.Detail (detail.Route None)) e = absurd cc
line_known s (line.Detail (detail.Route (Some name))) e = and_true (list_any (has_name name) s.site.interfaces) true (not_false (list_any (has_name name) s.site.interfaces) e) refl
line_known s (line.Detail (detail.Delay delay)) e = refl
line_known s (line.Detail detail.DontReconnect) e = refl
line_known s (line.Detail (detail.Logged logged)) e = refl

route_known : (s : Draft) (n : ℕ) (p : Option (Keyword × List (List ℕ))) → or_else (cond (opens p) (due s) None) (at_line n (cause_in (ready p s) n p)) ≡ None
    → are_known (ready p s).site.interfaces (option_to_list (of_parts route p)) ≡ true
route_known s n None e = refl
route_known s n (Some p) e =
    let stands = ready (Some p) s in
    let l = line_of n p.0 p.1 in
    let passes = none_passes (λ c. holds c stands p.0 p.1 l) order (none_holds s n p e) in
    ap (λ (r : Says). are_known stands.site.interfaces (option_to_list r.route)) (sym (reads_as n p.0 p.1))
    ∙ line_known stands l (neither (is_file_unknown p.0 p.1) (is_unrouted stands l) passes.1.1.0).1

-- a statement that opens, and is not refused, is one of those that give a name
found_none : (b : Bool) (found : Option (List ℕ)) (make : List ℕ → Opener) (name : List ℕ) → b ≡ true → found ≡ Some name → cond b (option_map make found) None ≡ None → ⊥
found_none false found make name e f none = absurd cc
found_none true None make name e f none = absurd cc
found_none true (Some n) make name e f none = absurd cc

gives_name : (s : Draft) (n : ℕ) (p : Option (Keyword × List (List ℕ))) → or_else (cond (opens p) (due s) None) (at_line n (cause_in (ready p s) n p)) ≡ None
    → opens p ≡ true → of_parts (opener_by n) p ≡ None → ⊥
gives_name s n None e is none = absurd cc
gives_name s n (Some p) e is none =
    let named = (words_fit s n p e).named is in
    found_none (opening p.0) (name_of (word p.1 0)) (opener_with n p.0 p.1) named.0 is named.1 none

abbrev with_statement : Statement → Group → Group
with_statement t g = (g.0, g.1 ++ t ∷ [])

read_more : (is : List InterfaceData) (t : Statement) (o : Option Group) (c : Current) → are_known is (option_to_list (said route t)) ≡ true → IsRead is o c
    → IsRead is (option_map (with_statement t) o) (change_by is (says_of t) c)
read_more is t None c known h = ap (change_by is (says_of t)) h
read_more is t (Some g) c known h = (
  opened_more is g.0 g.1 t c h.0,
  ap (are_known is) (said_more (said route) g.1 t) ∙ all_joined (λ name. list_any (has_name name) is) (all_said route g.1) (option_to_list (said route t)) h.1 known,
)

last_changed : {X : Type 0} (f : X → X) (xs : List X) → last_of (on_last f xs) ≡ option_map f (last_of xs)
last_changed f [] = refl
last_changed f (x ∷ []) = refl
last_changed f (x ∷ y ∷ []) = refl
last_changed f (x ∷ y ∷ z ∷ xs) = last_changed f (y ∷ z ∷ xs)

more_opened : (d : DefinitionsData) (before : List Statement) (s : Draft) (t : Statement) (o : Opener) → opener t ≡ Some o → GivesAnew s (says_of t) → IsSoFar d before s → KeepsRules (step s t) → IsSoFar d (before ++ t ∷ []) (step s t)
more_opened d before s t o e anew h kept =
    let now = opened_now s t o e in
    let gs : groups (before ++ t ∷ []) ≡ groups before ++ (o, []) ∷ [] = blocks-more opener before t o e in
    let whole = all_complete d before s h in
    record {
      definitions = ap (λ (x : Draft). x.site.definitions) now ∙ same_definitions s.site s.current ∙ h.definitions;
      complete = subst (λ (x : Draft). IsComplete x.site.definitions (but_last (groups (before ++ t ∷ []))) x.site.interfaces x.site.routers) (sym now)
          (subst (λ gs. IsComplete (site_in s).definitions gs (site_in s).interfaces (site_in s).routers) (sym (ap but_last gs ∙ but_last_snoc (groups before) (o, [])))
          (subst (λ (b : DefinitionsData). IsComplete b (groups before) (site_in s).interfaces (site_in s).routers) (sym (same_definitions s.site s.current)) whole));
      current = subst (λ (x : Draft). IsRead x.site.interfaces (last_of (groups (before ++ t ∷ []))) x.current) (sym now)
          (subst (λ (g : Option Group). IsRead (site_in s).interfaces g (opened_by o)) (sym (ap last_of gs ∙ last_snoc (groups before) (o, []))) (opened_new (site_in s).interfaces t o e, refl));
      port = ap (λ (x : Draft). x.site.api_port) now ∙ last_more api_port 7777 (site_in s).api_port before t (same_port s.site s.current ∙ h.port);
      desks = ap (λ (x : Draft). x.site.desks) now ∙ last_more desk_count 4 (site_in s).desks before t (same_desks s.site s.current ∙ h.desks);
      layout = ap (λ (x : Draft). x.site.log_layout) now ∙ last_more log_layout 2 (site_in s).log_layout before t (same_layout s.site s.current ∙ h.layout);
      cycle = ap (λ (x : Draft). x.site.log_cycle) now ∙ last_one_more log_cycle (site_in s).log_cycle before t (same_cycle s.site s.current ∙ h.cycle);
      one_layout = subst (λ b. IsOnce b (all_said log_layout (before ++ t ∷ []))) (sym (ap (λ (x : Draft). x.layout_said) now)) (once_more log_layout s.layout_said before t h.one_layout anew.layout);
      one_cycle = subst (λ b. IsOnce b (all_said log_cycle (before ++ t ∷ [])))
          (sym (ap (λ (x : Draft). is_some x.site.log_cycle) now ∙ ap (λ o. is_some (option_or (said log_cycle t) o)) (same_cycle s.site s.current) ∙ either_there (said log_cycle t) s.site.log_cycle))
          (once_more log_cycle (is_some s.site.log_cycle) before t h.one_cycle anew.cycle);
      kept = kept;
    }

more_said : (d : DefinitionsData) (before : List Statement) (s : Draft) (t : Statement) → opens (parts t.words) ≡ false → opener t ≡ None → are_known s.site.interfaces (option_to_list (said route t)) ≡ true
    → GivesAnew s (says_of t) → IsSoFar d before s → KeepsRules (step s t) → IsSoFar d (before ++ t ∷ []) (step s t)
more_said d before s t opens_not none known anew h kept =
    let now = details s t opens_not in
    let gs : groups (before ++ t ∷ []) ≡ on_last (with_statement t) (groups before) = blocks-joined opener before t none in
    record {
      definitions = ap (λ (x : Draft). x.site.definitions) now ∙ h.definitions;
      complete = subst (λ (x : Draft). IsComplete x.site.definitions (but_last (groups (before ++ t ∷ []))) x.site.interfaces x.site.routers) (sym now)
          (subst (λ gs. IsComplete s.site.definitions gs s.site.interfaces s.site.routers) (sym (ap but_last gs ∙ but_last_kept (with_statement t) (groups before))) h.complete);
      current = subst (λ (x : Draft). IsRead x.site.interfaces (last_of (groups (before ++ t ∷ []))) x.current) (sym now)
          (subst (λ (g : Option Group). IsRead s.site.interfaces g (change_by s.site.interfaces (says_of t) s.current)) (sym (ap last_of gs ∙ last_changed (with_statement t) (groups before)))
          (read_more s.site.interfaces t (last_of (groups before)) s.current known h.current));
      port = ap (λ (x : Draft). x.site.api_port) now ∙ last_more api_port 7777 s.site.api_port before t h.port;
      desks = ap (λ (x : Draft). x.site.desks) now ∙ last_more desk_count 4 s.site.desks before t h.desks;
      layout = ap (λ (x : Draft). x.site.log_layout) now ∙ last_more log_layout 2 s.site.log_layout before t h.layout;
      cycle = ap (λ (x : Draft). x.site.log_cycle) now ∙ last_one_more log_cycle s.site.log_cycle before t h.cycle;
      one_layout = subst (λ b. IsOnce b (all_said log_layout (before ++ t ∷ []))) (sym (ap (λ (x : Draft). x.layout_said) now)) (once_more log_layout s.layout_said before t h.one_layout anew.layout);
      one_cycle = subst (λ b. IsOnce b (all_said log_cycle (before ++ t ∷ []))) (sym (ap (λ (x : Draft). is_some x.site.log_cycle) now ∙ either_there (said log_cycle t) s.site.log_cycle))
          (once_more log_cycle (is_some s.site.log_cycle) before t h.one_cycle anew.cycle);
      kept = kept;
    }

one_more : (d : DefinitionsData) (before : List Statement) (t : Statement) (b : Bool) (o : Option Opener) → opens (parts t.words) ≡ b → opener t ≡ o → IsSoFar d before (after d before)
    → refusal d before t ≡ None → IsSoFar d (before ++ t ∷ []) (step (after d before) t)
one_more d before t b (Some o) is e h none = more_opened d before (after d before) t o e (gives_anew (after d before) t none) h (keeps_rules (after d before) t h.kept none)
one_more d before t true None is e h none = absurd (gives_name (after d before) t.line (parts t.words) none is e)
one_more d before t false None is e h none =
    let s = after d before in
    let known : are_known s.site.interfaces (option_to_list (said route t)) ≡ true =
    sym (ap (λ c. are_known (cond c (closed s) s).site.interfaces (option_to_list (said route t))) is) ∙ route_known s t.line (parts t.words) none in
    more_said d before s t is e known (gives_anew s t none) h (keeps_rules s t h.kept none)

so_far : (d : DefinitionsData) (before : List Statement) (t : Statement) → IsSoFar d before (after d before) → refusal d before t ≡ None → IsSoFar d (before ++ t ∷ []) (after d (before ++ t ∷ []))
so_far d before t h none =
    subst (IsSoFar d (before ++ t ∷ [])) (sym (after_more d before t)) (one_more d before t (opens (parts t.words)) (opener t) refl refl h none)

nothing_said : {X : Type 0} → IsOnce {X = X} false []
nothing_said = (λ e. refl, omega arith)

begins : (d : DefinitionsData) → IsSoFar d [] (start d)
begins d = record { definitions = refl; complete = record { interfaces = tt; routers = tt }; current = refl; port = refl; desks = refl; layout = refl; cycle = refl; one_layout = nothing_said; one_cycle = nothing_said; kept = at_start d }

-- ---- the site

each_said : (d : DefinitionsData) (is : List InterfaceData) (gs : List Group) (rs : List RouterData) → Each (IsKnownRouter d is) gs rs → Each (IsRouter d is) gs rs
each_said d is [] [] h = tt
each_said d is [] (r ∷ rs) h = h
each_said d is (g ∷ gs) [] h = h
each_said d is (g ∷ gs) (r ∷ rs) h = (h.0.said, each_said d is gs rs h.1)

is_site : (d : DefinitionsData) (all : List Statement) → IsSoFar d all (after d all) → IsSite d all (site_in (after d all))
is_site d all h =
    let s = after d all in
    let whole = subst (λ (b : DefinitionsData). IsComplete b (groups all) (site_in s).interfaces (site_in s).routers) h.definitions (all_complete d all s h) in
    record {
      definitions = same_definitions s.site s.current ∙ h.definitions;
      interfaces = whole.interfaces;
      routers = each_said d (site_in s).interfaces (router_groups all) (site_in s).routers whole.routers;
      port = same_port s.site s.current ∙ h.port;
      desks = same_desks s.site s.current ∙ h.desks;
      layout = same_layout s.site s.current ∙ h.layout;
      cycle = same_cycle s.site s.current ∙ h.cycle;
      one_layout = h.one_layout.1;
      one_cycle = h.one_cycle.1;
    }

answered : (d : DefinitionsData) (all : List Statement) (s : SiteData) (o : Option Refused) → first_refusal (refusal d) (at_end d) [] all ≡ o → unless_refused (site_in (after d all)) o ≡ Ok s → IsSite d all s
answered d all s None e said =
    let same : site_in (after d all) ≡ s = cc in
    let run = through (λ (b : List Statement). IsSoFar d b (after d b)) d (so_far d) [] all (begins d) e in
    subst (IsSite d all) same (is_site d all run.0)
answered d all s (Some r) e said = absurd cc

pub sites_are_of_their_statements : SitesAreOfTheirStatements
sites_are_of_their_statements d all s e = answered d all s (first_refusal (refusal d) (at_end d) [] all) refl e
