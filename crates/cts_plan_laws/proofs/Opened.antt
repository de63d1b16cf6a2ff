-- Interfaces and routers by their own statements and those that belong to them.
use Rattle.std.proofs.Common.{◌≡◌, ℕ, Bool, true, false, List, [], ◌∷◌, ◌++◌, map, Option, Some, None, refl, sym, ap, ◌∙◌, subst, append_assoc}
use Rattle.std.specs.Prelude.{not, ◌&&◌, ◌||◌, is_some, option_map, option_to_list, unwrap_or, cond}
use Rattle.std.specs.Option.{option_or}
use Rattle.std.specs.List.{filter_map, list_any, cons_option}
use Rattle.std.proofs.lemmas.List.{append-nil, map-append}
use Rattle.std.proofs.lemmas.List.Elements.{filter_map-append}
use Rattle.cts_def.specs.Sites.{InterfaceData}
use Rattle.cts_words.specs.declared.statement.Statement.{Statement}
use Rattle.cts_words.specs.Blocks.{last_of}
use Rattle.cts_words.proofs.Blocks.{last_snoc}
use Rattle.cts_plan.specs.declared.draft.Draft.{Draft}
use Rattle.cts_plan.specs.declared.opened.Current.{Current}
use Rattle.cts_plan.specs.declared.opened.Current.TheVariants as current
use Rattle.cts_plan.specs.declared.keyword.Keyword.{Keyword}
use Rattle.cts_plan.specs.declared.keyword.Keyword.TheVariants as keyword
use Rattle.cts_plan.specs.declared.words.Way.TheVariants.{ReadWrite}
use Rattle.cts_plan.specs.Words.{word}
use Rattle.cts_plan.specs.Steps.{StepData}
use Rattle.cts_plan.specs.Drafts.{InterfaceDraftData, RouterDraftData}
use Rattle.cts_plan.specs.Lines.{name_of, step_at}
use Rattle.cts_plan.specs.Standing.{start, number_of, closed}
use Rattle.cts_plan.specs.SiteFiles.{parts, opening, opens, step, later, after, site_in}
use Rattle.cts_plan.proofs.Lists.{any_snoc}
use Rattle.cts_plan_laws.specs.SiteLaws.{of_parts, said, all_said, last_said, target, route, logging, waiting, is_dont_reconnect, protocol_said, Opener, opener_with, opener_by, opener, five_seconds}
use Rattle.cts_plan_laws.specs.Laws.{IsInterfaceDraft, IsRouterDraft, IsOpened, OpenNothing, ConnectionsHaveTheirStatements, NoneStandsBefore}
use Rattle.cts_plan_laws.proofs.Readings.{Says, says_of, opened_by, interface_with, router_with, change_by, site_with, placed_by, step_by}

-- ---- what statements say, with one more

alone : {X : Type 0} (o : Option X) → cons_option o [] ≡ option_to_list o
alone None = refl
alone (Some x) = refl

pub said_more : {X : Type 0} (says : Statement → Option X) (body : List Statement) (t : Statement) → filter_map says (body ++ t ∷ []) ≡ filter_map says body ++ option_to_list (says t)
said_more says body t = filter_map-append says body (t ∷ []) ∙ ap (λ ys. filter_map says body ++ ys) (alone (says t))

last_with : {X : Type 0} (xs : List X) (o : Option X) (default : X) → unwrap_or (last_of (xs ++ option_to_list o)) default ≡ unwrap_or o (unwrap_or (last_of xs) default)
last_with xs None default = ap (λ ys. unwrap_or (last_of ys) default) (append-nil xs)
last_with xs (Some x) default = ap (λ o. unwrap_or o default) (last_snoc xs x)

pub last_more : {X : Type 0} (says : Keyword → List (List ℕ) → Option X) (default now : X) (body : List Statement) (t : Statement) → now ≡ last_said says default body
    → unwrap_or (said says t) now ≡ last_said says default (body ++ t ∷ [])
last_more says default now body t e =
    ap (unwrap_or (said says t)) e ∙ sym (last_with (all_said says body) (said says t) default) ∙ ap (λ xs. unwrap_or (last_of xs) default) (sym (said_more (said says) body t))

last_one_with : {X : Type 0} (xs : List X) (o : Option X) → last_of (xs ++ option_to_list o) ≡ option_or o (last_of xs)
last_one_with xs None = ap last_of (append-nil xs)
last_one_with xs (Some x) = last_snoc xs x

pub last_one_more : {X : Type 0} (says : Keyword → List (List ℕ) → Option X) (now : Option X) (body : List Statement) (t : Statement) → now ≡ last_of (all_said says body)
    → option_or (said says t) now ≡ last_of (all_said says (body ++ t ∷ []))
last_one_more says now body t e =
    ap (option_or (said says t)) e ∙ sym (last_one_with (all_said says body) (said says t)) ∙ ap last_of (sym (said_more (said says) body t))

not_either : (a b : Bool) → (not a && not b) ≡ not (a || b)
not_either true b = refl
not_either false b = refl

chain_more : (own : List StepData) (body : List Statement) (t : Statement) (chain : List StepData) → chain ≡ own ++ filter_map protocol_said body
    → chain ++ option_to_list (protocol_said t) ≡ own ++ filter_map protocol_said (body ++ t ∷ [])
chain_more own body t chain e =
    ap (λ ss. ss ++ option_to_list (protocol_said t)) e ∙ append_assoc own (filter_map protocol_said body) (option_to_list (protocol_said t)) ∙ ap (λ ss. own ++ ss) (sym (said_more protocol_said body t))

interface_more : (o : Opener) (body : List Statement) (t : Statement) (i : InterfaceDraftData) → IsInterfaceDraft (o, body) i → IsInterfaceDraft (o, body ++ t ∷ []) (interface_with (says_of t) i)
interface_more o body t i h = record {
  line = h.line;
  name = h.name;
  serves = h.serves;
  to_host = h.to_host;
  port = h.port;
  chain = chain_more (option_to_list (step_at o.line ReadWrite o.keyword o.words)) body t i.chain h.chain;
  targets = ap (λ ts. ts ++ option_to_list (said target t)) h.targets ∙ sym (said_more (said target) body t);
  delay = last_more waiting five_seconds i.delay body t h.delay;
  reconnect = ap (λ b. b && not (is_dont_reconnect t)) h.reconnect ∙ not_either (list_any is_dont_reconnect body) (is_dont_reconnect t) ∙ ap not (sym (any_snoc is_dont_reconnect body t));
  logged = last_more logging true i.logged body t h.logged;
}

router_more : (is : List InterfaceData) (o : Opener) (body : List Statement) (t : Statement) (r : RouterDraftData) → IsRouterDraft is (o, body) r → IsRouterDraft is (o, body ++ t ∷ []) (router_with is (says_of t) r)
router_more is o body t r h = record {
  line = h.line;
  name = h.name;
  port = h.port;
  chain = chain_more (option_to_list (step_at o.line ReadWrite o.keyword o.words)) body t r.chain h.chain;
  routes =
      ap (λ ns. ns ++ map (number_of is) (option_to_list (said route t))) h.routes
      ∙ sym (ap (map (number_of is)) (said_more (said route) body t) ∙ map-append (number_of is) (all_said route body) (option_to_list (said route t)));
}

pub opened_more : (is : List InterfaceData) (o : Opener) (body : List Statement) (t : Statement) (c : Current) → IsOpened is (o, body) c → IsOpened is (o, body ++ t ∷ []) (change_by is (says_of t) c)
opened_more is o body t current.Nothing h = absurd h
opened_more is o body t (current.Interface i) h = (h.0, interface_more o body t i h.1)
opened_more is o body t (current.Router r) h = (h.0, router_more is o body t r h.1)

-- ---- a statement that opens nothing, and one that opens

not_opened : (b : Bool) (o : Option Opener) → b ≡ false → cond b o None ≡ None
not_opened true o e = absurd cc
not_opened false o e = refl

no_opener : (n : ℕ) (p : Option (Keyword × List (List ℕ))) → opens p ≡ false → of_parts (opener_by n) p ≡ None
no_opener n None e = refl
no_opener n (Some p) e = not_opened (opening p.0) (option_map (opener_with n p.0 p.1) (name_of (word p.1 0))) e

-- what stands with what a statement says of the interface or router that is read
abbrev pub detailed : Says → Draft → Draft
detailed r s = record {
  site = site_with r s.site;
  current = change_by s.site.interfaces r s.current;
  layout_said = is_some r.layout || s.layout_said;
}

abbrev with_opened : Option Current → Says → Draft → Draft
with_opened o r s = record {
  site = site_with r s.site;
  current = unwrap_or o (change_by s.site.interfaces r s.current);
  layout_said = is_some r.layout || s.layout_said;
}

pub details : (s : Draft) (t : Statement) → opens (parts t.words) ≡ false → step s t ≡ detailed (says_of t) s
details s t e =
    step_by s t
    ∙ ap (λ b. placed_by (says_of t) (cond b (closed s) s)) e
    ∙ ap (λ o. with_opened (option_map opened_by o) (says_of t) s) (no_opener t.line (parts t.words) e)

opens_by : (b : Bool) (o : Option Opener) (x : Opener) → cond b o None ≡ Some x → b ≡ true
opens_by true o x e = refl
opens_by false o x e = absurd cc

pub is_opening : (n : ℕ) (p : Option (Keyword × List (List ℕ))) (o : Opener) → of_parts (opener_by n) p ≡ Some o → opens p ≡ true
is_opening n None o e = absurd cc
is_opening n (Some p) o e = opens_by (opening p.0) (option_map (opener_with n p.0 p.1) (name_of (word p.1 0))) o e

pub opened_now : (s : Draft) (t : Statement) (o : Opener) → opener t ≡ Some o → step s t ≡ with_opened (Some (opened_by o)) (says_of t) (closed s)
opened_now s t o e =
    step_by s t
    ∙ ap (λ b. placed_by (says_of t) (cond b (closed s) s)) (is_opening t.line (parts t.words) o e)
    ∙ ap (λ x. with_opened (option_map opened_by x) (says_of t) (closed s)) e

opened_interface : (is : List InterfaceData) (n : ℕ) (ws : List (List ℕ)) (found : Option (List ℕ)) (o : Opener) → option_map (opener_with n keyword.Interface ws) found ≡ Some o → IsOpened is (o, []) (opened_by o)
opened_interface is n ws None o e = absurd cc
opened_interface is n ws (Some name) o e =
    let same : opener_with n keyword.Interface ws name ≡ o = cc in
    subst (λ (x : Opener). IsOpened is (x, []) (opened_by x)) same (
      refl,
      record {
        line = refl;
        name = refl;
        serves = refl;
        to_host = refl;
        port = refl;
        chain = sym (append-nil (option_to_list (step_at n ReadWrite keyword.Interface ws)));
        targets = refl;
        delay = refl;
        reconnect = refl;
        logged = refl;
      },
    )

opened_router : (is : List InterfaceData) (n : ℕ) (ws : List (List ℕ)) (found : Option (List ℕ)) (o : Opener) → option_map (opener_with n keyword.Router ws) found ≡ Some o → IsOpened is (o, []) (opened_by o)
opened_router is n ws None o e = absurd cc
opened_router is n ws (Some name) o e =
    let same : opener_with n keyword.Router ws name ≡ o = cc in
    subst (λ (x : Opener). IsOpened is (x, []) (opened_by x)) same (
      refl,
      record {
        line = refl;
        name = refl;
        port = refl;
        chain = sym (append-nil (option_to_list (step_at n ReadWrite keyword.Router ws)));
        routes = refl;
      },
    )

opened_at : (is : List InterfaceData) (n : ℕ) (k : Keyword) (ws : List (List ℕ)) (o : Opener) → opener_by n k ws ≡ Some o → IsOpened is (o, []) (opened_by o)
opened_at is n keyword.Interface ws o e = opened_interface is n ws (name_of (word ws 0)) o e
opened_at is n keyword.Router ws o e = opened_router is n ws (name_of (word ws 0)) o e
opened_at is n keyword.Title ws o e = absurd cc
opened_at is n keyword.Port ws o e = absurd cc
opened_at is n keyword.Desks ws o e = absurd cc
opened_at is n keyword.LogLayout ws o e = absurd cc
opened_at is n keyword.LogCycle ws o e = absurd cc
opened_at is n keyword.Target ws o e = absurd cc
opened_at is n keyword.Protocol ws o e = absurd cc
opened_at is n keyword.ReconnectDelay ws o e = absurd cc
opened_at is n keyword.DontReconnect ws o e = absurd cc
opened_at is n keyword.Log ws o e = absurd cc
opened_at is n keyword.DontLog ws o e = absurd cc
opened_at is n keyword.Route ws o e = absurd cc

opened_in : (is : List InterfaceData) (n : ℕ) (p : Option (Keyword × List (List ℕ))) (o : Opener) → of_parts (opener_by n) p ≡ Some o → IsOpened is (o, []) (opened_by o)
opened_in is n None o e = absurd cc
opened_in is n (Some p) o e = opened_at is n p.0 p.1 o e

pub opened_new : (is : List InterfaceData) (t : Statement) (o : Opener) → opener t ≡ Some o → IsOpened is (o, []) (opened_by o)
opened_new is t o e = opened_in is t.line (parts t.words) o e

-- ---- statements after one that opens

-- the interface or router that is read has these statements, and all that is complete stays
record IsThrough (o : Opener) (body : List Statement) (s : Draft) (new : Draft) : Type 0 where
  pub current : IsOpened new.site.interfaces (o, body) new.current
  pub interfaces : new.site.interfaces ≡ s.site.interfaces
  pub routers : new.site.routers ≡ s.site.routers

through : (o : Opener) (done body : List Statement) (s : Draft) → IsOpened s.site.interfaces (o, done) s.current → OpenNothing body → IsThrough o (done ++ body) s (later s body)
through o done [] s h none = record {
  current = subst (λ (b : List Statement). IsOpened s.site.interfaces (o, b) s.current) (sym (append-nil done)) h;
  interfaces = refl;
  routers = refl;
}
through o done (t ∷ body) s h none =
    let e = details s t none.0 in
    let here : IsOpened (step s t).site.interfaces (o, done ++ t ∷ []) (step s t).current =
    subst (λ (x : Draft). IsOpened x.site.interfaces (o, done ++ t ∷ []) x.current) (sym e) (opened_more s.site.interfaces o done t s.current h) in
    let rest = through o (done ++ t ∷ []) body (step s t) here none.1 in
    record {
      current = subst (λ (b : List Statement). IsOpened (later (step s t) body).site.interfaces (o, b) (later (step s t) body).current) (append_assoc done (t ∷ []) body) rest.current;
      interfaces = rest.interfaces ∙ ap (λ (x : Draft). x.site.interfaces) e;
      routers = rest.routers ∙ ap (λ (x : Draft). x.site.routers) e;
    }

after_joined : (s : Draft) (before rest : List Statement) → later s (before ++ rest) ≡ later (later s before) rest
after_joined s [] rest = refl
after_joined s (t ∷ before) rest = after_joined (step s t) before rest

pub connections_have_their_statements : ConnectionsHaveTheirStatements
connections_have_their_statements d before s o body opens none =
    let stands = after d before in
    let e = opened_now stands s o opens in
    let first : IsOpened (step stands s).site.interfaces (o, []) (step stands s).current =
    subst (λ (x : Draft). IsOpened x.site.interfaces (o, []) x.current) (sym e) (opened_new (site_in stands).interfaces s o opens) in
    let rest = through o [] body (step stands s) first none in
    let all = after_joined (start d) before (s ∷ body) in
    record {
      current = subst (λ (x : Draft). IsOpened x.site.interfaces (o, body) x.current) (sym all) rest.current;
      interfaces = ap (λ (x : Draft). x.site.interfaces) all ∙ rest.interfaces ∙ ap (λ (x : Draft). x.site.interfaces) e;
      routers = ap (λ (x : Draft). x.site.routers) all ∙ rest.routers ∙ ap (λ (x : Draft). x.site.routers) e;
    }

none_through : (statements : List Statement) (s : Draft) → s.current ≡ current.Nothing → OpenNothing statements
    → ((later s statements).current ≡ current.Nothing) × ((later s statements).site.interfaces ≡ s.site.interfaces) × ((later s statements).site.routers ≡ s.site.routers)
none_through [] s nothing none = (nothing, refl, refl)
none_through (t ∷ statements) s nothing none =
    let e = details s t none.0 in
    let rest = none_through statements (step s t) (ap (λ (x : Draft). x.current) e ∙ ap (change_by s.site.interfaces (says_of t)) nothing) none.1 in
    (rest.0, rest.1 ∙ ap (λ (x : Draft). x.site.interfaces) e, rest.2 ∙ ap (λ (x : Draft). x.site.routers) e)

pub none_stands_before : NoneStandsBefore
none_stands_before d statements none =
    let all = none_through statements (start d) refl none in
    record { current = all.0; interfaces = all.1; routers = all.2 }
