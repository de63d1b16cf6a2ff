-- One interface or router for each statement that opens one.
use Rattle.std.proofs.Common.{◌≡◌, ℕ, Bool, true, false, List, [], ◌∷◌, ◌++◌, map, Option, Some, None, refl, sym, ap, ◌∙◌, append_assoc}
use Rattle.std.specs.Prelude.{not, cond, option_map, option_to_list, unwrap_or}
use Rattle.std.specs.List.{filter, filter_map, cons_option}
use Rattle.std.proofs.lemmas.List.{append-nil, map-append}
use Rattle.std.proofs.lemmas.List.Elements.{filter-append}
use Rattle.cts_def.specs.Sites.{InterfaceData, SiteData}
use Rattle.cts_words.specs.declared.statement.Statement.{Statement}
use Rattle.cts_plan.specs.declared.draft.Draft.{Draft}
use Rattle.cts_plan.specs.declared.opened.Current.{Current}
use Rattle.cts_plan.specs.declared.opened.Current.TheVariants as current
use Rattle.cts_plan.specs.Standing.{start, completed, closed}
use Rattle.cts_plan.specs.SiteFiles.{parts, opens, step, later, site_in}
use Rattle.cts_plan_laws.specs.SiteLaws.{Opener, opener}
use Rattle.cts_plan_laws.specs.Laws.{IsOpened, interface_head, interface_head_by, router_head, router_head_by, is_interface_opener, is_router_opener, ConnectionsAreOfTheirStatements}
use Rattle.cts_plan_laws.proofs.Readings.{Says, says_of, opened_by, change_by, placed_by, step_by}
use Rattle.cts_plan_laws.proofs.Opened.{details, opened_now, opened_new}

abbrev InterfaceHead : Type 0
InterfaceHead = List ℕ × List ℕ × Bool × ℕ

abbrev RouterHead : Type 0
RouterHead = List ℕ × ℕ

-- the head of what is read
abbrev own_interface : Current → List InterfaceHead
own_interface (current.Interface i) = (i.name, i.host, i.serves, i.port) ∷ []
own_interface _ = []

abbrev own_router : Current → List RouterHead
own_router (current.Router r) = (r.name, r.port) ∷ []
own_router _ = []

completed_interfaces : (s : SiteData) (c : Current) → map interface_head (completed s c).interfaces ≡ map interface_head s.interfaces ++ own_interface c
completed_interfaces s current.Nothing = sym (append-nil (map interface_head s.interfaces))
completed_interfaces s (current.Interface i) = map-append interface_head s.interfaces _
completed_interfaces s (current.Router r) = sym (append-nil (map interface_head s.interfaces))

completed_routers : (s : SiteData) (c : Current) → map router_head (completed s c).routers ≡ map router_head s.routers ++ own_router c
completed_routers s current.Nothing = sym (append-nil (map router_head s.routers))
completed_routers s (current.Interface i) = sym (append-nil (map router_head s.routers))
completed_routers s (current.Router r) = map-append router_head s.routers _

-- there are heads of these more
record HasGrown (found : List Opener) (s new : Draft) : Type 0 where
  pub interfaces : map interface_head new.site.interfaces ++ own_interface new.current
      ≡ (map interface_head s.site.interfaces ++ own_interface s.current) ++ map interface_head_by (filter is_interface_opener found)
  pub routers : map router_head new.site.routers ++ own_router new.current
      ≡ (map router_head s.site.routers ++ own_router s.current) ++ map router_head_by (filter is_router_opener found)

same_interface : (is : List InterfaceData) (r : Says) (c : Current) → own_interface (change_by is r c) ≡ own_interface c
same_interface is r current.Nothing = refl
same_interface is r (current.Interface i) = refl
same_interface is r (current.Router q) = refl

same_router : (is : List InterfaceData) (r : Says) (c : Current) → own_router (change_by is r c) ≡ own_router c
same_router is r current.Nothing = refl
same_router is r (current.Interface i) = refl
same_router is r (current.Router q) = refl

interface_opened : (is : List InterfaceData) (o : Opener) (c : Current) → IsOpened is (o, []) c → own_interface c ≡ map interface_head_by (filter is_interface_opener (o ∷ []))
interface_opened is o current.Nothing h = absurd h
interface_opened is o (current.Interface i) h =
    ap (λ (n : List ℕ). (n, i.host, i.serves, i.port) ∷ []) h.1.name
    ∙ ap (λ (a : List ℕ). (o.name, a, i.serves, i.port) ∷ []) h.1.to_host
    ∙ ap (λ (b : Bool). (o.name, (interface_head_by o).1, b, i.port) ∷ []) h.1.serves
    ∙ ap (λ (p : ℕ). (o.name, (interface_head_by o).1, (interface_head_by o).2, p) ∷ []) h.1.port
    ∙ ap (λ b. map interface_head_by (cond (not b) (o ∷ []) [])) (sym h.0)
interface_opened is o (current.Router r) h = ap (λ b. map interface_head_by (cond (not b) (o ∷ []) [])) (sym h.0)

router_opened : (is : List InterfaceData) (o : Opener) (c : Current) → IsOpened is (o, []) c → own_router c ≡ map router_head_by (filter is_router_opener (o ∷ []))
router_opened is o current.Nothing h = absurd h
router_opened is o (current.Interface i) h = ap (λ b. map router_head_by (cond b (o ∷ []) [])) (sym h.0)
router_opened is o (current.Router r) h =
    ap (λ (n : List ℕ). (n, r.port) ∷ []) h.1.name ∙ ap (λ (p : ℕ). (o.name, p) ∷ []) h.1.port ∙ ap (λ b. map router_head_by (cond b (o ∷ []) [])) (sym h.0)

abbrev heads_of : Draft → List InterfaceHead
heads_of s = map interface_head s.site.interfaces ++ own_interface s.current

abbrev router_heads_of : Draft → List RouterHead
router_heads_of s = map router_head s.site.routers ++ own_router s.current

one_step : (s : Draft) (t : Statement) (b : Bool) (o : Option Opener) → opens (parts t.words) ≡ b → opener t ≡ o → HasGrown (option_to_list o) s (step s t)
one_step s t b (Some o) e f =
    let now = opened_now s t o f in
    let new = opened_new (site_in s).interfaces t o f in
    record {
      interfaces =
          ap heads_of now
          ∙ ap (λ hs. map interface_head (site_in s).interfaces ++ hs) (interface_opened (site_in s).interfaces o (opened_by o) new)
          ∙ ap (λ hs. hs ++ map interface_head_by (filter is_interface_opener (o ∷ []))) (completed_interfaces s.site s.current);
      routers =
          ap router_heads_of now
          ∙ ap (λ hs. map router_head (site_in s).routers ++ hs) (router_opened (site_in s).interfaces o (opened_by o) new)
          ∙ ap (λ hs. hs ++ map router_head_by (filter is_router_opener (o ∷ []))) (completed_routers s.site s.current);
    }
one_step s t true None e f =
    let now = step_by s t ∙ ap (λ c. placed_by (says_of t) (cond c (closed s) s)) e in
    let opened = ap (λ o. unwrap_or (option_map opened_by o) current.Nothing) f in
    record {
      interfaces =
          ap heads_of now ∙ ap (λ c. map interface_head (site_in s).interfaces ++ own_interface c) opened
          ∙ ap (λ hs. hs ++ []) (completed_interfaces s.site s.current);
      routers =
          ap router_heads_of now ∙ ap (λ c. map router_head (site_in s).routers ++ own_router c) opened
          ∙ ap (λ hs. hs ++ []) (completed_routers s.site s.current);
    }
one_step s t false None e f =
    let now = details s t e in
    record {
      interfaces =
          ap heads_of now ∙ ap (λ hs. map interface_head s.site.interfaces ++ hs) (same_interface s.site.interfaces (says_of t) s.current)
          ∙ sym (append-nil (heads_of s));
      routers =
          ap router_heads_of now ∙ ap (λ hs. map router_head s.site.routers ++ hs) (same_router s.site.interfaces (says_of t) s.current)
          ∙ sym (append-nil (router_heads_of s));
    }

split_heads : {X : Type 0} (f : Opener → X) (p : Opener → Bool) (xs ys : List Opener) → map f (filter p xs) ++ map f (filter p ys) ≡ map f (filter p (xs ++ ys))
split_heads f p xs ys = sym (ap (map f) (filter-append p xs ys) ∙ map-append f (filter p xs) (filter p ys))

joined : {X : Type 0} (f : Opener → X) (p : Opener → Bool) (xs ys : List Opener) (before now new : List X) → now ≡ before ++ map f (filter p xs) → new ≡ now ++ map f (filter p ys) → new ≡ before ++ map f (filter p (xs ++ ys))
joined f p xs ys before now new first second =
    second ∙ ap (λ hs. hs ++ map f (filter p ys)) first ∙ append_assoc before (map f (filter p xs)) (map f (filter p ys)) ∙ ap (λ hs. before ++ hs) (split_heads f p xs ys)

cons_found : (o : Option Opener) (xs : List Opener) → option_to_list o ++ xs ≡ cons_option o xs
cons_found None xs = refl
cons_found (Some x) xs = refl

all_steps : (s : Draft) (all : List Statement) → HasGrown (filter_map opener all) s (later s all)
all_steps s [] = record { interfaces = sym (append-nil (heads_of s)); routers = sym (append-nil (router_heads_of s)) }
all_steps s (t ∷ all) =
    let one = one_step s t (opens (parts t.words)) (opener t) refl refl in
    let rest = all_steps (step s t) all in
    let more = cons_found (opener t) (filter_map opener all) in
    record {
      interfaces =
          joined interface_head_by is_interface_opener (option_to_list (opener t)) (filter_map opener all) (heads_of s) (heads_of (step s t)) (heads_of (later (step s t) all)) one.interfaces rest.interfaces
          ∙ ap (λ os. heads_of s ++ map interface_head_by (filter is_interface_opener os)) more;
      routers =
          joined router_head_by is_router_opener (option_to_list (opener t)) (filter_map opener all) (router_heads_of s) (router_heads_of (step s t)) (router_heads_of (later (step s t) all)) one.routers rest.routers
          ∙ ap (λ os. router_heads_of s ++ map router_head_by (filter is_router_opener os)) more;
    }

pub connections_are_of_their_statements : ConnectionsAreOfTheirStatements
connections_are_of_their_statements d all =
    let grown = all_steps (start d) all in
    let last = later (start d) all in
    record {
      interfaces = completed_interfaces last.site last.current ∙ grown.interfaces;
      routers = completed_routers last.site last.current ∙ grown.routers;
    }
