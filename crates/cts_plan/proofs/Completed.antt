-- A site stays sound with an interface or router that is complete and without fault.
use Rattle.std.proofs.Common.{◌≡◌, ℕ, zero, suc, ◌≤◌, Bool, true, false, cond, ◌&&◌, ◌||◌, List, [], ◌∷◌, ◌++◌, length, map, Option, Some, None, refl, sym, ap, subst, ◌∙◌, nat_lt, arith}
use Rattle.std.specs.Prelude.{nat_le}
use Rattle.std.specs.List.{filter, list_any, list_all, AllByRecursion, IsDistinct}
use Rattle.std.proofs.lemmas.List.{append-nil, map-append}
use Rattle.std.proofs.lemmas.Bool.Decides.{nat_tests}
use Rattle.std.proofs.lemmas.Grind.{flat_map-append}
use Rattle.std.proofs.lemmas.List.Folds.{list_all-append}
use Rattle.cts_words.specs.Refusals.{or_else}
use Rattle.cts_def.specs.Items.{is_same}
use Rattle.cts_def.specs.Most.{most_interfaces, most_protocols, most_routers}
use Rattle.cts_def.specs.Packets.{PacketData, DefinitionsData, is_of}
use Rattle.cts_def.specs.Protocols as spec
use Rattle.cts_def.specs.Protocols.{SpecData}
use Rattle.cts_def.specs.Sites.{InterfaceData, RouterData, SiteData, IsSoundSite, is_known_target, packets_of, targets_at, routed_targets, routes_within, targets_of, IsOfPackets, AreOfPackets}
use Rattle.cts_plan.specs.declared.opened.Current.{Current}
use Rattle.cts_plan.specs.declared.opened.Current.TheVariants as current
use Rattle.cts_plan.specs.declared.fault.SiteCause.{SiteCause}
use Rattle.cts_plan.specs.declared.fault.SiteCause.TheVariants.{ChainTooLong, MinIdSize, VariableLength}
use Rattle.cts_plan.specs.Steps.{StepData, step_reads, added, whole_chain}
use Rattle.cts_plan.specs.Drafts.{InterfaceDraftData, RouterDraftData}
use Rattle.cts_plan.specs.Standing.{starts_of, spec_with, use_of, chain_of, interface_of, router_of, completed}
use Rattle.cts_reader.specs.Reading.{at_line}
use Rattle.cts_plan.specs.Completing.{Refused, is_bad_min_id, have_variable, cause_of_spec, step_fault, first_step_fault, fault_of, fault_in}
use Rattle.cts_plan.specs.Keeping.{IsNewInterface, IsNewRouter, IsNew}
use Rattle.cts_plan.proofs.Lists.{both, and_true, all_snoc, any_map, distinct_snoc}

-- ---- packets of FIXED

any_filter_at : {X : Type 0} (q : X → Bool) (x : X) (xs : List X) (b any : Bool) → list_any q xs ≡ any → list_any q (cond b (x ∷ xs) xs) ≡ ((b && q x) || any)
any_filter_at q x xs true any e = ap (λ c. q x || c) e
any_filter_at q x xs false any e = e

any_filter : {X : Type 0} (p q : X → Bool) (xs : List X) → list_any q (filter p xs) ≡ list_any (λ x. p x && q x) xs
any_filter p q [] = refl
any_filter p q (x ∷ xs) = any_filter_at q x (filter p xs) (p x) (list_any (λ y. p y && q y) xs) (any_filter p q xs)

no_variable_at : (bad variable : Bool) (n : ℕ) (a b : SiteCause) → at_line n (cond bad (Some a) (cond variable (Some b) None)) ≡ None → variable ≡ false
no_variable_at true variable n a b e = absurd cc
no_variable_at false true n a b e = absurd cc
no_variable_at false false n a b e = refl

spec_packets : (d : DefinitionsData) (targets : List (List ℕ)) (n : ℕ) (s : SpecData) → at_line n (cause_of_spec d targets s) ≡ None → IsOfPackets d targets (spec_with d targets s)
spec_packets d targets n (spec.Burst b) e = tt
spec_packets d targets n (spec.Length l) e = tt
spec_packets d targets n (spec.Terminated t) e = tt
spec_packets d targets n (spec.Preidentified p) e = tt
spec_packets d targets n (spec.Fixed f) e =
    let packets = packets_of d f.telemetry in (
      refl,
      any_filter (is_of targets) (λ (p : PacketData). p.variable) packets
          ∙ no_variable_at (is_bad_min_id f (starts_of targets packets)) (have_variable targets packets) n MinIdSize VariableLength e,
    )

pub none_left : {R : Type 0} (a b : Option R) → or_else a b ≡ None → (a ≡ None) × (b ≡ None)
none_left None b e = (refl, e)
none_left (Some r) b e = absurd cc

steps_packets : (d : DefinitionsData) (targets : List (List ℕ)) (ss : List StepData) → first_step_fault d targets ss ≡ None → AreOfPackets d targets (map (use_of d targets) ss)
steps_packets d targets [] e = tt
steps_packets d targets (s ∷ ss) e =
    let right = none_left (step_fault d targets s) (first_step_fault d targets ss) e in
    (spec_packets d targets s.line s.used.spec right.0, steps_packets d targets ss right.1)

chain_at : (d : DefinitionsData) (targets : List (List ℕ)) (ss : List StepData) (b : Bool) → AreOfPackets d targets (map (use_of d targets) ss)
    → AreOfPackets d targets (map (use_of d targets) (cond b ss (ss ++ added ∷ [])))
chain_at d targets ss true h = h
chain_at d targets [] false h = (tt, tt)
chain_at d targets (s ∷ ss) false h = (h.0, chain_at d targets ss false h.1)

right_steps : (b : Bool) (r : Refused) (o : Option Refused) → cond b (Some r) o ≡ None → o ≡ None
right_steps true r o e = absurd cc
right_steps false r o e = e

chain_packets : (d : DefinitionsData) (targets : List (List ℕ)) (n : ℕ) (ss : List StepData) → fault_of d targets n ss ≡ None → AreOfPackets d targets (chain_of d targets ss)
chain_packets d targets n ss e =
    chain_at d targets ss (list_any step_reads ss)
    (steps_packets d targets ss (right_steps (nat_lt most_protocols (length (whole_chain ss))) (n, ChainTooLong) (first_step_fault d targets ss) e))

-- ---- routes, with an interface more

targets_kept : (is : List InterfaceData) (i : InterfaceData) (n : ℕ) → nat_lt n (length is) ≡ true → targets_at (is ++ i ∷ []) n ≡ targets_at is n
targets_kept [] i n e = absurd (grind (arith, nat_tests))
targets_kept (j ∷ is) i zero e = refl
targets_kept (j ∷ is) i (suc n) e = targets_kept is i n (grind arith)

pub routed_kept : (is : List InterfaceData) (i : InterfaceData) (ns : List ℕ) → list_all (λ n. nat_lt n (length is)) ns ≡ true → routed_targets (is ++ i ∷ []) ns ≡ routed_targets is ns
routed_kept is i [] e = refl
routed_kept is i (n ∷ ns) e =
    let parts = both (nat_lt n (length is)) (list_all (λ m. nat_lt m (length is)) ns) e in
    ap (λ ts. ts ++ routed_targets (is ++ i ∷ []) ns) (targets_kept is i n parts.0) ∙ ap (λ ts. targets_at is n ++ ts) (routed_kept is i ns parts.1)

below : (n m : ℕ) → nat_lt n m ≡ true → nat_lt n (suc m) ≡ true
below n m e = grind arith

all_below : (m : ℕ) (ns : List ℕ) → list_all (λ n. nat_lt n m) ns ≡ true → list_all (λ n. nat_lt n (suc m)) ns ≡ true
all_below m [] e = refl
all_below m (n ∷ ns) e =
    let parts = both (nat_lt n m) (list_all (λ k. nat_lt k m) ns) e in
    and_true (nat_lt n (suc m)) (list_all (λ k. nat_lt k (suc m)) ns) (below n m parts.0) (all_below m ns parts.1)

routes_below : (m : ℕ) (rs : List RouterData) → list_all (routes_within m) rs ≡ true → list_all (routes_within (suc m)) rs ≡ true
routes_below m [] e = refl
routes_below m (r ∷ rs) e =
    let parts = both (routes_within m r) (list_all (routes_within m) rs) e in
    and_true (routes_within (suc m) r) (list_all (routes_within (suc m)) rs) (all_below m r.routes parts.0) (routes_below m rs parts.1)

one_longer : {X : Type 0} (xs : List X) (x : X) → length (xs ++ x ∷ []) ≡ suc (length xs)
one_longer [] x = refl
one_longer (y ∷ xs) x = ap suc (one_longer xs x)

packets_kept : (d : DefinitionsData) (is : List InterfaceData) (i : InterfaceData) (rs : List RouterData) → list_all (routes_within (length is)) rs ≡ true
    → AllByRecursion (λ (r : RouterData). AreOfPackets d (routed_targets is r.routes) r.chain) rs
    → AllByRecursion (λ (r : RouterData). AreOfPackets d (routed_targets (is ++ i ∷ []) r.routes) r.chain) rs
packets_kept d is i [] e h = tt
packets_kept d is i (r ∷ rs) e h =
    let parts = both (routes_within (length is) r) (list_all (routes_within (length is)) rs) e in (
      subst (λ ts. AreOfPackets d ts r.chain) (sym (routed_kept is i r.routes parts.0)) h.0,
      packets_kept d is i rs parts.1 h.1,
    )

-- ---- lists with one more

few_more : (n m : ℕ) → nat_le m n ≡ false → suc n ≤ m
few_more n m e = grind arith

names_more : {X : Type 0} (name : X → List ℕ) (xs : List X) (x : X) → IsDistinct is_same (map name xs) → list_any (λ y. is_same (name y) (name x)) xs ≡ false → IsDistinct is_same (map name (xs ++ x ∷ []))
names_more name xs x distinct none =
    subst (IsDistinct is_same) (sym (map-append name xs (x ∷ []))) (distinct_snoc is_same (map name xs) (name x) distinct (any_map (λ y. is_same y (name x)) name xs ∙ none))

targets_more : (is : List InterfaceData) (i : InterfaceData) → targets_of (is ++ i ∷ []) ≡ targets_of is ++ i.targets
targets_more is i = flat_map-append (λ (j : InterfaceData). j.targets) is (i ∷ []) ∙ ap (λ ts. targets_of is ++ ts) (append-nil i.targets)

pub all_joined : {X : Type 0} (p : X → Bool) (xs ys : List X) → list_all p xs ≡ true → list_all p ys ≡ true → list_all p (xs ++ ys) ≡ true
all_joined p xs ys first second = list_all-append p xs ys ∙ and_true (list_all p xs) (list_all p ys) first second

-- ---- the site

pub interface_added : (s : SiteData) (i : InterfaceDraftData) → IsSoundSite s → IsNewInterface s.definitions s.interfaces i.name i.targets → fault_in s (current.Interface i) ≡ None → IsSoundSite (completed s (current.Interface i))
interface_added s i sound new right =
    let is = s.interfaces in
    let more = interface_of s.definitions i in
    let longer : length (is ++ more ∷ []) ≡ suc (length is) = one_longer is more in
    record {
      few_interfaces = subst (λ n. n ≤ most_interfaces) (sym longer) (few_more (length is) most_interfaces new.few);
      few_routers = sound.few_routers;
      interface_names = names_more (λ (j : InterfaceData). j.name) is more sound.interface_names new.name;
      router_names = sound.router_names;
      targets = subst (IsDistinct is_same) (sym (targets_more is more)) new.targets;
      known_targets = ap (list_all (is_known_target s.definitions)) (targets_more is more) ∙ all_joined (is_known_target s.definitions) (targets_of is) i.targets sound.known_targets new.known;
      routes = ap (λ n. list_all (routes_within n) s.routers) longer ∙ routes_below (length is) s.routers sound.routes;
      interface_packets = all_snoc (λ (j : InterfaceData). AreOfPackets s.definitions j.targets j.chain) is more sound.interface_packets (chain_packets s.definitions i.targets i.line i.chain right);
      router_packets = packets_kept s.definitions is more s.routers sound.routes sound.router_packets;
      api_port = sound.api_port;
      some_desks = sound.some_desks;
      few_desks = sound.few_desks;
      log_layout = sound.log_layout;
      log_cycle = sound.log_cycle;
    }

pub router_added : (s : SiteData) (r : RouterDraftData) → IsSoundSite s → IsNewRouter s.interfaces s.routers r.name r.routes → fault_in s (current.Router r) ≡ None → IsSoundSite (completed s (current.Router r))
router_added s r sound new right =
    let rs = s.routers in
    let more = router_of s r in
    record {
      few_interfaces = sound.few_interfaces;
      few_routers = subst (λ n. n ≤ most_routers) (sym (one_longer rs more)) (few_more (length rs) most_routers new.few);
      interface_names = sound.interface_names;
      router_names = names_more (λ (q : RouterData). q.name) rs more sound.router_names new.name;
      targets = sound.targets;
      known_targets = sound.known_targets;
      routes = all_joined (routes_within (length s.interfaces)) rs (more ∷ []) sound.routes (and_true (routes_within (length s.interfaces) more) true new.routes refl);
      interface_packets = sound.interface_packets;
      router_packets = all_snoc (λ (q : RouterData). AreOfPackets s.definitions (routed_targets s.interfaces q.routes) q.chain) rs more sound.router_packets
          (chain_packets s.definitions (routed_targets s.interfaces r.routes) r.line r.chain right);
      api_port = sound.api_port;
      some_desks = sound.some_desks;
      few_desks = sound.few_desks;
      log_layout = sound.log_layout;
      log_cycle = sound.log_cycle;
    }

pub sound_completed : (s : SiteData) (c : Current) → IsSoundSite s → IsNew s.definitions s.interfaces s.routers c → fault_in s c ≡ None → IsSoundSite (completed s c)
sound_completed s current.Nothing sound new right = sound
sound_completed s (current.Interface i) sound new right = interface_added s i sound new right
sound_completed s (current.Router r) sound new right = router_added s r sound new right
