-- The chains of lines, place by place.
use Rattle.std.proofs.Common.{◌≡◌, ◌<◌, ◌≤◌, ℕ, zero, suc, ◌+◌, ◌-◌, ◌*◌, ◌/◌, Bool, true, false, Bor, List, [], ◌∷◌, ◌++◌, length, map, take, set, get_or, refl, sym, ◌∙◌, ap, subst, arith, length-append}
use Rattle.std.specs.List.{flat_map}
use Rattle.std.proofs.lemmas.List.{map-append, take_more, take_more_set, length-set, length-map, get_or-map, get_or_append_left, get_or-append_right, get_or-append-add}
use Rattle.std.proofs.lemmas.List.Concat.{flat_map-cons}
use Rattle.std.proofs.lemmas.Bool.{ltb-true}
use Rattle.cts_def.specs.Makers.{first_desk, first_slot}
use Rattle.cts_def.specs.Protocols.{UseData}
use Rattle.cts_def.specs.Sites.{InterfaceData, IsSoundSite, RouterData, SiteData}
use Rattle.cts_chain.specs.Builds.{AllCanBeBuilt, CanBeBuilt}
use Rattle.cts_connection.specs.LinePlaces.{is_line, line_count, line_place}
use Rattle.cts_connection.proofs.Placing.{slot_tells}
use Rattle.cts_connection.specs.LineChains.{line_chains, twice}
use Rattle.cts_entry.specs.Workers.{is_interface, is_slot}
use Rattle.cts_framing.specs.Chains.{interface_chains, router_chains, uses_at}
use Rattle.cts_framing.proofs.Fronts.{lt_test, not_lt_test}

-- ---- each list twice

twice_count : (xs : List (List UseData)) → length (flat_map twice xs) ≡ 2 * length xs
twice_count [] = refl
twice_count (x ∷ xs) = omega (arith, ap length (flat_map-cons twice x xs), twice_count xs)

twice_at : (xs : List (List UseData)) (n : ℕ) → get_or (flat_map twice xs) n [] ≡ get_or xs (n / 2) []
twice_at [] n = refl
twice_at (x ∷ xs) zero =
    let half : zero / 2 ≡ zero = omega arith in
    ap (λ (l : List (List UseData)). get_or l 0 []) (flat_map-cons twice x xs) ∙ ap (λ (k : ℕ). get_or (x ∷ xs) k []) (sym half)
twice_at (x ∷ xs) (suc zero) =
    let half : suc zero / 2 ≡ zero = omega arith in
    ap (λ (l : List (List UseData)). get_or l 1 []) (flat_map-cons twice x xs) ∙ ap (λ (k : ℕ). get_or (x ∷ xs) k []) (sym half)
twice_at (x ∷ xs) (suc (suc n)) =
    let half : suc (suc n) / 2 ≡ suc (n / 2) = omega arith in
    ap (λ (l : List (List UseData)). get_or l (suc (suc n)) []) (flat_map-cons twice x xs) ∙ (twice_at xs n ∙ ap (λ (k : ℕ). get_or (x ∷ xs) k []) (sym half))

-- ---- the chain of each line stands at its place

module _ (site : SiteData) where
  interfaces_count : length (interface_chains site) ≡ length site.interfaces
  interfaces_count = length-map site.interfaces (λ (i : InterfaceData). i.chain)

  routers_count : length (router_chains site) ≡ length site.routers
  routers_count = length-map site.routers (λ (r : RouterData). r.chain)

  pub chains_count : length (line_chains site) ≡ line_count site
  chains_count = omega (arith, length-append (interface_chains site) (flat_map twice (router_chains site)), interfaces_count, twice_count (router_chains site), routers_count)

  pub interface_at : (place : ℕ) (x : InterfaceData) → place < length site.interfaces → x ≡ get_or site.interfaces place x → x.chain ≡ get_or (line_chains site) place []
  interface_at place x m e =
      let within : place < length (interface_chains site) = omega (arith, m, interfaces_count) in
      sym (get_or_append_left (interface_chains site) (flat_map twice (router_chains site)) [] place within ∙ (get_or-map (λ (i : InterfaceData). i.chain) site.interfaces place x [] m ∙ ap (λ (i : InterfaceData). i.chain) (sym e)))

  pub router_at : (place : ℕ) (x : RouterData) → length site.interfaces ≤ place → place < line_count site → x ≡ get_or site.routers ((place - length site.interfaces) / 2) x → x.chain ≡ get_or (line_chains site) place []
  router_at place x past m e =
      let k = (place - length site.interfaces) / 2 in
      let few : k < length site.routers = omega (arith, m, past) in
      sym (get_or-append_right (interface_chains site) (flat_map twice (router_chains site)) (length site.interfaces) place [] interfaces_count past
      ∙ (twice_at (router_chains site) (place - length site.interfaces) ∙ (get_or-map (λ (r : RouterData). r.chain) site.routers k x [] few ∙ ap (λ (r : RouterData). r.chain) (sym e))))

  at_line : (by : ℕ) (b : Bool) → IsSoundSite site → is_interface site by ≡ b → is_line site by ≡ true → get_or (line_chains site) (line_place site by) [] ≡ uses_at site by
  at_line by true sound e line =
      let m : by < length site.interfaces = ltb-true by (length site.interfaces) e in
      let within : by < length (interface_chains site) = omega (arith, m, interfaces_count) in
      rw (e, lt_test by first_slot (omega (arith, m, sound.few_interfaces))) (get_or_append_left (interface_chains site) (flat_map twice (router_chains site)) [] by within)
  at_line by false sound e line =
      let slot : is_slot site by ≡ true = grind arith in
      let s = slot_tells site by slot in
      let low : by < first_desk = omega (arith, s, sound.few_routers) in
      let place : length site.interfaces + (by - first_slot) ≡ length (interface_chains site) + (by - first_slot) = ap (λ (n : ℕ). n + (by - first_slot)) (sym interfaces_count) in
      rw (e, not_lt_test by first_slot s.0, lt_test by first_desk low) (ap (λ (n : ℕ). get_or (line_chains site) n []) place
      ∙ (get_or-append-add (interface_chains site) (flat_map twice (router_chains site)) (by - first_slot) [] ∙ twice_at (router_chains site) (by - first_slot)))

  pub line_chain : (by : ℕ) → IsSoundSite site → is_line site by ≡ true → get_or (line_chains site) (line_place site by) [] ≡ uses_at site by
  line_chain by sound line = at_line by (is_interface site by) sound refl line

-- ---- they are gathered one by one

-- what the slices hold
abbrev pub held : List (Bor (List UseData)) → List (List UseData)
held chains = map (λ (uses : Bor (List UseData)). uses.now) chains

can_snoc : (chains : List (List UseData)) (uses : List UseData) → AllCanBeBuilt chains → CanBeBuilt uses → AllCanBeBuilt (chains ++ uses ∷ [])
can_snoc [] uses all one = (one, tt)
can_snoc (c ∷ chains) uses all one = (all.0, can_snoc chains uses all.1 one)

-- the chains of the first lines stand in their places
abbrev pub AreSet : SiteData → List (Bor (List UseData)) → ℕ → Type 0
AreSet site chains i = (length chains ≡ 24) × (held (take i chains) ≡ take i (line_chains site)) × AllCanBeBuilt (take i (line_chains site))

pub set_next : (site : SiteData) (chains : List (Bor (List UseData))) (i : ℕ) (uses : Bor (List UseData)) → line_count site ≤ 24 → i < line_count site → uses.now ≡ get_or (line_chains site) i [] → CanBeBuilt uses.now
    → AreSet site chains i → AreSet site (set chains i uses) (i + 1)
set_next site chains i uses few m e can are =
    let lists = line_chains site in
    let next : take (i + 1) lists ≡ take i lists ++ uses.now ∷ [] = take_more lists i [] (omega (arith, m, chains_count site)) ∙ ap (λ (u : List UseData). take i lists ++ u ∷ []) (sym e) in
    let set_at : held (take (i + 1) (set chains i uses)) ≡ held (take i chains) ++ uses.now ∷ [] = ap held (take_more_set chains i uses (omega (arith, m, few, are.0))) ∙ map-append (λ (u : Bor (List UseData)). u.now) (take i chains) (uses ∷ []) in (
      length-set chains i uses ∙ are.0,
      set_at ∙ (ap (λ (us : List (List UseData)). us ++ uses.now ∷ []) are.1 ∙ sym next),
      subst AllCanBeBuilt (sym next) (can_snoc (take i lists) uses.now are.2 can),
    )
