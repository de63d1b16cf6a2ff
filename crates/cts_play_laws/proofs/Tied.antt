-- What a hub ties is tied.
use Rattle.std.proofs.Common.{◌≡◌, ℕ, ◌≤◌, ◌<◌, ◌==◌, ◌&&◌, ◌||◌, Bool, true, false, cond, List, [], ◌∷◌, length, map, refl, sym, ◌∙◌, ap, subst, arith, Option, Some, None}
use Rattle.std.specs.Prelude.{filter, nat_le, nat_lt, option_map, slice_get, slice_index_or}
use Rattle.std.specs.List.{list_any}
use Rattle.std.proofs.lemmas.Option.{get_or_from_slice_get, slice_get-map, slice_get_within}
use Rattle.cts_chain.specs.Builds.{use_specs, writes}
use Rattle.cts_def.specs.Items.{is_same}
use Rattle.cts_def.specs.Makers.{first_desk, first_slot, router_of}
use Rattle.cts_def.specs.Protocols.{Burst, Fixed, Length, Preidentified, PreidentifiedData, SpecData, Terminated, UseData, reads}
use Rattle.cts_def.specs.Sites.{InterfaceData, IsSoundSite, RouterData, SiteData, routed_targets}
use Rattle.cts_entry.specs.Workers.{is_slot}
use Rattle.cts_framing.specs.Chains.{framings_of, uses_at}
use Rattle.cts_framing.specs.Rows.{framing_of}
use Rattle.cts_framing.proofs.Chainings.{interface_framings}
use Rattle.cts_framing.proofs.Fronts.{and_tells, le_tells, lt_tells, lt_test, not_lt_test, same_tells}
use Rattle.cts_hub.specs.Ties.{alone, are_same_heads, are_tied, first_missing, same_max, specs_used}
use Rattle.cts_hub.proofs.Equal.{same_is}
use Rattle.cts_hub.proofs.Missing.{targets_there}
use Rattle.cts_ident.specs.Identification.{routes_at}
use Rattle.cts_play_laws.specs.Tying.{HubsAreTied}

at_map : {A B : Type 0} (f : A → B) (xs : List A) (n : ℕ) (a : A) (d : B) → slice_get xs n ≡ Some a → slice_index_or (map f xs) n d ≡ f a
at_map f xs n a d e = get_or_from_slice_get (map f xs) n (f a) d (slice_get-map f xs n ∙ ap (option_map f) e)

-- ---- the one protocol of both

one_spec : (specs : List SpecData) (s : SpecData) → alone specs ≡ Some s → specs ≡ s ∷ []
one_spec [] s h = cc
one_spec (t ∷ []) s h = let same : t ≡ s = cc in ap (λ (u : SpecData). u ∷ []) same
one_spec (t ∷ u ∷ specs) s h = cc

max_is : (a b : Option ℕ) → same_max a b ≡ true → a ≡ b
max_is None None h = refl
max_is None (Some n) h = cc
max_is (Some m) None h = cc
max_is (Some m) (Some n) h = ap Some (same_tells m n h)

heads_are : (d e : PreidentifiedData) → are_same_heads (Preidentified d) (Preidentified e) ≡ true → d ≡ e
heads_are d e h =
    let both = and_tells (is_same d.sync e.sync) (same_max d.max e.max && d.layout == e.layout) h in
    let more = and_tells (same_max d.max e.max) (d.layout == e.layout) both.1 in
    let sync = same_is d.sync e.sync both.0 in
    let max = max_is d.max e.max more.0 in
    let layout = same_tells d.layout e.layout more.1 in
    (λ i. record { sync = sync i; max = max i; layout = layout i })

-- both are PREIDENTIFIED with these parameters
record Fit (written read : Option SpecData) : Type 0 where
  pub heads : PreidentifiedData
  pub written_is : written ≡ Some (Preidentified heads)
  pub read_is : read ≡ Some (Preidentified heads)

fit_heads : (s t : SpecData) → are_same_heads s t ≡ true → Fit (Some s) (Some t)
fit_heads (Preidentified d) (Preidentified e) h = record { heads = d; written_is = refl; read_is = ap (λ (x : PreidentifiedData). Some (Preidentified x)) (sym (heads_are d e h)) }
fit_heads (Preidentified d) (Burst b) h = cc
fit_heads (Preidentified d) (Fixed f) h = cc
fit_heads (Preidentified d) (Length l) h = cc
fit_heads (Preidentified d) (Terminated t) h = cc
fit_heads (Burst b) t h = cc
fit_heads (Fixed f) t h = cc
fit_heads (Length l) t h = cc
fit_heads (Terminated x) t h = cc

fit : (a b : Option SpecData) → are_tied a b ≡ true → Fit a b
fit None b h = cc
fit (Some s) None h = cc
fit (Some s) (Some t) h = fit_heads s t h

-- the framings of a chain of which one protocol reads
one_framing : (us : List UseData) (s : SpecData) → map (λ (u : UseData). u.spec) us ≡ s ∷ [] → map (λ (u : UseData). framing_of u.spec) us ≡ framing_of s ∷ []
one_framing [] s h = cc
one_framing (u ∷ []) s h = let same : u.spec ≡ s = cc in ap (λ (t : SpecData). framing_of t ∷ []) same
one_framing (u ∷ v ∷ us) s h = cc

-- ---- targets

none_missing : (targets names : List (List ℕ)) (name : List ℕ) → first_missing targets names ≡ None → list_any (is_same name) names ≡ true → list_any (is_same name) targets ≡ true
none_missing targets [] name h any = cc
none_missing targets (x ∷ names) name h any = by_there (none_missing targets names name) (list_any (is_same x) targets) refl (is_same name x) refl
  where
    rest_of : (b : Bool) → cond b (first_missing targets names) (Some x) ≡ None → (b ≡ true) × (first_missing targets names ≡ None)
    rest_of true k = (refl, k)
    rest_of false k = cc

    by_there : (first_missing targets names ≡ None → list_any (is_same name) names ≡ true → list_any (is_same name) targets ≡ true) → (b : Bool) → list_any (is_same x) targets ≡ b → (c : Bool) → is_same name x ≡ c → list_any (is_same name) targets ≡ true
    by_there later b e true k =
        let there = (rest_of (list_any (is_same x) targets) h).0 in
        subst (λ (n : List ℕ). list_any (is_same n) targets ≡ true) (sym (same_is name x k)) there
    by_there later b e false k =
        later (rest_of (list_any (is_same x) targets) h).1 (ap (λ (c : Bool). c || list_any (is_same name) names) (sym k) ∙ any)

-- ---- the tie

module _ (above : SiteData) (slot : ℕ) (r : RouterData) (sound : IsSoundSite above) (there : is_slot above slot ≡ true) (at : slice_get above.routers (router_of slot) ≡ Some r) where
  chain_is : uses_at above slot ≡ r.chain
  chain_is =
      let parts = and_tells (nat_le first_slot slot) (nat_lt (router_of slot) (length above.routers)) there in
      let high : first_slot ≤ slot = le_tells first_slot slot parts.0 in
      let router : router_of slot < length above.routers = lt_tells (router_of slot) (length above.routers) parts.1 in
      let low : slot < first_desk = omega (arith, high, router, sound.few_routers) in
      rw (not_lt_test slot first_slot high, lt_test slot first_desk low) (at_map (λ (x : RouterData). x.chain) above.routers (router_of slot) r [] at)

  routes_are : routes_at above.routers (router_of slot) ≡ r.routes
  routes_are = at_map (λ (x : RouterData). x.routes) above.routers (router_of slot) r [] at

pub hubs_are_tied : HubsAreTied
hubs_are_tied above below slot m hub r i sound_above sound_below names there at_router at_interface tie =
    let f = fit (alone (specs_used false r.chain)) (alone (specs_used true i.chain)) tie.1 in
    let written : specs_used false r.chain ≡ Preidentified f.heads ∷ [] = one_spec (specs_used false r.chain) (Preidentified f.heads) f.written_is in
    let read : specs_used true i.chain ≡ Preidentified f.heads ∷ [] = one_spec (specs_used true i.chain) (Preidentified f.heads) f.read_is in
    let within : m < length below.interfaces = slice_get_within below.interfaces m i at_interface in
    let few : m < first_slot = omega (arith, within, sound_below.few_interfaces) in
    let framings : framings_of i.chain ≡ framing_of (Preidentified f.heads) ∷ [] = one_framing (filter reads i.chain) (Preidentified f.heads) read in (
      f.heads,
      record {
        writes = ap (λ (us : List UseData). use_specs (filter writes us)) (chain_is above slot r sound_above there at_router) ∙ written;
        hearer = record {
          few = few;
          is_interface = lt_test m (length below.interfaces) within;
          chain = interface_framings below m few ∙ (ap framings_of (at_map (λ (x : InterfaceData). x.chain) below.interfaces m i [] at_interface) ∙ framings);
          definitions = sym tie.2;
          names = names;
        };
        targets = λ name any.
            subst (λ (ts : List (List ℕ)). list_any (is_same name) ts ≡ true) (sym (targets_there below.interfaces m i at_interface))
            (none_missing i.targets (routed_targets above.interfaces r.routes) name tie.3
            (subst (λ (rs : List ℕ). list_any (is_same name) (routed_targets above.interfaces rs) ≡ true) (routes_are above slot r sound_above there at_router) any));
      },
    )
