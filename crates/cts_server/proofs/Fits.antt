-- The chains and doors of a site fit its workers.
use Rattle.std.proofs.Common.{◌≡◌, ℕ, zero, suc, ◌+◌, ◌-◌, ◌*◌, ◌/◌, ◌<◌, ◌≤◌, true, false, List, [], ◌∷◌, length, map, drop, get_or, Option}
use Rattle.std.proofs.Common.{refl, sym, ◌∙◌, ap, subst, arith, length-drop}
use Rattle.std.specs.List.{flat_map}
use Rattle.std.proofs.lemmas.List.{get_or-drop, length-map, length-replicate}
use Rattle.std.proofs.lemmas.Bool.{and_from, le-leb, lt-ltb, le-ltb}
use Rattle.cts_chain.specs.Builds.{AreFresh, IsFresh}
use Rattle.cts_chain.specs.Shapes.{ChainData}
use Rattle.cts_connection.specs.LinePlaces.{is_line, line_place}
use Rattle.cts_connection.specs.LineChains.{line_chains}
use Rattle.cts_connection.proofs.Supplying.{chains_count, line_chain}
use Rattle.cts_def.specs.Makers.{first_desk, first_slot, router_of}
use Rattle.cts_def.specs.Protocols.{UseData}
use Rattle.cts_def.specs.Sites.{IsSoundSite, RouterData, SiteData}
use Rattle.cts_entry.specs.Workers.{is_desk, is_interface, is_slot}
use Rattle.cts_framing.specs.Chains.{uses_at}
use Rattle.cts_server.specs.Aims.{desk_aims, door_aim, interface_aim, line_aims, router_aims, slot_aims}
use Rattle.cts_server.specs.Making.{AreFit, FitsDesk, FitsLine}

-- ---- how many aims there are

pub line_aims_count : (site : SiteData) → length (line_aims site) ≡ length site.interfaces
line_aims_count site = length-map site.interfaces interface_aim

two_each : (rs : List RouterData) → length (flat_map router_aims rs) ≡ 2 * length rs
two_each [] = refl
two_each (r ∷ rs) = let h = two_each rs in omega (arith, h)

pub slot_aims_count : (site : SiteData) → length (slot_aims site) ≡ 2 * length site.routers
slot_aims_count site = two_each site.routers

pub desk_aims_count : (site : SiteData) → length (desk_aims site) ≡ site.desks
desk_aims_count site = length-replicate site.desks (door_aim site.api_port)

-- ---- chains

module _ {A C : Type 0} (shape : C → ChainData) (site : SiteData) where
  fit_run : (by : ℕ) (aims : List A) (us : List (List UseData)) (cs : List C) → length aims ≤ length us
      → ((j : ℕ) → j < length aims → (is_line site (by + j) ≡ true) × (get_or us j [] ≡ uses_at site (by + j)))
      → AreFresh us (map shape cs) → AreFit (λ (n : ℕ) (c : C). FitsLine site n (shape c)) by aims cs
  fit_run by [] us cs few at fresh = tt
  fit_run by (a ∷ aims) [] cs few at fresh = absurd (omega (arith, few))
  fit_run by (a ∷ aims) (u ∷ us) [] few at fresh = absurd fresh
  fit_run by (a ∷ aims) (u ∷ us) (c ∷ cs) few at fresh =
      let here = at 0 (omega arith) in
      let line : is_line site by ≡ true = subst (λ (n : ℕ). is_line site n ≡ true) (omega arith) here.0 in
      let none : by + 0 ≡ by = omega arith in
      let uses : u ≡ uses_at site by = here.1 ∙ ap (uses_at site) none in (
        (line, subst (λ (l : List UseData). IsFresh l (shape c)) uses fresh.0),
        fit_run (by + 1) aims us cs (omega (arith, few))
            (λ j lt.
            let next = at (suc j) (omega (arith, lt)) in
            let n : by + suc j ≡ by + 1 + j = omega arith in
            (subst (λ (k : ℕ). is_line site k ≡ true) n next.0, subst (λ (k : ℕ). get_or us j [] ≡ uses_at site k) n next.1))
            fresh.1,
      )

module _ {C : Type 0} (shape : C → ChainData) where
  fresh_drop : (n : ℕ) (us : List (List UseData)) (cs : List C) → AreFresh us (map shape cs) → AreFresh (drop n us) (map shape (drop n cs))
  fresh_drop zero us cs fresh = fresh
  fresh_drop (suc n) [] [] fresh = tt
  fresh_drop (suc n) [] (c ∷ cs) fresh = absurd fresh
  fresh_drop (suc n) (u ∷ us) [] fresh = absurd fresh
  fresh_drop (suc n) (u ∷ us) (c ∷ cs) fresh = fresh_drop n us cs fresh.1

module _ (site : SiteData) where
  pub interface_tells : (j : ℕ) → j < length site.interfaces → is_interface site j ≡ true
  interface_tells j lt = lt-ltb j (length site.interfaces) lt

  slot_tells : (j : ℕ) → j < 2 * length site.routers → is_slot site (first_slot + j) ≡ true
  slot_tells j lt =
      let half : router_of (first_slot + j) ≡ j / 2 = ap (λ (n : ℕ). n / 2) (omega arith) in
      and_from _ _ (le-leb first_slot (first_slot + j) (omega arith)) (lt-ltb (router_of (first_slot + j)) (length site.routers) (omega (arith, lt, half)))

  pub no_interface : (j : ℕ) → length site.interfaces ≤ 16 → is_interface site (first_slot + j) ≡ false
  no_interface j few = le-ltb (first_slot + j) (length site.interfaces) (omega (arith, few))

  pub desk_tells : (j : ℕ) → j < site.desks → is_desk site (first_desk + j) ≡ true
  desk_tells j lt = and_from _ _ (le-leb first_desk (first_desk + j) (omega arith)) (lt-ltb (first_desk + j - first_desk) site.desks (omega (arith, lt)))

  place_of_line : (j : ℕ) → is_interface site j ≡ true → line_place site j ≡ j
  place_of_line j e = rw e refl

  place_of_slot : (j : ℕ) → is_interface site (first_slot + j) ≡ false → line_place site (first_slot + j) ≡ length site.interfaces + j
  place_of_slot j e = rw e (ap (λ (n : ℕ). length site.interfaces + n) (omega arith))

module _ {C : Type 0} (shape : C → ChainData) (site : SiteData) (cs : List C) (sound : IsSoundSite site)
    (fresh : AreFresh (line_chains site) (map shape cs)) where
  pub lines_fit : AreFit (λ (n : ℕ) (c : C). FitsLine site n (shape c)) 0 (line_aims site) cs
  lines_fit =
      fit_run shape site 0 (line_aims site) (line_chains site) cs (let c = chains_count site in let n = line_aims_count site in omega (arith, c, n))
      (λ j lt.
      let few : j < length site.interfaces = let n = line_aims_count site in omega (arith, lt, n) in
      let is = interface_tells site j few in
      let line : is_line site j ≡ true = grind (arith, is) in
      let uses : get_or (line_chains site) j [] ≡ uses_at site j = ap (λ (n : ℕ). get_or (line_chains site) n []) (sym (place_of_line site j is))
      ∙ line_chain site j sound line in
      let n : j ≡ 0 + j = omega arith in
      (subst (λ (k : ℕ). is_line site k ≡ true) n line, uses ∙ ap (uses_at site) n))
      fresh

  pub slots_fit : AreFit (λ (n : ℕ) (c : C). FitsLine site n (shape c)) first_slot (slot_aims site) (drop (length (line_aims site)) cs)
  slots_fit =
      let n = length site.interfaces in
      subst (λ (k : ℕ). AreFit (λ (m : ℕ) (c : C). FitsLine site m (shape c)) first_slot (slot_aims site) (drop k cs)) (sym (line_aims_count site))
      (fit_run shape site first_slot (slot_aims site) (drop n (line_chains site)) (drop n cs)
      (let c = chains_count site in let m = slot_aims_count site in let d = length-drop n (line_chains site) in omega (arith, c, m, d))
      (λ j lt.
      let few : j < 2 * length site.routers = let m = slot_aims_count site in omega (arith, lt, m) in
      let is = slot_tells site j few in
      let no = no_interface site j sound.few_interfaces in
      let line : is_line site (first_slot + j) ≡ true = grind (arith, is) in (
        line,
        get_or-drop n (line_chains site) j [] ∙ ap (λ (k : ℕ). get_or (line_chains site) k []) (sym (place_of_slot site j no)) ∙ line_chain site
            (first_slot + j) sound line,
      ))
      (fresh_drop shape n (line_chains site) cs fresh))

-- ---- doors

doors_run : {A Q : Type 0} (site : SiteData) (by : ℕ) (aims : List A) (doors : List (Option Q))
    → ((j : ℕ) → j < length aims → is_desk site (by + j) ≡ true) → length aims ≤ length doors → AreFit (FitsDesk site) by aims doors
doors_run site by [] doors desks few = tt
doors_run site by (a ∷ aims) [] desks few = absurd (omega (arith, few))
doors_run site by (a ∷ aims) (d ∷ doors) desks few =
    let here : is_desk site by ≡ true = subst (λ (n : ℕ). is_desk site n ≡ true) (omega arith) (desks 0 (omega arith)) in (
      here,
      doors_run site (by + 1) aims doors (λ j lt. subst (λ (n : ℕ). is_desk site n ≡ true) (omega arith) (desks (suc j) (omega (arith, lt))))
          (omega (arith, few)),
    )

pub desks_fit : {Q : Type 0} (site : SiteData) (doors : List (Option Q)) → IsSoundSite site → length doors ≡ 4
    → AreFit (FitsDesk site) first_desk (desk_aims site) doors
desks_fit site doors sound four =
    let n = desk_aims_count site in
    doors_run site first_desk (desk_aims site) doors (λ j lt. desk_tells site j (omega (arith, lt, n))) (omega (arith, n, four, sound.few_desks))
