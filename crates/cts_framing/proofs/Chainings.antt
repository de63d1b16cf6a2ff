-- The framings of a site's makers.
use Rattle.std.proofs.Common.{◌≡◌, ℕ, suc, ◌+◌, ◌*◌, ◌<◌, ◌≤◌, Bool, true, false, ◌&&◌, ◌||◌, cond, List, [], ◌∷◌, length, map, filter, refl, ◌∙◌, ap, arith, Some}
use Rattle.std.specs.Prelude.{nat_le, slice_index_or, slice_get, option_map}
use Rattle.std.specs.List.{list_any}
use native.Mathlib.Decide.{dec_lt}
use Rattle.std.proofs.lemmas.List.{get_or_past, length-map}
use Rattle.std.proofs.lemmas.Option.{slice_get-map, get_or_from_slice_get}
use Rattle.cts_def.specs.Makers.{first_slot, first_desk, router_of}
use Rattle.cts_def.specs.Protocols.{UseData, reads, are_packets_last}
use Rattle.cts_def.specs.Sites.{InterfaceData, RouterData, SiteData}
use Rattle.cts_framing.specs.ChainLaws.{AllMakersHaveTheirChains, ChainsHaveStages}
use Rattle.cts_framing.specs.Chains.{use_framing, framings_of, interface_chains, router_chains, framings_at}
use Rattle.cts_framing.proofs.Fronts.{and_tells, le_tells, lt_test, not_lt_test}

-- those of an interface
pub interface_framings : (site : SiteData) (by : ℕ) → by < first_slot → framings_at site by ≡ framings_of (slice_index_or (interface_chains site) by [])
interface_framings site by h = rw (lt_test by first_slot h) refl

-- ---- which maker has which chain

at_chain : {A : Type 0} (chain : A → List UseData) (xs : List A) (k : ℕ) (x : A) → slice_get xs k ≡ Some x → slice_index_or (map chain xs) k [] ≡ chain x
at_chain chain xs k x h = get_or_from_slice_get (map chain xs) k (chain x) [] (slice_get-map chain xs k ∙ ap (option_map chain) h)

past_chain : {A : Type 0} (chain : A → List UseData) (xs : List A) (k : ℕ) → length xs ≤ k → slice_index_or (map chain xs) k [] ≡ []
past_chain chain xs k h = get_or_past (map chain xs) k [] (omega (arith, h, length-map xs chain))

pub slot_framings : (site : SiteData) (by : ℕ) → first_slot ≤ by → by < first_desk → framings_at site by ≡ framings_of (slice_index_or (router_chains site) (router_of by) [])
slot_framings site by h l = rw (not_lt_test by first_slot h, lt_test by first_desk l) refl

other_framings : (site : SiteData) (by : ℕ) → first_desk ≤ by → framings_at site by ≡ []
other_framings site by h = rw (not_lt_test by first_slot (omega (arith, h)), not_lt_test by first_desk h) refl

router_is : (r s : ℕ) → s < 2 → router_of (first_slot + 2 * r + s) ≡ r
router_is r s h = omega (arith, h)

slot_of : (site : SiteData) (r s : ℕ) → s < 2 → first_slot + 2 * r + s < first_desk → framings_at site (first_slot + 2 * r + s) ≡ framings_of (slice_index_or (router_chains site) r [])
slot_of site r s h l =
    slot_framings site (first_slot + 2 * r + s) (omega arith) l ∙ ap (λ (k : ℕ). framings_of (slice_index_or (router_chains site) k [])) (router_is r s h)

no_router : (site : SiteData) (r s : ℕ) → s < 2 → length site.routers ≤ r → Dec (first_slot + 2 * r + s < first_desk) → framings_at site (first_slot + 2 * r + s) ≡ []
no_router site r s h l (yes few) = slot_of site r s h few ∙ ap framings_of (past_chain (λ (x : RouterData). x.chain) site.routers r l)
no_router site r s h l (no many) = other_framings site (first_slot + 2 * r + s) (omega (arith, many))

pub makers_have_their_chains : AllMakersHaveTheirChains
makers_have_their_chains site = record {
  interface = λ k i h e. interface_framings site k h ∙ ap framings_of (at_chain (λ (x : InterfaceData). x.chain) site.interfaces k i e);
  slot = λ r s router h l e. slot_of site r s h l ∙ ap framings_of (at_chain (λ (x : RouterData). x.chain) site.routers r router e);
  no_interface = λ k h l. interface_framings site k h ∙ ap framings_of (past_chain (λ (x : InterfaceData). x.chain) site.interfaces k l);
  no_router = λ r s h l. no_router site r s h l (dec_lt (first_slot + 2 * r + s) first_desk);
  others = other_framings site;
}

-- ---- how many stages

some_by : (u : UseData) (us : List UseData) (any b : Bool) → (b || any) ≡ true → (any ≡ true → 1 ≤ length us) → 1 ≤ length (cond b (u ∷ us) us)
some_by u us any true e h = omega arith
some_by u us any false e h = h e

some_reads : (uses : List UseData) → list_any reads uses ≡ true → 1 ≤ length (filter reads uses)
some_reads [] h = cc
some_reads (u ∷ uses) h = some_by u (filter reads uses) (list_any reads uses) u.reads h (some_reads uses)

pub few_by : (u : UseData) (us : List UseData) (n : ℕ) (b : Bool) → length us ≤ n → length (cond b (u ∷ us) us) ≤ suc n
few_by u us n true h = omega (arith, h)
few_by u us n false h = omega (arith, h)

pub few_read : (uses : List UseData) → length (filter reads uses) ≤ length uses
few_read [] = omega arith
few_read (u ∷ uses) = few_by u (filter reads uses) (length uses) u.reads (few_read uses)

pub chains_have_stages : ChainsHaveStages
chains_have_stages uses h =
    let a = and_tells (nat_le (length uses) 4 && list_any reads uses) (are_packets_last uses) h in
    let b = and_tells (nat_le (length uses) 4) (list_any reads uses) a.0 in
    let count = length-map (filter reads uses) use_framing in
    (omega (arith, count, some_reads uses b.1), omega (arith, count, few_read uses, le_tells (length uses) 4 b.0))
