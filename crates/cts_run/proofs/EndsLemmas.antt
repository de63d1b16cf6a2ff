-- What the words of a hub name is there.
use Rattle.std.proofs.Common.{◌≡◌, ◌≤◌, ◌<◌, ◌+◌, ◌-◌, ◌*◌, ◌/◌, ◌&&◌, ℕ, Bool, true, false, cond, List, length, take, drop, Option, Some, None, refl, sym, subst, arith}
use Rattle.std.specs.Prelude.{nat_le, nat_lt, slice_index, ℤ, pos, negsuc}
use Rattle.std.specs.List.{position, position_or_len}
use Rattle.cts_base.specs.Names.{spells}
use Rattle.cts_base.specs.Wholes.{whole_of}
use Rattle.cts_def.specs.Makers.{first_slot, router_of}
use Rattle.cts_def.specs.Sites.{InterfaceData, RouterData, SiteData}
use Rattle.cts_entry.specs.Workers.{is_slot}
use Rattle.cts_framing.proofs.Fronts.{and_tells, le_test, le_tells, lt_test, lt_tells}
use Rattle.cts_run.specs.Hub.{cut_number, ends_by, ends_of, up_to_cut}
use Rattle.cts_run.specs.Tie.{TieData}
use Rattle.cts_run.specs.declared.hub.ends.Ends.{Ends}
use Rattle.cts_scriptread.specs.Makers.{both, interface_named, router_named, side_of, slot_named, slot_number}
use Rattle.std.specs.Str.{bytes_eq}
use Rattle.std.specs.Prelude.{codes}

-- ---- places of names

same_some : {X : Type 0} (a b : X) → Some a ≡ Some b → a ≡ b
same_some a b e = cc e

within_by : (b : Bool) (k n l : ℕ) → nat_lt k l ≡ b → cond b (Some k) None ≡ Some n → n < l
within_by true k n l e h = subst (λ (m : ℕ). m < l) (same_some k n h) (lt_tells k l e)
within_by false k n l e h = absurd (cc h)

position_within : {X : Type 0} (p : X → Bool) (xs : List X) (n : ℕ) → position p xs ≡ Some n → n < length xs
position_within p xs n h = within_by (nat_lt (position_or_len p xs) (length xs)) (position_or_len p xs) n (length xs) refl h

pub interface_there : (site : SiteData) (word : List ℕ) (n : ℕ) → interface_named site word ≡ Some n → n < length site.interfaces
interface_there site word n h = position_within (λ (i : InterfaceData). spells word i.name) site.interfaces n h

side_by : (a b : Bool) (s : ℕ) → cond a (Some 0) (cond b (Some 1) None) ≡ Some s → s < 2
side_by true b s h = subst (λ (n : ℕ). n < 2) (same_some 0 s h) (omega arith)
side_by false true s h = subst (λ (n : ℕ). n < 2) (same_some 1 s h) (omega arith)
side_by false false s h = absurd (cc h)

side_small : (end : List ℕ) (s : ℕ) → side_of end ≡ Some s → s < 2
side_small end s h = side_by (bytes_eq end (codes "/0")) (bytes_eq end (codes "/1")) s h

router_is : (s r slot : ℕ) → 16 + 2 * r + s ≡ slot → s < 2 → (slot - 16) / 2 ≡ r
router_is s r slot e h = omega (arith, e, h)

slot_by : (site : SiteData) (s r slot : ℕ) → 16 + 2 * r + s ≡ slot → s < 2 → r < length site.routers → is_slot site slot ≡ true
slot_by site s r slot e small within =
    let high : first_slot ≤ slot = omega (arith, e) in
    let there : router_of slot < length site.routers = subst (λ (n : ℕ). n < length site.routers) (sym (router_is s r slot e small)) within in
    rw (le_test first_slot slot high, lt_test (router_of slot) (length site.routers) there) refl

both_there : (site : SiteData) (name end : List ℕ) (slot : ℕ) (s r : Option ℕ) → side_of end ≡ s → router_named site name ≡ r → both slot_number s r ≡ Some slot → is_slot site slot ≡ true
both_there site name end slot None r e f h = absurd (cc h)
both_there site name end slot (Some s) None e f h = absurd (cc h)
both_there site name end slot (Some s) (Some r) e f h =
    slot_by site s r slot (same_some (slot_number s r) slot h) (side_small end s e) (position_within (λ (x : RouterData). spells name x.name) site.routers r f)

pub slot_there : (site : SiteData) (word : List ℕ) (slot : ℕ) → slot_named site word ≡ Some slot → is_slot site slot ≡ true
unfolding slot_named
slot_there site word slot h =
    let n = length word - 2 in
    both_there site (take n word) (drop n word) slot (side_of (drop n word)) (router_named site (take n word)) refl refl h

-- ---- the size of pieces

abbrev pub Fits : ℕ → Type 0
Fits n = (1 ≤ n) × (n ≤ 65536)

fits_by : (m n : ℕ) (b : Bool) → (nat_le 1 m && nat_le m 65536) ≡ b → cond b (Some m) None ≡ Some n → Fits n
fits_by m n true e h =
    let both_so = and_tells (nat_le 1 m) (nat_le m 65536) e in
    subst Fits (same_some m n h) (le_tells 1 m both_so.0, le_tells m 65536 both_so.1)
fits_by m n false e h = absurd (cc h)

whole_fits : (o : Option ℤ) (n : ℕ) → up_to_cut o ≡ Some n → Fits n
whole_fits None n h = absurd (cc h)
whole_fits (Some (pos m)) n h = fits_by m n (nat_le 1 m && nat_le m 65536) refl h
whole_fits (Some (negsuc m)) n h = absurd (cc h)

cut_by : (a b : Bool) (o : Option ℤ) (n : ℕ) → cond a None (cond b None (up_to_cut o)) ≡ Some n → Fits n
cut_by true b o n h = absurd (cc h)
cut_by false true o n h = absurd (cc h)
cut_by false false o n h = whole_fits o n h

cut_fits : (word : List ℕ) (n : ℕ) → cut_number word ≡ Some n → Fits n
unfolding cut_number
cut_fits word n h = cut_by (nat_lt (slice_index word 0) 49) (nat_lt 57 (slice_index word 0)) (whole_of word) n h

ends_fit_by : (s i c : Option ℕ) (ends : Ends) → ((n : ℕ) → c ≡ Some n → Fits n) → ends_by s i c ≡ Some ends → Fits ends.cut
ends_fit_by None i c ends k h = absurd (cc h)
ends_fit_by (Some s) None c ends k h = absurd (cc h)
ends_fit_by (Some s) (Some i) None ends k h = absurd (cc h)
ends_fit_by (Some s) (Some i) (Some c) ends k h = subst (λ (e : Ends). Fits e.cut) (same_some (record { slot = s; interface = i; cut = c }) ends h) (k c refl)

pub ends_fit : (above below : SiteData) (tie : TieData) (ends : Ends) → ends_of above below tie ≡ Some ends → Fits ends.cut
ends_fit above below tie ends h = ends_fit_by (slot_named above tie.who) (interface_named below tie.name) (cut_number tie.cut) ends (cut_fits tie.cut) h
