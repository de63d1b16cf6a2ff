-- Each line has its own place.
use Rattle.std.proofs.Common.{◌≡◌, ℕ, ◌+◌, ◌-◌, ◌≤◌, ◌<◌, Bool, true, false, ◌&&◌, length, refl, arith}
use Rattle.std.specs.Prelude.{nat_le, nat_lt}
use Rattle.std.proofs.lemmas.Bool.Decides.{nat_tests}
use Rattle.cts_def.specs.Makers.{first_slot, router_of}
use Rattle.cts_def.specs.Sites.{SiteData}
use Rattle.cts_entry.specs.Workers.{is_interface, is_slot}
use Rattle.cts_connection.specs.Laws.{LinesHavePlaces, PlacesAreApart}
use Rattle.cts_connection.specs.LinePlaces.{is_line, line_count, line_place}

lt_tells : (m n : ℕ) → nat_lt m n ≡ true → m < n
lt_tells m n h = grind (arith, nat_tests)

le_tells : (m n : ℕ) → nat_le m n ≡ true → m ≤ n
le_tells m n h = grind (arith, nat_tests)

both : (a b : Bool) → (a && b) ≡ true → (a ≡ true) × (b ≡ true)
both true b h = (refl, h)
both false b h = cc h

-- what is known of a slot
pub slot_tells : (site : SiteData) (by : ℕ) → is_slot site by ≡ true → (first_slot ≤ by) × (router_of by < length site.routers)
slot_tells site by h =
    let t = both (nat_le first_slot by) (nat_lt (router_of by) (length site.routers)) h in
    (le_tells first_slot by t.0, lt_tells (router_of by) (length site.routers) t.1)

pub slot_of_line : (site : SiteData) (by : ℕ) → is_line site by ≡ true → is_interface site by ≡ false → is_slot site by ≡ true
slot_of_line site by line off = grind arith

there : (site : SiteData) (by : ℕ) (b : Bool) → is_interface site by ≡ b → is_line site by ≡ true → line_place site by < line_count site
there site by true e line = rw e (let m = lt_tells by (length site.interfaces) e in omega (arith, m))
there site by false e line = rw e (let s = slot_tells site by (slot_of_line site by line e) in omega (arith, s))

pub lines_have_places : LinesHavePlaces
lines_have_places site by sound line = there site by (is_interface site by) refl line

apart : (site : SiteData) (by other : ℕ) (b c : Bool) → length site.interfaces ≤ 16 → is_interface site by ≡ b → is_interface site other ≡ c → is_line site by ≡ true → is_line site other ≡ true → line_place site by ≡ line_place site other → by ≡ other
apart site by other true true few e f line more h = rw (e, f) at h
apart site by other true false few e f line more h =
    let p : by ≡ length site.interfaces + (other - first_slot) = rw (e, f) at h in
    let m = lt_tells by (length site.interfaces) e in
    absurd (omega (arith, p, m))
apart site by other false true few e f line more h =
    let p : length site.interfaces + (by - first_slot) ≡ other = rw (e, f) at h in
    let m = lt_tells other (length site.interfaces) f in
    absurd (omega (arith, p, m))
apart site by other false false few e f line more h =
    let p : length site.interfaces + (by - first_slot) ≡ length site.interfaces + (other - first_slot) = rw (e, f) at h in
    let s = slot_tells site by (slot_of_line site by line e) in
    let t = slot_tells site other (slot_of_line site other more f) in
    omega (arith, p, s, t)

pub places_are_apart : PlacesAreApart
places_are_apart site by other sound line more h = apart site by other (is_interface site by) (is_interface site other) sound.few_interfaces refl refl line more h
