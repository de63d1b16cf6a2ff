-- What is kept beside the entries stands for one entry more.
use Rattle.std.proofs.Common.{◌≡◌, ◌≢◌, ◌∷◌, [], ◌++◌, ℕ, zero, suc, ◌<◌, ◌≤◌, Bool, true, false, List, length, set, take, refl, sym, ◌∙◌, ap, subst, arith, Option, Some, None, unwrap_or, replicate}
use Rattle.std.specs.Prelude.{◌==◌, if◌then◌else◌, slice_get}
use Rattle.std.proofs.lemmas.Grind.{common_steps}
use Rattle.cts_def.specs.Most.{most_sets}
use Rattle.cts_def.specs.Sites.{SiteData, IsSoundSite}
use Rattle.cts_entry.specs.declared.entry.Entry.{Entry}
use Rattle.cts_entry.specs.declared.what.What.{What}
use Rattle.cts_entry.specs.declared.what.What.TheVariants.{Opened, Packet, Closed, Command, SetLimits, Enable, LimitsSetIs, Injected, Unrouted, Stop, Ended}
use Rattle.cts_entry.specs.Histories.{connects, connects_maker, entries_for, is_connected, or_earlier, latest}
use Rattle.cts_entry.proofs.Appending.{connected-append}
use Rattle.cts_monitor.specs.Places.{room_at, room_for}
use Rattle.cts_monitor.specs.Sets.{known_sets, set_named, sets_known, with_named}
use Rattle.cts_monitor.specs.Watcher.{WatcherData, WatcherTells}
use Rattle.cts_monitor.proofs.SetSteps.{all_append}
use Rattle.cts_monitor.proofs.PlaceSteps.{get_last}
use Rattle.cts_monitor.proofs.WatcherSteps.{beyond, tells_spare}
use Rattle.cts_table.specs.Connected.{MakersTell, most_makers, noted_maker, told_open}
use Rattle.cts_table.specs.Keeping.{AllOfSite, IsOfSite, IsSaid}
use Rattle.cts_table.specs.Kept.{AllTell}
use Rattle.cts_table.specs.Marking.{MarksData, begun_marks, noted, with_one}
use Rattle.cts_table.proofs.MarkSteps.{begun_tells, each_all, each_of, each_with, past_is, tells_noted, with_long}
use Rattle.cts_table.proofs.Owing.{maker_small}

-- ---- who is connected

connected_more : (by : ℕ) (h : List Entry) (e : Entry) (o : Option Bool) → connects_maker by e ≡ o → is_connected by (h ++ e ∷ []) ≡ unwrap_or (or_earlier o (latest (connects_maker by) h)) false
connected_more by h e o is = connected-append by h (e ∷ []) ∙ ap (λ (x : Option Bool). unwrap_or (or_earlier x (latest (connects_maker by) h)) false) is

other_maker : (n m : ℕ) → m ≢ n → (n == m) ≡ false
other_maker n m d = grind (arith, common_steps)

same_maker : (n : ℕ) → (n == n) ≡ true
same_maker n = grind (arith, common_steps)

abbrev untold : Option Bool
untold = None

if_none : (b : Bool) → (if b then untold else untold) ≡ untold
if_none true = refl
if_none false = refl

pub makers_noted : (h : List Entry) (e : Entry) (bs : List Bool) → MakersTell h bs → MakersTell (h ++ e ∷ []) (noted_maker e bs)
makers_noted h e bs t = by_told (connects e.what) refl
  where
    by_told : (o : Option Bool) → connects e.what ≡ o → MakersTell (h ++ e ∷ []) (told_open o e.by bs)
    by_told None is = record {
      long = t.long;
      open_is = each_all (λ by b. b ≡ is_connected by h) (λ by b. b ≡ is_connected by (h ++ e ∷ [])) bs
          (λ by b q. q ∙ sym (connected_more by h e None (ap (λ (o : Option Bool). if e.by == by then o else None) is ∙ if_none (e.by == by)))) t.open_is;
    }
    by_told (Some v) is = record {
      long = with_long bs e.by (λ _. v) ∙ t.long;
      open_is = each_with (λ by b. b ≡ is_connected by h) (λ by b. b ≡ is_connected by (h ++ e ∷ [])) bs e.by (λ _. v)
          (λ by b d q. q ∙ sym (connected_more by h e None (ap (λ (x : Bool). if x then connects e.what else None) (other_maker e.by by d))))
          (λ b q. sym (connected_more e.by h e (Some v) (ap (λ (x : Bool). if x then connects e.what else None) (same_maker e.by) ∙ is))) t.open_is;
    }

pub makers_begun : MakersTell [] (replicate most_makers false)
makers_begun = record { long = refl; open_is = each_of (λ by b. b ≡ is_connected by []) most_makers false (λ by. refl) }

-- a number that is no maker's
none_open : (by : ℕ) (h : List Entry) → latest (connects_maker by) h ≡ None → is_connected by h ≡ false
none_open by h is = ap (λ (o : Option Bool). unwrap_or o false) is

foreign_from : (site : SiteData) (by : ℕ) (before h : List Entry) → IsSoundSite site → AllOfSite site before h → most_makers ≤ by → latest (connects_maker by) h ≡ None
foreign_from site by before [] sound all le = refl
foreign_from site by before (e ∷ es) sound all le =
    let small : e.by < 32 = maker_small site e.by sound all.0.maker in
    let rest = foreign_from site by (before ++ e ∷ []) es sound all.1 le in
    let here : connects_maker by e ≡ None = ap (λ (x : Bool). if x then connects e.what else None) (other_maker e.by by (λ same. absurd (omega (arith, same, small, le)))) in
    rw (rest, here) refl

pub open_is_connected : (site : SiteData) (by : ℕ) (h : List Entry) (bs : List Bool) → IsSoundSite site → AllOfSite site [] h → MakersTell h bs → unwrap_or (slice_get bs by) false ≡ is_connected by h
open_is_connected site by h bs sound all t = by_there (slice_get bs by) refl
  where
    by_there : (o : Option Bool) → slice_get bs by ≡ o → unwrap_or o false ≡ is_connected by h
    by_there (Some b) is = t.open_is by b is
    by_there None is = let over = beyond bs by is in let l = t.long in sym (none_open by h (foreign_from site by [] h sound all (omega (arith, over, l))))

-- ---- how many sets are known

pub few_named : (site : SiteData) (before : List Entry) (by : ℕ) (what : What) → length (known_sets site before) ≤ most_sets → IsSaid site before by what → length (with_named (known_sets site before) (set_named what)) ≤ most_sets
few_named site before by Opened few s = few
few_named site before by (Packet ident stored bytes) few s = few
few_named site before by (Closed why loss unposted unsent) few s = few
few_named site before by (Command interface command bytes) few s = few
few_named site before by (SetLimits enabled packet item persistence set limits) few s = s.2
few_named site before by (Enable packet item enabled) few s = few
few_named site before by (LimitsSetIs set) few s = few
few_named site before by (Injected packet bytes) few s = few
few_named site before by (Unrouted why bytes) few s = few
few_named site before by Stop few s = few
few_named site before by Ended few s = few

pub few_sets : (site : SiteData) (h : List Entry) (e : Entry) → sets_known site h ≤ most_sets → IsOfSite site h e → sets_known site (h ++ e ∷ []) ≤ most_sets
few_sets site h e few of = subst (λ (k : List (List ℕ)). length k ≤ most_sets) (sym (all_append site.definitions.set_names h e)) (few_named site h e.by e.what few of.said)

-- ---- all of it

pub all_noted : (site : SiteData) (h : List Entry) (e : Entry) (m : MarksData) (o : List Bool) (w : WatcherData) (n : MarksData) (p : List Bool) (v : WatcherData) → n ≡ noted site (length h) e m → p ≡ noted_maker e o →
    WatcherTells site (h ++ e ∷ []) v → IsOfSite site h e → AllTell site h m o w → AllTell site (h ++ e ∷ []) n p v
all_noted site h e m o w n p v nn pp tells of t = record { marks = rw nn (tells_noted site h e m t.marks); makers = rw pp (makers_noted h e o t.makers); watcher = tells; sets = few_sets site h e t.sets of }

pub all_begun : (site : SiteData) (m : MarksData) (o : List Bool) (w : WatcherData) → m ≡ begun_marks site → o ≡ replicate most_makers false → WatcherTells site [] w → sets_known site [] ≤ most_sets → AllTell site [] m o w
all_begun site m o w mm oo tells few = record { marks = rw mm (begun_tells site); makers = rw oo makers_begun; watcher = tells; sets = few }

pub all_spare : (site : SiteData) (h : List Entry) (m : MarksData) (o : List Bool) (w : WatcherData) (s : ℕ) → AllTell site h m o w → AllTell site h m o (record w { spare = s })
all_spare site h m o w s t = record { marks = t.marks; makers = t.makers; watcher = tells_spare site h w s t.watcher; sets = t.sets }

-- ---- the last entry

pub last_room : (h : List Entry) (e : Entry) → room_at (h ++ e ∷ []) (length h) ≡ entries_for e.what
last_room h e = ap room_for (get_last h e)

pub take_first : {A : Type 0} (h : List A) (e : A) → take (length h) (h ++ e ∷ []) ≡ h
take_first [] e = refl
take_first (x ∷ h) e = ap (λ xs. x ∷ xs) (take_first h e)

-- ---- a write

pub wrote : (bs whole : List Bool) (by : ℕ) (b : Bool) → by < length bs → bs ≡ whole → set bs by b ≡ with_one whole by (λ _. b)
wrote bs whole by b within same = set_to bs by within ∙ ap (λ xs. with_one xs by (λ _. b)) same
  where
    set_to : (xs : List Bool) (i : ℕ) → i < length xs → set xs i b ≡ with_one xs i (λ _. b)
    set_to [] i lt = absurd (omega arith)
    set_to (x ∷ xs) zero lt = refl
    set_to (x ∷ xs) (suc i) lt = ap (λ ys. x ∷ ys) (set_to xs i (omega arith))

pub skipped : (bs whole : List Bool) (by : ℕ) (b : Bool) → length bs ≤ by → bs ≡ whole → whole ≡ with_one whole by (λ _. b)
skipped bs whole by b over same = sym same ∙ sym (past_is bs by (λ _. b) over) ∙ ap (λ xs. with_one xs by (λ _. b)) same
