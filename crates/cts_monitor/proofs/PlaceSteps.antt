-- The places of what sets stand for one entry more, and what counts is found at them.
use Rattle.std.proofs.Common.{◌≡◌, ◌∷◌, [], ◌++◌, ℕ, zero, suc, ◌+◌, ◌<◌, ◌≤◌, ◌||◌, Bool, true, false, List, length, get_or, take, length-append, refl, sym, ◌∙◌, ap, subst, arith, append-nil, Option, Some, None, unwrap_or}
use Rattle.std.specs.Prelude.{if◌then◌else◌, is_some, slice_get}
use Rattle.std.specs.List.{filter, flat_map, list_any}
use Rattle.std.proofs.lemmas.List.Folds.{list_any-append}
use Rattle.cts_def.specs.Items.{is_same}
use Rattle.cts_def.specs.Packets.{default_set}
use Rattle.cts_def.specs.Sites.{SiteData}
use Rattle.std.specs.Option.{option_or}
use Rattle.std.proofs.lemmas.Grind.{common_steps}
use Rattle.std.proofs.lemmas.List.Elements.{filter-append}
use Rattle.cts_def.specs.declared.limits.Limits.{Limits}
use Rattle.cts_entry.specs.declared.entry.Entry.{Entry}
use Rattle.cts_entry.specs.declared.what.What.{What}
use Rattle.cts_entry.specs.Histories.{entries_for, or_earlier, latest}
use Rattle.cts_monitor.specs.Places.{PlacesData, PlacesTell, SetsTell, begun_places, gives, Aligned, Below, GivenTells, IsChoiceAt, is_named_by, limits_at, limits_told_by, names_at}
use Rattle.cts_monitor.specs.Samples.{setting_of}
use Rattle.cts_monitor.specs.Sets.{is_among, is_it, is_set_known, known_sets, set_named, sets_known, with_named}
use Rattle.cts_monitor.specs.Settings.{Watched, set_chosen, choice_told, current_set, sets_told, sets_in_what, sets_with, limits_used, limits_in, limits_told, persistence_told, persistence_of, enabling_told, enabled_of}
use Rattle.cts_monitor.proofs.Keyed.{get_within, last_split, take_long}
use Rattle.cts_monitor.proofs.SetSteps.{all_append, or_assoc, set_known_is}
use Rattle.cts_monitor.proofs.Telling.{latest_more, current_more, told_more, persistence_more, enabled_more, limits_given_to}

pub get_last : {A : Type 0} (h : List A) (e : A) → slice_get (h ++ e ∷ []) (length h) ≡ Some e
get_last [] e = refl
get_last (x ∷ h) e = get_last h e

pub get_more : {A : Type 0} (h : List A) (e : A) (n : ℕ) (x : A) → slice_get h n ≡ Some x → slice_get (h ++ e ∷ []) n ≡ Some x
get_more [] e n x q = (cc)
get_more (y ∷ h) e zero x q = q
get_more (y ∷ h) e (suc n) x q = get_more h e n x q

aligned_more : (h : List Entry) (e : Entry) (ns : List ℕ) (es : List Entry) → Aligned h ns es → Aligned (h ++ e ∷ []) ns es
aligned_more h e [] [] a = a
aligned_more h e [] (x ∷ es) a = absurd a
aligned_more h e (n ∷ ns) [] a = absurd a
aligned_more h e (n ∷ ns) (x ∷ es) a = (get_more h e n x a.0, aligned_more h e ns es a.1)

aligned_one : (h : List Entry) (n : ℕ) (x : Entry) (ns : List ℕ) (es : List Entry) → slice_get h n ≡ Some x → Aligned h ns es → Aligned h (ns ++ n ∷ []) (es ++ x ∷ [])
aligned_one h n x [] [] is a = (is, tt)
aligned_one h n x [] (y ∷ es) is a = absurd a
aligned_one h n x (m ∷ ns) [] is a = absurd a
aligned_one h n x (m ∷ ns) (y ∷ es) is a = (a.0, aligned_one h n x ns es is a.1)

filter_one : (h : List Entry) (e : Entry) (b : Bool) → gives e ≡ b → filter gives (h ++ e ∷ []) ≡ filter gives h ++ (if b then e ∷ [] else [])
filter_one h e b is = filter-append gives h (e ∷ []) ∙ ap (λ (t : Bool). filter gives h ++ (if t then e ∷ [] else [])) is

pub given_same : (h : List Entry) (e : Entry) (ns : List ℕ) → gives e ≡ false → GivenTells h ns → GivenTells (h ++ e ∷ []) ns
given_same h e ns is a = subst (λ (es : List Entry). Aligned (h ++ e ∷ []) ns es) (sym (filter_one h e false is ∙ append-nil (filter gives h))) (aligned_more h e ns (filter gives h) a)

pub given_more : (h : List Entry) (e : Entry) (ns : List ℕ) → gives e ≡ true → GivenTells h ns → GivenTells (h ++ e ∷ []) (ns ++ length h ∷ [])
given_more h e ns is a =
    subst (λ (es : List Entry). Aligned (h ++ e ∷ []) (ns ++ length h ∷ []) es) (sym (filter_one h e true is))
    (aligned_one (h ++ e ∷ []) (length h) e ns (filter gives h) (get_last h e) (aligned_more h e ns (filter gives h) a))

-- ---- what the entries tell is told by those that give

latest_filter : {T : Type 0} (f : Entry → Option T) (test : Entry → Bool) → ((e : Entry) → test e ≡ false → f e ≡ None) → (h : List Entry) → latest f (filter test h) ≡ latest f h
latest_filter f test quiet [] = refl
latest_filter f test quiet (e ∷ h) = by_test (test e) refl (latest_filter f test quiet h)
  where
    none_earlier : {S : Type 0} (o : Option S) → or_earlier o None ≡ o
    none_earlier (Some x) = refl
    none_earlier None = refl

    by_test : (b : Bool) → test e ≡ b → latest f (filter test h) ≡ latest f h → latest f (if test e then e ∷ filter test h else filter test h) ≡ or_earlier (latest f h) (f e)
    by_test true is rest = rw is (ap (λ o. or_earlier o (f e)) rest)
    by_test false is rest = rw (is, quiet e is) (rest ∙ sym (none_earlier (latest f h)))

quiet_what : (p i : ℕ) (what : What) → is_some (set_named what) ≡ false → sets_in_what p i what ≡ []
quiet_what p i what h = grind (arith, common_steps)

quiet_told : (set : List ℕ) (p i : ℕ) (e : Entry) → gives e ≡ false → limits_told set p i e ≡ None
quiet_told set p i e h = ap (limits_in set) (quiet_what p i e.what h)

-- the limits of a set, by the entries that give limits alone
pub limits_at_given : (set : List ℕ) (p i : ℕ) (sets : List (List ℕ × Limits)) (h : List Entry) →
    limits_in set (sets ++ flat_map (sets_told p i) h) ≡ option_or (latest (limits_told set p i) (filter gives h)) (limits_in set sets)
limits_at_given set p i sets h =
    limits_given_to set p i sets h ∙ ap (λ o. option_or o (limits_in set sets)) (sym (latest_filter (limits_told set p i) gives (quiet_told set p i) h))

-- ---- what counts for an item after any entry
pub setting_more : (w : Watched) (h : List Entry) (e : Entry) → setting_of w (h ++ e ∷ []) ≡ (record {
  limits = limits_used (unwrap_or (choice_told e) (current_set h)) (sets_with w.item.limits (flat_map (sets_told w.at w.index) h ++ sets_told w.at w.index e));
  persistence = unwrap_or (persistence_told w.at w.index e) (persistence_of w h);
  enabled = unwrap_or (enabling_told w.at w.index e) (enabled_of w h);
})
setting_more w h e = rw (current_more w h e, told_more w h e, persistence_more w h e, enabled_more w h e) refl

-- ---- the current set

pub choice_same : (h : List Entry) (e : Entry) (n : Option ℕ) → choice_told e ≡ None → IsChoiceAt h n → IsChoiceAt (h ++ e ∷ []) n
choice_same h e None is t = latest_more choice_told h e ∙ ap (λ (o : Option (List ℕ)). or_earlier o (latest choice_told h)) is ∙ t
choice_same h e (Some n) is t = (t.0, get_more h e n t.0 t.1, latest_more choice_told h e ∙ ap (λ (o : Option (List ℕ)). or_earlier o (latest choice_told h)) is ∙ t.2)

pub choice_here : (h : List Entry) (e : Entry) (set : List ℕ) → choice_told e ≡ Some set → IsChoiceAt (h ++ e ∷ []) (Some (length h))
choice_here h e set is = (e, get_last h e, latest_more choice_told h e ∙ ap (λ (o : Option (List ℕ)). or_earlier o (latest choice_told h)) is ∙ sym is)

-- ---- the sets that the site lacks

get_same : {A : Type 0} (h : List A) (e : A) (n : ℕ) → n < length h → slice_get (h ++ e ∷ []) n ≡ slice_get h n
get_same [] e n lt = absurd (omega arith)
get_same (y ∷ h) e zero lt = refl
get_same (y ∷ h) e (suc n) lt = get_same h e n (omega arith)

pub named_same : (h : List Entry) (e : Entry) (set : List ℕ) (ns : List ℕ) → Below (length h) ns → list_any (names_at (h ++ e ∷ []) set) ns ≡ list_any (names_at h set) ns
named_same h e set [] b = refl
named_same h e set (n ∷ ns) b =
    ap (λ (x : Bool). x || list_any (names_at (h ++ e ∷ []) set) ns) (ap (is_named_by set) (get_same h e n b.0))
    ∙ ap (λ (x : Bool). names_at h set n || x) (named_same h e set ns b.1)

below_more : (m : ℕ) (ns : List ℕ) → Below m ns → Below (m + 1) ns
below_more m [] b = tt
below_more m (n ∷ ns) b = (let x = b.0 in omega (arith, x), below_more m ns b.1)

below_last : (m : ℕ) (ns : List ℕ) → Below m ns → Below (m + 1) (ns ++ m ∷ [])
below_last m [] b = (omega arith, tt)
below_last m (n ∷ ns) b = (let x = b.0 in omega (arith, x), below_last m ns b.1)

below_long : (h : List Entry) (e : Entry) (ns : List ℕ) → Below (length h + 1) ns → Below (length (h ++ e ∷ [])) ns
below_long h e ns b = subst (λ (m : ℕ). Below m ns) (sym (length-append h (e ∷ []))) b

module _ (site : SiteData) (h : List Entry) (e : Entry) (ns : List ℕ) (t : SetsTell site h ns) where
  -- no set is new
  pub sets_same : known_sets site (h ++ e ∷ []) ≡ known_sets site h → SetsTell site (h ++ e ∷ []) ns
  sets_same same = record {
    below = below_long h e ns (below_more (length h) ns t.below);
    known = λ set. sym (set_known_is site (h ++ e ∷ []) set) ∙ ap (λ (k : List (List ℕ)). is_among k set) same ∙ set_known_is site h set ∙ t.known set ∙ ap (λ (b : Bool). is_among site.definitions.set_names set || b) (sym (named_same h e set ns t.below));
    count = ap (λ (k : List (List ℕ)). length k) same ∙ t.count;
  }

  -- a new set
  module _ (set : List ℕ) (named : set_named e.what ≡ Some set) (fresh : is_set_known site h set ≡ false) where
    grown : known_sets site (h ++ e ∷ []) ≡ known_sets site h ++ set ∷ []
    grown = all_append site.definitions.set_names h e ∙ ap (with_named (known_sets site h)) named ∙ ap (λ (b : Bool). if b then known_sets site h else known_sets site h ++ set ∷ []) (set_known_is site h set ∙ fresh)

    last_named : (other : List ℕ) → names_at (h ++ e ∷ []) other (length h) ≡ is_same other set
    last_named other = ap (is_named_by other) (get_last h e) ∙ ap (is_it other) named

    now_known : (other : List ℕ) → is_set_known site (h ++ e ∷ []) other ≡ (is_among site.definitions.set_names other || list_any (names_at (h ++ e ∷ []) other) (ns ++ length h ∷ []))
    now_known other =
        let l : list_any (names_at (h ++ e ∷ []) other) (ns ++ length h ∷ []) ≡ (list_any (names_at h other) ns || is_same other set)
        = list_any-append (names_at (h ++ e ∷ []) other) ns (length h ∷ []) ∙ rw (named_same h e other ns t.below, last_named other) (or_last (list_any (names_at h other) ns) (is_same other set)) in
        sym (set_known_is site (h ++ e ∷ []) other) ∙ ap (λ (k : List (List ℕ)). is_among k other) grown ∙ list_any-append (is_same other) (known_sets site h) (set ∷ [])
        ∙ or_last (is_among (known_sets site h) other) (is_same other set)
        ∙ ap (λ (b : Bool). b || is_same other set) (set_known_is site h other ∙ t.known other)
        ∙ or_assoc (is_among site.definitions.set_names other) (list_any (names_at h other) ns) (is_same other set)
        ∙ ap (λ (b : Bool). is_among site.definitions.set_names other || b) (sym l)
      where
        or_last : (a b : Bool) → (a || (b || false)) ≡ (a || b)
        or_last true b = refl
        or_last false true = refl
        or_last false false = refl

    pub sets_new : SetsTell site (h ++ e ∷ []) (ns ++ length h ∷ [])
    sets_new = record {
      below = below_long h e (ns ++ length h ∷ []) (below_last (length h) ns t.below);
      known = now_known;
      count = let l : length (ns ++ length h ∷ []) ≡ length ns + 1 = length-append ns (length h ∷ []) in
          let k : length (known_sets site h ++ set ∷ []) ≡ length (known_sets site h) + 1 = length-append (known_sets site h) (set ∷ []) in
          let c = t.count in
          ap (λ (k : List (List ℕ)). length k) grown ∙ (omega (arith, l, k, c));
    }

-- ---- one entry more of all places

known_same : (site : SiteData) (h : List Entry) (e : Entry) → set_named e.what ≡ None → known_sets site (h ++ e ∷ []) ≡ known_sets site h
known_same site h e is = all_append site.definitions.set_names h e ∙ ap (with_named (known_sets site h)) is

pub known_again : (site : SiteData) (h : List Entry) (e : Entry) (set : List ℕ) → set_named e.what ≡ Some set → is_set_known site h set ≡ true → known_sets site (h ++ e ∷ []) ≡ known_sets site h
known_again site h e set is known = all_append site.definitions.set_names h e ∙ ap (with_named (known_sets site h)) is ∙ ap (λ (b : Bool). if b then known_sets site h else known_sets site h ++ set ∷ []) (set_known_is site h set ∙ known)

gives_not : (e : Entry) → set_named e.what ≡ None → gives e ≡ false
gives_not e is = ap (λ (o : Option (List ℕ)). is_some o) is

gives_one : (e : Entry) (set : List ℕ) → set_named e.what ≡ Some set → gives e ≡ true
gives_one e set is = ap (λ (o : Option (List ℕ)). is_some o) is

quiet_choice : (what : What) (set : List ℕ) → set_named what ≡ Some set → set_chosen what ≡ None
quiet_choice what set is = grind (arith, common_steps)

pub gives_takes : (what : What) (set : List ℕ) → set_named what ≡ Some set → entries_for what ≡ 1
gives_takes what set is = grind (arith, common_steps)

module _ (site : SiteData) (xs : List Entry) (at : ℕ) (e : Entry) (long : at + 1 ≡ length xs) (is : e ≡ get_or xs at e) where
  split : take at xs ++ e ∷ [] ≡ xs
  split = sym (last_split xs at e long is)

  here : length (take at xs) ≡ at
  here = take_long xs at long

  pub places_same : (p q : PlacesData) → set_named e.what ≡ None → set_chosen e.what ≡ None → q.given ≡ p.given → q.sets ≡ p.sets → q.chosen ≡ p.chosen → PlacesTell site (take at xs) p → PlacesTell site xs q
  places_same p q n c sg ss sc t = subst (λ (ys : List Entry). PlacesTell site ys q) split (record {
    given = rw sg (given_same (take at xs) e p.given (gives_not e n) t.given);
    sets = rw ss (sets_same site (take at xs) e p.sets t.sets (known_same site (take at xs) e n));
    chosen = rw sc (choice_same (take at xs) e p.chosen c t.chosen);
  })

  pub places_chosen : (p q : PlacesData) (set : List ℕ) → set_named e.what ≡ None → set_chosen e.what ≡ Some set → q.given ≡ p.given → q.sets ≡ p.sets → q.chosen ≡ Some at → PlacesTell site (take at xs) p → PlacesTell site xs q
  places_chosen p q set n c sg ss sc t = subst (λ (ys : List Entry). PlacesTell site ys q) split (record {
    given = rw sg (given_same (take at xs) e p.given (gives_not e n) t.given);
    sets = rw ss (sets_same site (take at xs) e p.sets t.sets (known_same site (take at xs) e n));
    chosen = rw (sc ∙ ap (λ (n : ℕ). Some n) (sym here)) (choice_here (take at xs) e set c);
  })

  pub places_given : (p q : PlacesData) (set : List ℕ) → set_named e.what ≡ Some set → is_set_known site (take at xs) set ≡ true → q.given ≡ p.given ++ at ∷ [] → q.sets ≡ p.sets → q.chosen ≡ p.chosen → PlacesTell site (take at xs) p → PlacesTell site xs q
  places_given p q set n k sg ss sc t = subst (λ (ys : List Entry). PlacesTell site ys q) split (record {
    given = rw (sg ∙ ap (λ (m : ℕ). p.given ++ m ∷ []) (sym here)) (given_more (take at xs) e p.given (gives_one e set n) t.given);
    sets = rw ss (sets_same site (take at xs) e p.sets t.sets (known_again site (take at xs) e set n k));
    chosen = rw sc (choice_same (take at xs) e p.chosen (quiet_choice e.what set n) t.chosen);
  })

  pub places_new : (p q : PlacesData) (set : List ℕ) → set_named e.what ≡ Some set → is_set_known site (take at xs) set ≡ false → q.given ≡ p.given ++ at ∷ [] → q.sets ≡ p.sets ++ at ∷ [] → q.chosen ≡ p.chosen → PlacesTell site (take at xs) p → PlacesTell site xs q
  places_new p q set n k sg ss sc t = subst (λ (ys : List Entry). PlacesTell site ys q) split (record {
    given = rw (sg ∙ ap (λ (m : ℕ). p.given ++ m ∷ []) (sym here)) (given_more (take at xs) e p.given (gives_one e set n) t.given);
    sets = rw (ss ∙ ap (λ (m : ℕ). p.sets ++ m ∷ []) (sym here)) (sets_new site (take at xs) e p.sets t.sets set n k);
    chosen = rw sc (choice_same (take at xs) e p.chosen (quiet_choice e.what set n) t.chosen);
  })

  -- whether the set is known, by the places
  pub known_before : (ns : List ℕ) (set : List ℕ) → SetsTell site (take at xs) ns → is_set_known site (take at xs) set ≡ (is_among site.definitions.set_names set || list_any (names_at xs set) ns)
  known_before ns set t = t.known set ∙ ap (λ (b : Bool). is_among site.definitions.set_names set || b)
      (sym (named_same (take at xs) e set ns t.below) ∙ ap (λ (ys : List Entry). list_any (names_at ys set) ns) split)

  -- a new set is one of at most that number
  pub room_for_set : (ns : List ℕ) (set : List ℕ) → set_named e.what ≡ Some set → is_set_known site (take at xs) set ≡ false → SetsTell site (take at xs) ns → sets_known site xs ≤ 64 → length ns < 64
  room_for_set ns set n k t few =
      let c = (sets_new site (take at xs) e ns t set n k).count in
      let l : length (ns ++ length (take at xs) ∷ []) ≡ length ns + 1 = length-append ns (length (take at xs) ∷ []) in
      let f : sets_known site (take at xs ++ e ∷ []) ≤ 64 = subst (λ (ys : List Entry). sets_known site ys ≤ 64) (sym split) few in
      omega (arith, c, l, f)

pub begun_tells : (site : SiteData) → PlacesTell site [] begun_places
begun_tells site = record {
  given = tt;
  sets = record { below = tt; known = λ set. refl; count = omega arith };
  chosen = refl;
}

-- the limits of an item in a set are found at the places
aligned_latest : (h : List Entry) (set : List ℕ) (p i : ℕ) (ns : List ℕ) (es : List Entry) → Aligned h ns es → latest (limits_at h set p i) ns ≡ latest (limits_told set p i) es
aligned_latest h set p i [] [] a = refl
aligned_latest h set p i [] (e ∷ es) a = absurd a
aligned_latest h set p i (n ∷ ns) [] a = absurd a
aligned_latest h set p i (n ∷ ns) (e ∷ es) a =
    ap (λ (o : Option Limits). or_earlier o (limits_at h set p i n)) (aligned_latest h set p i ns es a.1)
    ∙ ap (λ (o : Option Entry). or_earlier (latest (limits_told set p i) es) (limits_told_by set p i o)) a.0

pub limits_at_places : (set : List ℕ) (p i : ℕ) (sets : List (List ℕ × Limits)) (h : List Entry) (ns : List ℕ) → GivenTells h ns →
    limits_in set (sets ++ flat_map (sets_told p i) h) ≡ option_or (latest (limits_at h set p i) ns) (limits_in set sets)
limits_at_places set p i sets h ns t =
    limits_at_given set p i sets h ∙ ap (λ (o : Option Limits). option_or o (limits_in set sets)) (sym (aligned_latest h set p i ns (filter gives h) t))

-- the chosen set is the current one
pub choice_none : (h : List Entry) → IsChoiceAt h None → current_set h ≡ default_set
choice_none h is = ap (λ (o : Option (List ℕ)). unwrap_or o default_set) is

pub choice_some : (h : List Entry) (n : ℕ) (e : Entry) → IsChoiceAt h (Some n) → slice_get h n ≡ Some e → current_set h ≡ unwrap_or (choice_told e) default_set
choice_some h n e is at =
    let same : is.0 ≡ e = cc in
    ap (λ (o : Option (List ℕ)). unwrap_or o default_set) (is.2 ∙ ap choice_told same)

pub choice_within : (h : List Entry) (n : ℕ) → IsChoiceAt h (Some n) → n < length h
choice_within h n is = get_within h n is.0 is.1

-- ---- an option

pub is_there : {A : Type 0} (o : Option A) → is_some o ≡ true → (x : A) × (o ≡ Some x)
is_there None on = (cc)
is_there (Some x) on = (x, refl)

pub is_not : {A : Type 0} (o : Option A) → is_some o ≡ false → o ≡ None
is_not None off = refl
is_not (Some x) off = (cc)
