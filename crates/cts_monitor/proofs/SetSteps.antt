-- Which limits sets are known after one entry more.
use Rattle.std.proofs.Common.{◌≡◌, ℕ, ◌+◌, ◌<◌, Bool, true, false, ◌||◌, List, [], ◌∷◌, ◌++◌, Option, Some, None, length, take, get_or, refl, sym, ◌∙◌, ap, subst, arith}
use Rattle.std.specs.Prelude.{IsTrue, if◌then◌else◌}
use Rattle.std.specs.List.{IsDistinct, list_any}
use Rattle.std.proofs.lemmas.Cmp.{nat_list_eq_equiv}
use Rattle.std.proofs.lemmas.Map.Keys.{IsDistinct-push}
use Rattle.std.proofs.lemmas.Map.Made.{length-from_keys, distinct_count-from_IsDistinct}
use Rattle.std.proofs.lemmas.Grind.{common_steps}
use Rattle.std.proofs.lemmas.List.{take_more, length-append}
use Rattle.std.proofs.lemmas.List.Folds.{list_any-append}
use Rattle.cts_def.specs.Items.{is_same}
use Rattle.cts_def.specs.Packets.{default_set, begins_with_set}
use Rattle.cts_def.specs.Sites.{SiteData}
use Rattle.cts_entry.specs.declared.entry.Entry.{Entry}
use Rattle.cts_monitor.specs.Sets.{is_among, is_it, names, news, with_set, set_named, with_named, with_all, known_sets, is_set_known, sets_known, AreKnownSets}

pub same_is : (a b : List ℕ) → is_same a b ≡ true → a ≡ b
same_is [] [] h = refl
same_is [] (y ∷ b) h = (cc)
same_is (x ∷ a) [] h = (cc)
same_is (x ∷ a) (y ∷ b) h =
    let here : x ≡ y = grind (arith, common_steps) in
    let rest : a ≡ b = same_is a b (grind (arith, common_steps)) in (cc)

among_set : (sets : List (List ℕ)) (set name : List ℕ) → is_among (with_set sets set) name ≡ (is_among sets name || is_same name set)
among_set sets set name = by_known (is_among sets set) refl
  where
    by_same : (b : Bool) → is_same name set ≡ b → is_among sets set ≡ true → is_among sets name ≡ (is_among sets name || b)
    by_same true e k = let n : is_among sets name ≡ true = subst (λ (x : List ℕ). is_among sets x ≡ true) (sym (same_is name set e)) k in rw n refl
    by_same false e k = grind (arith, common_steps)

    by_known : (b : Bool) → is_among sets set ≡ b → is_among (if b then sets else sets ++ set ∷ []) name ≡ (is_among sets name || is_same name set)
    by_known true e = by_same (is_same name set) refl e
    by_known false e = list_any-append (is_same name) sets (set ∷ []) ∙ grind (arith, common_steps)

among_named : (sets : List (List ℕ)) (o : Option (List ℕ)) (name : List ℕ) → is_among (with_named sets o) name ≡ (is_among sets name || is_it name o)
among_named sets None name = grind (arith, common_steps)
among_named sets (Some set) name = among_set sets set name

pub or_assoc : (a b c : Bool) → ((a || b) || c) ≡ (a || (b || c))
or_assoc true b c = refl
or_assoc false b c = refl

among_all : (sets : List (List ℕ)) (es : List Entry) (name : List ℕ) → is_among (with_all sets es) name ≡ (is_among sets name || list_any (names name) es)
among_all sets [] name = grind (arith, common_steps)
among_all sets (e ∷ es) name =
    among_all (with_named sets (set_named e.what)) es name
    ∙ ap (λ b. b || list_any (names name) es) (among_named sets (set_named e.what) name)
    ∙ or_assoc (is_among sets name) (names name e) (list_any (names name) es)

-- a name is among the known sets where its set is known
pub set_known_is : (site : SiteData) (h : List Entry) (name : List ℕ) → is_among (known_sets site h) name ≡ is_set_known site h name
set_known_is site h name = among_all site.definitions.set_names h name

pub all_append : (sets : List (List ℕ)) (h : List Entry) (e : Entry) → with_all sets (h ++ e ∷ []) ≡ with_named (with_all sets h) (set_named e.what)
all_append sets [] e = refl
all_append sets (x ∷ h) e = all_append (with_named sets (set_named x.what)) h e

named_length : (sets : List (List ℕ)) (o : Option (List ℕ)) → length (with_named sets o) ≡ length sets + news sets o
named_length sets None = omega arith
named_length sets (Some name) = by_known (is_among sets name)
  where
    by_known : (b : Bool) → length (if b then sets else sets ++ name ∷ []) ≡ length sets + (if b then 0 else 1)
    by_known true = omega arith
    by_known false = length-append sets (name ∷ [])

pub sets_step : (site : SiteData) (h : List Entry) (i : ℕ) (e : Entry) → i < length h → e ≡ get_or h i e →
    sets_known site (take (i + 1) h) ≡ sets_known site (take i h) + news (known_sets site (take i h)) (set_named e.what)
sets_step site h i e lt is =
    ap (sets_known site) (take_more h i e lt ∙ ap (λ (x : Entry). take i h ++ x ∷ []) (sym is))
    ∙ ap (λ (n : List (List ℕ)). length n) (all_append site.definitions.set_names (take i h) e)
    ∙ named_length (known_sets site (take i h)) (set_named e.what)

-- the site has at least one set, and the first is DEFAULT
pub some_first : (sets : List (List ℕ)) → IsTrue (begins_with_set default_set sets) → 0 < length sets
some_first [] h = grind (arith, common_steps)
some_first (name ∷ sets) h = omega arith

pub first_default : (sets : List (List ℕ)) (d : List ℕ) → IsTrue (begins_with_set default_set sets) → get_or sets 0 d ≡ default_set
first_default [] d h = grind (arith, common_steps)
first_default (name ∷ sets) d h = same_is name default_set (grind (arith, common_steps))

-- ---- no set is known twice

apart_set : (sets : List (List ℕ)) (set : List ℕ) → IsDistinct is_same sets → IsDistinct is_same (with_set sets set)
apart_set sets set d = by_known (is_among sets set) refl
  where
    by_known : (b : Bool) → is_among sets set ≡ b → IsDistinct is_same (if b then sets else sets ++ set ∷ [])
    by_known true e = d
    by_known false e = IsDistinct-push nat_list_eq_equiv sets set d e

apart_named : (sets : List (List ℕ)) (o : Option (List ℕ)) → IsDistinct is_same sets → IsDistinct is_same (with_named sets o)
apart_named sets None d = d
apart_named sets (Some set) d = apart_set sets set d

pub sets_apart : (sets : List (List ℕ)) (h : List Entry) → IsDistinct is_same sets → IsDistinct is_same (with_all sets h)
sets_apart sets [] d = d
sets_apart sets (e ∷ h) d = sets_apart (with_named sets (set_named e.what)) h (apart_named sets (set_named e.what) d)

-- ---- the known sets

pub are_known : (site : SiteData) (h : List Entry) → IsDistinct is_same site.definitions.set_names → AreKnownSets site h (known_sets site h)
are_known site h d = record { apart = sets_apart site.definitions.set_names h d; known = set_known_is site h }

-- two lists of the known sets have the same names, each once, so they are as long
pub as_long : (site : SiteData) (h : List Entry) (xs ys : List (List ℕ)) → AreKnownSets site h xs → AreKnownSets site h ys → length xs ≡ length ys
as_long site h xs ys a b =
    length-from_keys nat_list_eq_equiv xs ys a.apart (λ (name : List ℕ). a.known name ∙ sym (b.known name))
    ∙ distinct_count-from_IsDistinct nat_list_eq_equiv ys b.apart
