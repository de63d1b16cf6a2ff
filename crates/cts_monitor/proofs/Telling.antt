-- What the definitions say when one more entry stands after the others.
use Rattle.std.proofs.Common.{◌≡◌, ℕ, ◌+◌, List, [], ◌∷◌, ◌++◌, Option, Some, None, unwrap_or, length, refl, sym, ◌∙◌, ap, append-nil, append_assoc, take, get_or, ◌<◌}
use Rattle.std.specs.List.{flat_map}
use Rattle.std.specs.Option.{option_or}
use Rattle.std.proofs.lemmas.Grind.{flat_map-append}
use Rattle.std.proofs.lemmas.List.{take_more}
use Rattle.std.specs.Prelude.{option_map}
use Rattle.cts_def.specs.Packets.{default_set}
use Rattle.cts_def.specs.Sites.{SiteData}
use Rattle.cts_def.specs.declared.limits.Limits.{Limits}
use Rattle.cts_entry.specs.declared.entry.Entry.{Entry}
use Rattle.cts_entry.specs.Histories.{or_earlier, latest}
use Rattle.cts_entry.proofs.Appending.{latest-append}
use Rattle.cts_monitor.specs.Gathered.{gathered_from, gathered}
use Rattle.cts_monitor.specs.Settings.{Watched, current_set, choice_told, sets_told, limits_in, limits_named, limits_told, persistence_told, persistence_of, first_persistence, enabling_told, enabled_of, first_enabled}
use Rattle.cts_monitor.specs.Samples.{setting_of, sample_at, samples}
use Rattle.cts_monitor.specs.Events.{events_at, events}

-- ---- the two words on lists

pub latest_more : {X T : Type 0} (tells : X → Option T) (h : List X) (e : X) → latest tells (h ++ e ∷ []) ≡ or_earlier (tells e) (latest tells h)
latest_more tells h e = latest-append tells h (e ∷ [])

pub gathered_from_more : {E B : Type 0} (f : List E → E → List B) (before h : List E) (e : E) →
    gathered_from f before (h ++ e ∷ []) ≡ gathered_from f before h ++ f (before ++ h) e
unfolding gathered_from
gathered_from_more f before [] e = append-nil (f before e) ∙ ap (λ b. f b e) (sym (append-nil before))
gathered_from_more f before (x ∷ h) e =
    ap (λ r. f before x ++ r) (gathered_from_more f (before ++ x ∷ []) h e ∙ ap (λ b. gathered_from f (before ++ x ∷ []) h ++ f b e) (append_assoc before (x ∷ []) h))
    ∙ sym (append_assoc (f before x) (gathered_from f (before ++ x ∷ []) h) (f (before ++ x ∷ h) e))

-- what the last entry tells stands after what those before it tell
pub gathered_more : {E B : Type 0} (f : List E → E → List B) (h : List E) (e : E) → gathered f (h ++ e ∷ []) ≡ gathered f h ++ f h e
gathered_more f h e = gathered_from_more f [] h e

pub flat_map_more : {X A : Type 0} (f : X → List A) (h : List X) (e : X) → flat_map f (h ++ e ∷ []) ≡ flat_map f h ++ f e
flat_map_more f h e = flat_map-append f h (e ∷ []) ∙ ap (λ r. flat_map f h ++ r) (append-nil (f e))

-- what the last of one element more of a list tells
pub latest_take : {X T : Type 0} (tells : X → Option T) (xs : List X) (i : ℕ) (d : X) → i < length xs →
    latest tells (take (i + 1) xs) ≡ or_earlier (tells (get_or xs i d)) (latest tells (take i xs))
latest_take tells xs i d h = ap (latest tells) (take_more xs i d h) ∙ latest_more tells (take i xs) (get_or xs i d)

pub gathered_take : {E B : Type 0} (f : List E → E → List B) (xs : List E) (i : ℕ) (d : E) → i < length xs →
    gathered f (take (i + 1) xs) ≡ gathered f (take i xs) ++ f (take i xs) (get_or xs i d)
gathered_take f xs i d h = ap (gathered f) (take_more xs i d h) ∙ gathered_more f (take i xs) (get_or xs i d)

-- a loop that keeps what was told last
pub kept_step : {X T : Type 0} (tells : X → Option T) (xs : List X) (i : ℕ) (x : X) (kept now : Option T) → i < length xs → x ≡ get_or xs i x →
    kept ≡ latest tells (take i xs) → now ≡ or_earlier (tells x) kept → now ≡ latest tells (take (i + 1) xs)
kept_step tells xs i x kept now lt is before step =
    step ∙ ap (λ o. or_earlier (tells x) o) before ∙ ap (λ y. or_earlier (tells y) (latest tells (take i xs))) is ∙ sym (latest_take tells xs i x lt)

pub map_earlier : {S T : Type 0} (f : S → T) (a b : Option S) → option_map f (or_earlier a b) ≡ or_earlier (option_map f a) (option_map f b)
map_earlier f (Some a) b = refl
map_earlier f None b = refl

pub or_is : {T : Type 0} (a b : Option T) → option_or a b ≡ or_earlier a b
or_is (Some x) b = refl
or_is None b = refl

pub map_or : {S T : Type 0} (f : S → T) (a b : Option S) → option_map f (option_or a b) ≡ or_earlier (option_map f a) (option_map f b)
map_or f (Some a) b = refl
map_or f None b = refl

pub unwrap_later : {T : Type 0} (a b : Option T) (d : T) → unwrap_or (or_earlier a b) d ≡ unwrap_or a (unwrap_or b d)
unwrap_later (Some x) b d = refl
unwrap_later None b d = refl

-- the last of several lists joined
pub latest_flat : {X Y T : Type 0} (tells : Y → Option T) (g : X → List Y) (xs : List X) → latest tells (flat_map g xs) ≡ latest (λ x. latest tells (g x)) xs
latest_flat tells g [] = refl
latest_flat tells g (x ∷ xs) = latest-append tells (g x) (flat_map g xs) ∙ ap (λ o. or_earlier o (latest tells (g x))) (latest_flat tells g xs)

-- ---- each definition with one entry more

pub chosen_more : (h : List Entry) (e : Entry) → current_set (h ++ e ∷ []) ≡ unwrap_or (choice_told e) (current_set h)
chosen_more h e = ap (λ o. unwrap_or o default_set) (latest_more choice_told h e) ∙ unwrap_later (choice_told e) (latest choice_told h) default_set

module _ (w : Watched) (h : List Entry) (e : Entry) where
  pub current_more : current_set (h ++ e ∷ []) ≡ unwrap_or (choice_told e) (current_set h)
  current_more = chosen_more h e

  pub told_more : flat_map (sets_told w.at w.index) (h ++ e ∷ []) ≡ flat_map (sets_told w.at w.index) h ++ sets_told w.at w.index e
  told_more = flat_map_more (sets_told w.at w.index) h e

  pub persistence_more : persistence_of w (h ++ e ∷ []) ≡ unwrap_or (persistence_told w.at w.index e) (persistence_of w h)
  persistence_more = ap (λ o. unwrap_or o (first_persistence w.item.limits)) (latest_more (persistence_told w.at w.index) h e)
      ∙ unwrap_later (persistence_told w.at w.index e) (latest (persistence_told w.at w.index) h) (first_persistence w.item.limits)

  pub enabled_more : enabled_of w (h ++ e ∷ []) ≡ unwrap_or (enabling_told w.at w.index e) (enabled_of w h)
  enabled_more = ap (λ o. unwrap_or o (first_enabled w.item.limits)) (latest_more (enabling_told w.at w.index) h e)
      ∙ unwrap_later (enabling_told w.at w.index e) (latest (enabling_told w.at w.index) h) (first_enabled w.item.limits)

  pub samples_more : samples w (h ++ e ∷ []) ≡ samples w h ++ sample_at w h e
  samples_more = gathered_more (sample_at w) h e

  -- an entry that tells nothing of a setting leaves it
  pub setting_same : choice_told e ≡ None → sets_told w.at w.index e ≡ [] → persistence_told w.at w.index e ≡ None → enabling_told w.at w.index e ≡ None →
      setting_of w (h ++ e ∷ []) ≡ setting_of w h
  setting_same c s p n =
      let cs : current_set (h ++ e ∷ []) ≡ current_set h = current_more ∙ ap (λ o. unwrap_or o (current_set h)) c in
      let ss : flat_map (sets_told w.at w.index) (h ++ e ∷ []) ≡ flat_map (sets_told w.at w.index) h = told_more ∙ ap (λ x. flat_map (sets_told w.at w.index) h ++ x) s ∙ append-nil (flat_map (sets_told w.at w.index) h) in
      let ps : persistence_of w (h ++ e ∷ []) ≡ persistence_of w h = persistence_more ∙ ap (λ o. unwrap_or o (persistence_of w h)) p in
      let ns : enabled_of w (h ++ e ∷ []) ≡ enabled_of w h = enabled_more ∙ ap (λ o. unwrap_or o (enabled_of w h)) n in
      rw (cs, ss, ps, ns) refl

pub events_more : (site : SiteData) (h : List Entry) (e : Entry) → events site (h ++ e ∷ []) ≡ events site h ++ events_at site h e
events_more site h e = gathered_more (events_at site) h e

-- the limits among a definition's sets and those of entries
pub limits_given_to : (set : List ℕ) (p i : ℕ) (sets : List (List ℕ × Limits)) (h : List Entry) →
    limits_in set (sets ++ flat_map (sets_told p i) h) ≡ option_or (latest (limits_told set p i) h) (limits_in set sets)
limits_given_to set p i sets h =
    latest-append (limits_named set) sets (flat_map (sets_told p i) h)
    ∙ sym (or_is (limits_in set (flat_map (sets_told p i) h)) (limits_in set sets))
    ∙ ap (λ o. option_or o (limits_in set sets)) (latest_flat (limits_named set) (sets_told p i) h)

pub limits_kept : (set : List ℕ) (sets told : List (List ℕ × Limits)) → limits_in set (sets ++ told) ≡ option_or (limits_in set told) (limits_in set sets)
limits_kept set sets told = latest-append (limits_named set) sets told ∙ sym (or_is (limits_in set told) (limits_in set sets))
