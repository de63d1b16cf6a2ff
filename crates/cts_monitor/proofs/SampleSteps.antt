-- Samples, settings and states after one entry more.
use Rattle.std.proofs.Common.{◌≡◌, ◌≢◌, ℕ, ◌+◌, ◌<◌, ◌≤◌, Bool, true, false, List, [], ◌∷◌, ◌++◌, length, take, get_or, refl, sym, ◌∙◌, ap, subst, arith, append-nil, Option, Some, None}
use Rattle.std.specs.Prelude.{IsTrue, ◌||◌, ◌==◌, if◌then◌else◌}
use Rattle.std.specs.Option.{ForSome}
use Rattle.std.specs.List.{list_all, find}
use Rattle.std.proofs.lemmas.Grind.{common_steps}
use Rattle.std.proofs.lemmas.List.{take_more}
use Rattle.cts_def.specs.Items.{ItemData, IsSoundItem, is_sound_state, HasSoundLimits}
use Rattle.cts_def.specs.Spans.{is_number}
use Rattle.cts_def.specs.declared.color.Color.{Color}
use Rattle.cts_def.specs.declared.color.Color.TheVariants.{Stale}
use Rattle.cts_def.specs.declared.limits.Limits.{Limits}
use Rattle.cts_def.specs.declared.limits_setup.LimitsSetup.{LimitsSetup}
use Rattle.cts_def.specs.declared.state_def.StateDef.{StateDef}
use Rattle.cts_def.specs.declared.ident.Ident.TheVariants.{Known}
use Rattle.cts_entry.specs.declared.entry.Entry.{Entry}
use Rattle.cts_entry.specs.declared.what.What.{What}
use Rattle.cts_conv.specs.declared.value.Value.{Value}
use Rattle.cts_conv.specs.Conversions as conversions
use Rattle.cts_conv.specs.Raws.{raw_value}
use Rattle.cts_limits.specs.declared.running.RunState.{RunState}
use Rattle.cts_limits.specs.States.{StandsFor, Sample, change_from}
use Rattle.cts_limits.proofs.Runs.{step_tells, step_run, color_fresh, from_same}
use Rattle.cts_monitor.specs.Settings.{Watched, set_chosen, sets_in_what, sets_with, limits_used, persistence_in_what, enabling_in_what, may_set, may_set_in_what}
use Rattle.cts_monitor.specs.Samples.{setting_of, sample_of, sample_in, sample_at, sample_with, samples, color_seen, color_in}
use Rattle.cts_monitor.specs.Steps.{stepped}
use Rattle.cts_monitor.specs.Brought.{brought_by}
use Rattle.cts_monitor.specs.declared.types.Setting.{Setting}
use Rattle.cts_monitor.proofs.Telling.{setting_same, gathered_take}

-- ---- what an entry that sets nothing of an item leaves

quiet_choice : (p i : ℕ) (what : What) → may_set_in_what p i what ≡ false → set_chosen what ≡ None
quiet_choice p i what h = grind (arith, common_steps)

quiet_sets : (p i : ℕ) (what : What) → may_set_in_what p i what ≡ false → sets_in_what p i what ≡ []
quiet_sets p i what h = grind (arith, common_steps)

quiet_persistence : (p i : ℕ) (what : What) → may_set_in_what p i what ≡ false → persistence_in_what p i what ≡ None
quiet_persistence p i what h = grind (arith, common_steps)

quiet_enabling : (p i : ℕ) (what : What) → may_set_in_what p i what ≡ false → enabling_in_what p i what ≡ None
quiet_enabling p i what h = grind (arith, common_steps)

pub quiet_setting : (w : Watched) (h : List Entry) (e : Entry) → may_set w.at w.index e ≡ false → setting_of w (h ++ e ∷ []) ≡ setting_of w h
quiet_setting w h e q =
    setting_same w h e (quiet_choice w.at w.index e.what q) (quiet_sets w.at w.index e.what q) (quiet_persistence w.at w.index e.what q) (quiet_enabling w.at w.index e.what q)

pub quiet_take : (w : Watched) (h : List Entry) (i : ℕ) (e : Entry) → i < length h → e ≡ get_or h i e → may_set w.at w.index e ≡ false →
    setting_of w (take (i + 1) h) ≡ setting_of w (take i h)
quiet_take w h i e lt is q = ap (setting_of w) (take_more h i e lt ∙ ap (λ (x : Entry). take i h ++ x ∷ []) (sym is)) ∙ quiet_setting w (take i h) e q

-- ---- limits are of numbers

pub numbered : (i : ItemData) (setup : Option LimitsSetup) (set : List ℕ) (told : List (List ℕ × Limits)) → HasSoundLimits i setup →
    ForSome (limits_used set (sets_with setup told)) (λ l. IsTrue (is_number i.kind))
numbered i None set told h l e = (cc)
numbered i (Some setup) set told h l e = let m = h.0 in grind (arith, common_steps)

pub limits_of_number : (w : Watched) (h : List Entry) → IsSoundItem w.item → ForSome (setting_of w h).limits (λ l. IsTrue (is_number w.item.kind))
limits_of_number w h sound = numbered w.item w.item.limits _ _ sound.limits

-- ---- colours of states

find_holds : (p q : StateDef → Bool) (xs : List StateDef) (x : StateDef) → list_all q xs ≡ true → find p xs ≡ Some x → q x ≡ true
find_holds p q [] x all is = (cc)
find_holds p q (y ∷ xs) x all is =
    let rest : list_all q xs ≡ true = grind (arith, common_steps) in
    by_test (p y) refl (λ e. find_holds p q xs x rest e)
  where
    by_test : (b : Bool) → p y ≡ b → (find p xs ≡ Some x → q x ≡ true) → q x ≡ true
    by_test true e later = let same : y ≡ x = grind (arith, common_steps) in subst (λ (z : StateDef). q z ≡ true) same (grind (arith, common_steps))
    by_test false e later = later (grind (arith, common_steps))

sound_fresh : (s : StateDef) (c : Color) → is_sound_state s ≡ true → s.color ≡ Some c → c ≢ Stale
sound_fresh s c sound is stale = grind (arith, common_steps)

pub state_fresh : (i : ItemData) (v : Value) → IsSoundItem i → ForSome (color_in (conversions.state_of i v)) (λ c. c ≢ Stale)
state_fresh i v sound c is = by_state (conversions.state_of i v) refl is
  where
    by_state : (o : Option StateDef) → conversions.state_of i v ≡ o → color_in o ≡ Some c → c ≢ Stale
    by_state None q e = (cc)
    by_state (Some s) q e = sound_fresh s c (find_holds (conversions.is_state_of v) is_sound_state i.states s sound.sound_states q) e

-- a value of no number has no state
pub no_number_no_state : (i : ItemData) (v : Value) → IsSoundItem i → is_number i.kind ≡ false → conversions.state_of i v ≡ None
no_number_no_state i v sound e = none i.states sound.numbers_alone_have_states
  where
    none : (states : List StateDef) → IsTrue (is_number i.kind || length states == 0) → find (conversions.is_state_of v) states ≡ None
    none [] h = refl
    none (s ∷ states) h = grind (arith, common_steps)

-- ---- the kept state

fresh_some : (c d : Color) → d ≢ Stale → Some d ≡ Some c → c ≢ Stale
fresh_some c d fresh is = let same : d ≡ c = cc in subst (λ (x : Color). x ≢ Stale) same fresh

pub color_seen_fresh : (l : Option Limits) (i : ItemData) (v : Value) → IsSoundItem i → ForSome (color_seen l i v) (λ c. c ≢ Stale)
color_seen_fresh None i v sound = state_fresh i (conversions.before_states i v) sound
color_seen_fresh (Some l) i v sound = λ c is. fresh_some c _ (color_fresh l _) is

with_stands : (n : ℕ) (o : Option Color) (r : RunState) (s : List Sample) → StandsFor r s → StandsFor (stepped r (sample_with n o)) (s ++ sample_with n o)
with_stands n None r s h = subst (λ (x : List Sample). StandsFor r x) (sym (append-nil s)) h
with_stands n (Some c) r s h = step_tells r c n s h

-- the kept state steps with the samples
pub of_stands : (w : Watched) (x : Setting) (bytes : List ℕ) (r : RunState) (s : List Sample) → StandsFor r s → StandsFor (stepped r (sample_of w x bytes)) (s ++ sample_of w x bytes)
of_stands w x bytes r s h = by_enabled x.enabled refl
  where
    by_enabled : (b : Bool) → x.enabled ≡ b →
        StandsFor (stepped r (if b then sample_with x.persistence (color_seen x.limits w.item (raw_value w.packet w.item bytes)) else []))
        (s ++ (if b then sample_with x.persistence (color_seen x.limits w.item (raw_value w.packet w.item bytes)) else []))
    by_enabled true e = with_stands x.persistence _ r s h
    by_enabled false e = subst (λ (y : List Sample). StandsFor r y) (sym (append-nil s)) h

pub in_stands : (w : Watched) (x : Setting) (bytes : Option (List ℕ)) (r : RunState) (s : List Sample) → StandsFor r s → StandsFor (stepped r (sample_in w x bytes)) (s ++ sample_in w x bytes)
in_stands w x None r s h = subst (λ (y : List Sample). StandsFor r y) (sym (append-nil s)) h
in_stands w x (Some bytes) r s h = of_stands w x bytes r s h

pub stepped_run : (r : RunState) (s : List Sample) → (stepped r s).run ≤ r.run + 1
stepped_run r [] = omega arith
stepped_run r (x ∷ s) = step_run r x

pub samples_take : (w : Watched) (h : List Entry) (i : ℕ) (e : Entry) → i < length h → e ≡ get_or h i e → samples w (take (i + 1) h) ≡ samples w (take i h) ++ sample_at w (take i h) e
samples_take w h i e lt is = gathered_take (sample_at w) h i e lt ∙ ap (λ (x : Entry). samples w (take i h) ++ sample_at w (take i h) x) (sym is)

-- one more entry of a list
pub state_take : (w : Watched) (h : List Entry) (i : ℕ) (e : Entry) (x : Setting) (r : RunState) → i < length h → e ≡ get_or h i e →
    x ≡ setting_of w (take i h) → StandsFor r (samples w (take i h)) → StandsFor (stepped r (sample_in w x (brought_by (Known w.at) e))) (samples w (take (i + 1) h))
state_take w h i e x r lt is set h' =
    subst (λ (s : List Sample). StandsFor (stepped r (sample_in w x (brought_by (Known w.at) e))) s)
    (ap (λ (y : Setting). samples w (take i h) ++ sample_in w y (brought_by (Known w.at) e)) set ∙ sym (samples_take w h i e lt is))
    (in_stands w x (brought_by (Known w.at) e) r (samples w (take i h)) h')

pub change_same : (c : Color) → change_from c c ≡ None
change_same c = from_same c c refl
