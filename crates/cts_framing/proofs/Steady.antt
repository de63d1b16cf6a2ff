-- Framings whose frames state their length are sound.
use Rattle.std.proofs.Common.{◌≡◌, ℕ, ◌≤◌, Bool, true, false, ◌&&◌, cond, List, ◌++◌, length, refl, sym, ◌∙◌, ap, arith, Option, Some, None, length-append}
use Rattle.std.specs.Prelude.{nat_le}
use Rattle.cts_def.specs.declared.bad_cause.BadCause.{BadCause}
use Rattle.cts_framing.specs.Framing.{Output, IsSound}
use Rattle.cts_framing.specs.Patterns.{begins}
use Rattle.cts_framing.specs.Stating.{Stated, Open, Long, Wrong, is_long, wrong, is_open, stating, IsSteady}
use Rattle.cts_framing.proofs.Fronts.{same_front, and_tells, same_tells, same_test, le_tells, le_test, begins_more, begins_tells}

pub long_tells : (s : Stated) (n : ℕ) → is_long s n ≡ true → s ≡ Long n
long_tells Open n h = cc
long_tells (Long k) n h = ap Long (same_tells k n h)
long_tells (Wrong c) n h = cc

pub wrong_tells : (s : Stated) (c : BadCause) → wrong s ≡ Some c → s ≡ Wrong c
wrong_tells Open c h = cc
wrong_tells (Long n) c h = cc
wrong_tells (Wrong d) c h = ap Wrong (cc)

pub error_tells : (b : Bool) (o : Option BadCause) (c : BadCause) → cond b o None ≡ Some c → (b ≡ true) × (o ≡ Some c)
error_tells true o c h = (refl, h)
error_tells false o c h = cc

abbrev pub none_yet : Option BadCause
none_yet = None

pub no_error : (b : Bool) → cond b None None ≡ none_yet
no_error true = refl
no_error false = refl

-- what a whole frame tells
pub record FrameTells (sync : List ℕ) (states : List ℕ → Stated) (w : List ℕ) : Type 0 where
  pub some : 1 ≤ length w
  pub begin : begins sync w ≡ true
  pub states_are : states w ≡ Long (length w)

pub frame_tells : (sync : List ℕ) (states : List ℕ → Stated) (w : List ℕ) → (nat_le 1 (length w) && begins sync w && is_long (states w) (length w)) ≡ true → FrameTells sync states w
frame_tells sync states w h =
    let t = and_tells (nat_le 1 (length w) && begins sync w) (is_long (states w) (length w)) h in
    let u = and_tells (nat_le 1 (length w)) (begins sync w) t.0 in
    record { some = le_tells 1 (length w) u.0; begin = u.1; states_are = long_tells (states w) (length w) t.1 }

pub frame_test : (sync : List ℕ) (states : List ℕ → Stated) (w : List ℕ) → FrameTells sync states w → (nat_le 1 (length w) && begins sync w && is_long (states w) (length w)) ≡ true
frame_test sync states w t = rw (le_test 1 (length w) t.some, t.begin, t.states_are, same_test (length w) (length w) refl) refl

-- what an error tells
pub record WrongTells (sync : List ℕ) (states : List ℕ → Stated) (u : List ℕ) (c : BadCause) : Type 0 where
  pub some : 1 ≤ length u
  pub begin : begins sync u ≡ true
  pub states_are : states u ≡ Wrong c

pub fault_tells : (sync : List ℕ) (states : List ℕ → Stated) (u : List ℕ) (c : BadCause) → cond (nat_le 1 (length u) && begins sync u) (wrong (states u)) None ≡ Some c → WrongTells sync states u c
fault_tells sync states u c h =
    let t = error_tells (nat_le 1 (length u) && begins sync u) (wrong (states u)) c h in
    let v = and_tells (nat_le 1 (length u)) (begins sync u) t.0 in
    record { some = le_tells 1 (length u) v.0; begin = v.1; states_are = wrong_tells (states u) c t.1 }

pub fault_test : (sync : List ℕ) (states : List ℕ → Stated) (u : List ℕ) (c : BadCause) → WrongTells sync states u c → cond (nat_le 1 (length u) && begins sync u) (wrong (states u)) None ≡ Some c
fault_test sync states u c t = rw (le_test 1 (length u) t.some, t.begin, t.states_are) refl

pub one_length : (m n : ℕ) → Long m ≡ Long n → m ≡ n
one_length m n h = cc

module _ (sync : List ℕ) (states : List ℕ → Stated) (out : List ℕ → Output) (k : IsSteady states) where
  -- a stated length goes on when more bytes come
  pub long_stays : (u y : List ℕ) (n : ℕ) → states u ≡ Long n → states (u ++ y) ≡ Long n
  long_stays u y n h = k u y (ap is_open h) ∙ h

  one : (w v x y : List ℕ) → FrameTells sync states w → FrameTells sync states v → w ++ x ≡ v ++ y → w ≡ v
  one w v x y h j e =
      let p = long_stays w x (length w) h.states_are in
      let q = long_stays v y (length v) j.states_are in
      same_front w v x y (one_length (length w) (length v) (sym p ∙ (ap states e ∙ q))) e

  apart : (w x : List ℕ) → FrameTells sync states w → cond (nat_le 1 (length (w ++ x)) && begins sync (w ++ x)) (wrong (states (w ++ x))) None ≡ None
  apart w x h = rw (long_stays w x (length w) h.states_are) (no_error (nat_le 1 (length (w ++ x)) && begins sync (w ++ x)))

  error_stays : (u y : List ℕ) (c : BadCause) → WrongTells sync states u c → cond (nat_le 1 (length (u ++ y)) && begins sync (u ++ y)) (wrong (states (u ++ y))) None ≡ Some c
  error_stays u y c h = fault_test sync states (u ++ y) c (record {
    some = omega (arith, h.some, length-append u y);
    begin = begins_more sync u y h.begin;
    states_are = k u y (ap is_open h.states_are) ∙ h.states_are;
  })

  pub stating_is_sound : IsSound (stating sync states out)
  stating_is_sound = record {
    some = λ x. refl;
    one = λ w v x y h j e. one w v x y (frame_tells sync states w h) (frame_tells sync states v j) e;
    synced = λ w x h. begins_tells sync w (frame_tells sync states w h).begin;
    error_synced = λ u c h. begins_tells sync u (fault_tells sync states u c h).begin;
    no_error_in_none = refl;
    apart = λ w x h. apart w x (frame_tells sync states w h);
    whole_stays = λ e w x y h. h;
    error_stays = λ u y c h. error_stays u y c (fault_tells sync states u c h);
  }
