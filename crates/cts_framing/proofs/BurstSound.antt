-- Frames that are all bytes of a piece are a sound framing.
use Rattle.std.proofs.Common.{◌≡◌, ℕ, ◌≤◌, Bool, true, false, ◌&&◌, cond, List, [], ◌∷◌, ◌++◌, length, refl, sym, ◌∙◌, ap, arith, Some, None, length-append}
use Rattle.std.specs.Prelude.{nat_le, nat_lt, ◌==◌}
use Rattle.std.proofs.lemmas.List.{append-nil}
use Rattle.cts_def.specs.Protocols.{BurstData, Burst}
use Rattle.cts_def.specs.declared.bad_cause.BadCause.TheVariants.{TooLong}
use Rattle.cts_framing.specs.Framing.{IsSound}
use Rattle.cts_framing.specs.Patterns.{begins}
use Rattle.cts_def.specs.Most.{frame_limit}
use Rattle.cts_framing.specs.Rows.{burst_whole, framing_of}
use Rattle.cts_framing.proofs.Fronts.{and_tells, same_tells, le_tells, lt_tells, lt_test, not_lt_test, begins_more, begins_tells}
use Rattle.cts_framing.proofs.Steady.{error_tells}

pub record BurstTells (b : BurstData) (w x : List ℕ) : Type 0 where
  pub nothing : x ≡ []
  pub some : 1 ≤ length w
  pub begin : begins b.sync w ≡ true
  pub within : length w ≤ frame_limit

no_bytes : (x : List ℕ) → (length x == 0) ≡ true → x ≡ []
no_bytes [] h = refl
no_bytes (c ∷ x) h = absurd (omega (arith, same_tells (length (c ∷ x)) 0 h))

pub burst_tells : (b : BurstData) (w x : List ℕ) → burst_whole b w x ≡ true → BurstTells b w x
burst_tells b w x h =
    let p = and_tells ((length x == 0) && nat_le 1 (length w) && begins b.sync w) (nat_le (length w) frame_limit) h in
    let q = and_tells ((length x == 0) && nat_le 1 (length w)) (begins b.sync w) p.0 in
    let r = and_tells (length x == 0) (nat_le 1 (length w)) q.0 in
    record { nothing = no_bytes x r.0; some = le_tells 1 (length w) r.1; begin = q.1; within = le_tells (length w) frame_limit p.1 }

none_whole : (b : BurstData) (x : List ℕ) (r : Bool) → burst_whole b [] x ≡ r → r ≡ false
none_whole b x false e = refl
none_whole b x true e = let t = burst_tells b [] x e in absurd (omega (arith, t.some))

not_long : (a : Bool) (m : ℕ) → m ≤ frame_limit → (cond (a && nat_lt frame_limit m) (Some TooLong) None) ≡ None
not_long true m h = rw (not_lt_test frame_limit m h) refl
not_long false m h = refl

by_piece_only : true ≡ false → ⊥
by_piece_only h = cc

pub burst_is_sound : (b : BurstData) → IsSound (framing_of (Burst b))
burst_is_sound b = record {
  some = λ x. none_whole b x (burst_whole b [] x) refl;
  one = λ w v x y h k e.
      let p = burst_tells b w x h in
      let q = burst_tells b v y k in
      sym (append-nil w) ∙ (ap (λ t. w ++ t) (sym p.nothing) ∙ (e ∙ (ap (λ t. v ++ t) q.nothing ∙ append-nil v)));
  synced = λ w x h. begins_tells b.sync w (burst_tells b w x h).begin;
  error_synced = λ u c h. begins_tells b.sync u (and_tells (begins b.sync u) (nat_lt frame_limit (length u)) (error_tells (begins b.sync u && nat_lt frame_limit (length u)) (Some TooLong) c h).0).0;
  no_error_in_none = not_long (begins b.sync []) 0 (omega arith);
  apart = λ w x h.
      let p = burst_tells b w x h in
      not_long (begins b.sync (w ++ x)) (length (w ++ x)) (omega (arith, p.within, length-append w x, ap length p.nothing));
  whole_stays = λ e w x y h. absurd (by_piece_only e);
  error_stays = λ u y c h.
      let t = error_tells (begins b.sync u && nat_lt frame_limit (length u)) (Some TooLong) c h in
      let a = and_tells (begins b.sync u) (nat_lt frame_limit (length u)) t.0 in
      rw (begins_more b.sync u y a.0, lt_test frame_limit (length (u ++ y)) (omega (arith, lt_tells frame_limit (length u) a.1, length-append u y))) t.1;
}
