-- What stands where a frame may begin that is all bytes of a piece.
use Rattle.std.proofs.Common.{◌≡◌, ℕ, ◌≤◌, ◌<◌, ◌⊎◌, inl, inr, true, ◌&&◌, List, [], length, take, drop, refl, sym, ◌∙◌, ap, arith, Some, None, min, length-append}
use Rattle.std.specs.Prelude.{nat_lt}
use Rattle.std.proofs.lemmas.List.{length-drop, take_all}
use Rattle.cts_def.specs.Protocols.{BurstData, Burst}
use Rattle.cts_def.specs.declared.bad_cause.BadCause.TheVariants.{TooLong}
use Rattle.cts_framing.specs.Cuts.{Ends}
use Rattle.cts_framing.specs.Framing.{Agree, plain}
use Rattle.cts_framing.specs.Patterns.{begins}
use Rattle.cts_def.specs.Most.{frame_limit}
use Rattle.cts_framing.specs.Rows.{burst_whole, framing_of}
use Rattle.cts_framing.proofs.BurstSound.{burst_tells, burst_is_sound}
use Rattle.cts_framing.proofs.Fronts.{agree_begins, and_tells, le_test, lt_tells, lt_test, begins_length}
use Rattle.cts_proto.specs.Founds.{FindsFrame, output_at}
use Rattle.cts_proto.proofs.Finding.{cond_none, fault_ends, nil_of, span_front}

whole_test : (b : BurstData) (w : List ℕ) → begins b.sync w ≡ true → 1 ≤ length w → length w ≤ frame_limit → burst_whole b w [] ≡ true
whole_test b w h some fits = rw (le_test 1 (length w) some, h, le_test (length w) frame_limit fits) refl

module _ (b : BurstData) (u : List ℕ) (a : Agree b.sync u) where
  pub burst_none : length u < length b.sync ⊎ (length u ≡ 0) → Ends (framing_of (Burst b)) u None
  burst_none few = record {
    synced = a;
    no_frame = λ w x e h.
        let t = burst_tells b w x h in
        let more = begins_length b.sync w t.begin in
        let len = ap length e ∙ length-append w x in
        elim few [ inl f ↦ absurd (omega (arith, f, more, len)) | inr z ↦ absurd (omega (arith, z, t.some, len)) ];
    error = cond_none (begins b.sync u && nat_lt frame_limit (length u)) (Some TooLong) (λ h.
        let p = and_tells (begins b.sync u) (nat_lt frame_limit (length u)) h in
        let many = lt_tells frame_limit (length u) p.1 in
        let more = begins_length b.sync u p.0 in
        elim few [ inl f ↦ absurd (omega (arith, f, more)) | inr z ↦ absurd (omega (arith, z, many)) ]);
  }

  pub burst_fault : length b.sync ≤ length u → frame_limit < length u → Ends (framing_of (Burst b)) u (Some TooLong)
  burst_fault s m =
      fault_ends (framing_of (Burst b)) (burst_is_sound b) u TooLong a (rw (agree_begins b.sync u s a, lt_test frame_limit (length u) m) refl)

  pub burst_found : length b.sync ≤ length u → 0 < length u → length u ≤ frame_limit → (start : ℕ) → start ≡ min b.discard (length u)
      → FindsFrame (framing_of (Burst b)) u (length u) (output_at u start (length u) None)
  burst_found s some fits start e =
      let all : take (length u) u ≡ u = take_all (length u) u (omega arith) in
      let none : drop (length u) u ≡ [] = nil_of (drop (length u) u) (omega (arith, length-drop (length u) u)) in
      record {
        some = some;
        within = omega arith;
        whole = rw (all, none) (whole_test b u (agree_begins b.sync u s a) (omega (arith, some)) fits);
        output = ap plain (sym (span_front u b.discard (length u) start e));
      }
