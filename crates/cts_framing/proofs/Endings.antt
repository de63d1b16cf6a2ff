-- Where no whole frame stands, of framings whose frames state their length.
use Rattle.std.proofs.Common.{◌≡◌, ℕ, ◌≤◌, ◌<◌, true, List, ◌++◌, length, sym, ◌∙◌, ap, subst, arith, Some, None, length-append}
use Rattle.cts_def.specs.declared.bad_cause.BadCause.{BadCause}
use Rattle.cts_framing.specs.Cuts.{Ends}
use Rattle.cts_framing.specs.Framing.{Output, Agree}
use Rattle.cts_framing.specs.Patterns.{begins}
use Rattle.cts_framing.specs.Stating.{Stated, Open, Long, Wrong, wrong, stating, IsSteady}
use Rattle.cts_framing.proofs.Framings.{pattern_agrees}
use Rattle.cts_framing.proofs.Fronts.{begins_tells}
use Rattle.cts_framing.proofs.Steady.{frame_tells, fault_test, no_error, long_stays, one_length}

module _ (sync : List ℕ) (states : List ℕ → Stated) (out : List ℕ → Output) (k : IsSteady states) (u : List ℕ) where
  no_frame : ((n : ℕ) → states u ≡ Long n → length u < n) → (w x : List ℕ) → u ≡ w ++ x → (stating sync states out).whole w x ≡ true → ⊥
  no_frame far w x e h =
      let t = frame_tells sync states w h in
      let stays = long_stays sync states out k w x (length w) t.states_are in
      absurd (omega (arith, far (length w) (ap states e ∙ stays), ap length e, length-append w x))

  nothing_stands : Agree sync u → ((n : ℕ) → states u ≡ Long n → length u < n) → wrong (states u) ≡ None → Ends (stating sync states out) u None
  nothing_stands a far right = record { synced = a; no_frame = no_frame far; error = rw right (no_error _) }

  -- nothing is stated yet
  pub open_ends : Agree sync u → states u ≡ Open → Ends (stating sync states out) u None
  open_ends a s = nothing_stands a (λ n long. let never : Open ≡ Long n = sym s ∙ long in absurd (cc)) (ap wrong s)

  -- a frame is there in part
  pub part_ends : (n : ℕ) → Agree sync u → states u ≡ Long n → length u < n → Ends (stating sync states out) u None
  part_ends n a s few = nothing_stands a (λ m long. omega (arith, few, one_length n m (sym s ∙ long))) (ap wrong s)

  -- an error stands there
  pub wrong_ends : (c : BadCause) → 1 ≤ length u → begins sync u ≡ true → states u ≡ Wrong c → Ends (stating sync states out) u (Some c)
  wrong_ends c some begin s = record {
    synced = let b = begins_tells sync u begin in subst (Agree sync) (sym b.1) (pattern_agrees sync b.0);
    no_frame = no_frame (λ n long. let never : Wrong c ≡ Long n = sym s ∙ long in absurd (cc));
    error = fault_test sync states u c (record { some = some; begin = begin; states_are = s });
  }
