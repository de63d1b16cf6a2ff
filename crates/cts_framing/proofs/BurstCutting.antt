-- What BURST cuts.
use Rattle.std.proofs.Common.{◌≡◌, ◌≤◌, ◌<◌, ℕ, true, List, [], ◌∷◌, ◌++◌, length, refl, sym, ◌∙◌, ap, subst, arith, append_assoc, length-append, Option, Some, None}
use Rattle.std.proofs.lemmas.List.{append-nil, append_cancel_left}
use Rattle.cts_def.specs.declared.bad_cause.BadCause.{BadCause}
use Rattle.cts_def.specs.declared.bad_cause.BadCause.TheVariants.{TooLong}
use Rattle.cts_def.specs.Protocols.{BurstData, Burst}
use Rattle.cts_framing.specs.Bursts.{AllBurstCuts}
use Rattle.cts_framing.specs.Cuts.{NoneBegins, Ends}
use Rattle.cts_framing.specs.Framing.{Agree, BeginsWith}
use Rattle.cts_def.specs.Most.{frame_limit}
use Rattle.cts_framing.specs.Rows.{burst_whole, burst_error, framing_of}
use Rattle.cts_framing.specs.SyncPatterns.{OccursBehind, IsLeftmost, EndsByPattern}
use Rattle.cts_framing.proofs.BurstSound.{burst_tells}
use Rattle.cts_framing.proofs.ErrorsExact.{burst_exact as burst_error_exact}
use Rattle.cts_framing.proofs.Fronts.{begins_tells}
use Rattle.cts_framing.proofs.Framings.{ends_nil, pattern_agrees}
use Rattle.cts_framing.proofs.RowsExact.{burst_exact}
use Rattle.cts_framing.proofs.Sound.{is_sound}
use Rattle.cts_framing.proofs.SyncPattern.{clear_of_leftmost, clear_of_end}

module _ (b : BurstData) (bytes before u : List ℕ) (e : bytes ≡ before ++ u) where
  -- the bytes after the leftmost occurrence begin with the pattern
  begins_there : IsLeftmost b.sync bytes before → BeginsWith b.sync u
  begins_there m = (m.occurs.0, append_cancel_left before u (b.sync ++ m.occurs.0) (sym e ∙ m.occurs.1))

  frame_whole : IsLeftmost b.sync bytes before → 1 ≤ length u → length u ≤ frame_limit → burst_whole b u [] ≡ true
  frame_whole m some few = (burst_exact b u []).1 (record { last = refl; some = some; begin = begins_there m; within = few })

  too_long : IsLeftmost b.sync bytes before → frame_limit < length u → Ends (framing_of (Burst b)) u (Some TooLong)
  too_long m long =
      let begin = begins_there m in
      record {
        synced = subst (Agree b.sync) (sym begin.1) (pattern_agrees b.sync begin.0);
        no_frame = λ w x is h.
            let t = burst_tells b w x h in
            absurd (omega (arith, t.within, long, ap length is, length-append w x, ap length t.nothing));
        error = (burst_error_exact b u TooLong).1 (record { begin = begin; long = long; cause = refl });
      }

  -- where the pattern does not occur, the bytes do not begin with it
  not_there : ((other : List ℕ) → OccursBehind b.sync bytes other → ⊥) → BeginsWith b.sync u → ⊥
  not_there never h = never before (h.0, e ∙ ap (λ v. before ++ v) h.1)

  no_error : ((other : List ℕ) → OccursBehind b.sync bytes other → ⊥) → (o : Option BadCause) → burst_error b u ≡ o → o ≡ None
  no_error never None h = refl
  no_error never (Some c) h = absurd (not_there never ((burst_error_exact b u c).0 h).begin)

  kept_ends : ((other : List ℕ) → OccursBehind b.sync bytes other → ⊥) → Agree b.sync u → Ends (framing_of (Burst b)) u None
  kept_ends never a = record {
    synced = a;
    no_frame = λ w x is h.
        let begin = begins_tells b.sync w (burst_tells b w x h).begin in
        not_there never (begin.0 ++ x, is ∙ (ap (λ v. v ++ x) begin.1 ∙ append_assoc b.sync begin.0 x));
    error = no_error never (burst_error b u) refl;
  }

pub burst_cuts : AllBurstCuts
burst_cuts b bytes = record {
  frame = λ before frame e m some few. record {
    taken = record {
      parts = record { gap = before; frame = frame } ∷ [];
      gap = [];
      cut = ([], e ∙ ap (λ v. before ++ v) (sym (append-nil frame)), frame_whole b bytes before frame e m some few, subst (NoneBegins b.sync before) (sym (append-nil frame)) (clear_of_leftmost b.sync bytes before frame e m), refl);
      clear = tt;
      outs_are = refl;
      skipped_is = omega arith;
      empty_is = omega arith;
    };
    ends = ends_nil (framing_of (Burst b)) (is_sound (Burst b));
  };
  long = λ before frame e m long. record {
    taken = record { parts = []; gap = before; cut = e; clear = clear_of_leftmost b.sync bytes before frame e m; outs_are = refl; skipped_is = omega arith; empty_is = refl };
    ends = too_long b bytes before frame e m long;
  };
  none = λ before kept never k.
      let end : EndsByPattern b.sync bytes before kept = record { all = k.suffix; found = λ other o. absurd (never other o); kept = λ _. k } in
      let clear = clear_of_end b.sync bytes before kept end in
      record {
        taken = record { parts = []; gap = before; cut = k.suffix; clear = clear.0; outs_are = refl; skipped_is = omega arith; empty_is = refl };
        ends = kept_ends b bytes before kept k.suffix never clear.1;
      };
}
