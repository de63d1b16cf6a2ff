-- A whole frame alone is cut so.
use Rattle.std.proofs.Common.{◌≡◌, ℕ, ◌≤◌, Bool, true, false, ◌&&◌, cond, List, [], ◌∷◌, length, refl, sym, subst, arith, Some, None}
use Rattle.std.specs.Prelude.{nat_le}
use Rattle.std.proofs.lemmas.List.{append-nil}
use Rattle.cts_framing.specs.Framing.{Framing, Output, IsSound}
use Rattle.cts_framing.specs.Cuts.{IsCut}
use Rattle.cts_framing.proofs.Framings.{ends_nil}
use Rattle.cts_framing.specs.Patterns.{begins}
use Rattle.cts_encode.specs.ReadBack.{single}
use Rattle.cts_framing.specs.Stating.{Stated, Long, is_long}
use Rattle.cts_encode.specs.declared.encode_fault.EncodeFault.{EncodeFault}
use Rattle.cts_framing.proofs.Steady.{frame_test}

whole_cut : (f : Framing) → IsSound f → (w : List ℕ) → f.whole w [] ≡ true → IsCut f w (single (f.output w))
whole_cut f s w h = record {
  taken = record {
    parts = record { gap = []; frame = w } ∷ [];
    gap = [];
    cut = ([], sym (append-nil w), h, tt, refl);
    clear = tt;
    outs_are = refl;
    skipped_is = refl;
    empty_is = omega arith;
  };
  ends = ends_nil f s;
}

pub cut_of : (f : Framing) → IsSound f → (w : List ℕ) (o : Output) → f.whole w [] ≡ true → f.output w ≡ o → IsCut f w (single o)
cut_of f s w o h e = subst (λ (x : Output). IsCut f w (single x)) e (whole_cut f s w h)

-- a frame of some bytes that begins with the sync pattern and is as long as it states
pub is_whole : (sync : List ℕ) (states : List ℕ → Stated) (w : List ℕ) → 1 ≤ length w → begins sync w ≡ true → states w ≡ Long (length w) → (nat_le 1 (length w) && begins sync w && is_long (states w) (length w)) ≡ true
is_whole sync states w some b h = frame_test sync states w (record { some = some; begin = b; states_are = h })

pub no_refusal : (a b c : Bool) (x y z : EncodeFault) → cond a (Some x) (cond b (Some y) (cond c (Some z) None)) ≡ None → (a ≡ false) × (b ≡ false) × (c ≡ false)
no_refusal true b c x y z h = cc
no_refusal false true c x y z h = cc
no_refusal false false true x y z h = cc
no_refusal false false false x y z h = (refl, refl, refl)
