-- What the store of a protocol's bytes does.
use Rattle.std.proofs.Common.{◌≡◌, ℕ, ◌+◌, ◌-◌, ◌^◌, ◌≤◌, ◌<◌, List, [], ◌∷◌, length, take, drop, refl, sym, ◌∙◌, ap, subst, arith, true, Option, Some, None, slice_range}
use Rattle.std.proofs.lemmas.List.{take-append-drop, drop-drop, length-take-le}
use Rattle.cts_framing.specs.Framing.{Framing, Output}
use Rattle.cts_framing.specs.Cuts.{Part, Taken, and_output, one_if_empty, outputs, empties}
use Rattle.cts_framing.specs.Packets.{capped}
use Rattle.cts_framing.proofs.Framings.{taken_none}
use Rattle.cts_framing.proofs.Takings.{taken_frame, taken_join}
use Rattle.cts_proto.specs.declared.step.Stamp.{Stamp}
use Rattle.cts_proto.specs.Founds.{IsFirstPlace, FindsFrame, StampFits, output_at, heading_at}
use Rattle.cts_proto.specs.Meaning.{Meaning, framing, Advances}
use Rattle.cts_proto.specs.Stores.{moved_stamp}

-- a gap, and what is left after it
taken_gap : (f : Framing) (u : List ℕ) (gap : ℕ) → IsFirstPlace f.sync u gap → gap ≡ length (take gap u) → Taken f u [] gap 0 (drop gap u)
taken_gap f u gap h n = record {
  parts = [];
  gap = take gap u;
  cut = sym (take-append-drop gap u);
  clear = h.clear;
  outs_are = refl;
  skipped_is = omega (arith, n);
  empty_is = refl;
}

and_none : (o : Output) (bytes : List ℕ) → bytes ≡ [] → and_output o bytes [] ≡ []
and_none o [] e = refl
and_none o (x ∷ bytes) e = cc

and_some : (o : Output) (bytes : List ℕ) → 0 < length bytes → and_output o bytes [] ≡ o ∷ []
and_some o [] h = absurd (omega (arith, h))
and_some o (x ∷ bytes) h = refl

one_more : (bytes : List ℕ) → bytes ≡ [] → one_if_empty bytes + 0 ≡ 1
one_more [] e = refl
one_more (x ∷ bytes) e = cc

none_more : (bytes : List ℕ) → 0 < length bytes → one_if_empty bytes + 0 ≡ 0
none_more [] h = absurd (omega (arith, h))
none_more (x ∷ bytes) h = refl

module _ (f : Framing) (u : List ℕ) (n : ℕ) (out : Output) (h : FindsFrame f u n out) where
  alone : List Part
  alone = record { gap = []; frame = take n u } ∷ []

  taken_front : Taken f u (outputs f alone) 0 (empties f alone) (drop n u)
  unfolding alone
  taken_front = subst (λ b. Taken f b (outputs f alone) 0 (empties f alone) (drop n u)) (take-append-drop n u) (taken_frame f (take n u) (drop n u) h.whole)

  pub taken_none_of : out.bytes ≡ [] → Taken f u [] 0 1 (drop n u)
  unfolding alone
  taken_none_of e =
      let bytes : (f.output (take n u)).bytes ≡ [] = ap (λ (o : Output). o.bytes) h.output ∙ e in
      subst (λ os. Taken f u os 0 1 (drop n u)) (and_none (f.output (take n u)) (f.output (take n u)).bytes bytes)
      (subst (λ k. Taken f u (outputs f alone) 0 k (drop n u)) (one_more (f.output (take n u)).bytes bytes) taken_front)

  pub taken_one_of : 0 < length out.bytes → Taken f u (out ∷ []) 0 0 (drop n u)
  unfolding alone
  taken_one_of some =
      let bytes : 0 < length (f.output (take n u)).bytes = omega (arith, some, ap (λ (o : Output). length o.bytes) h.output) in
      subst (λ os. Taken f u os 0 0 (drop n u)) (and_some (f.output (take n u)) (f.output (take n u)).bytes bytes ∙ ap (λ o. o ∷ []) h.output)
      (subst (λ k. Taken f u (outputs f alone) 0 k (drop n u)) (none_more (f.output (take n u)).bytes bytes) taken_front)

-- what a step of the store leaves as it was
pub record Keeps (old new : Meaning) : Type 0 where
  pub configured : new.configured ≡ true
  pub spec_is : new.spec ≡ old.spec
  pub skipped_fits : old.skipped < 2 ^ 64
  pub empty_fits : old.empty < 2 ^ 64
  pub spare : old.spare ≤ new.spare

same_count : (n m : ℕ) → m < 2 ^ 64 → n ≡ m → n ≡ capped (m + 0)
same_count n m h e = omega (arith, h, e)

pub advances_by : (old new : Meaning) (outs : List Output) (sk em : ℕ) → Keeps old new → Taken (framing old) old.pending outs sk em new.pending
    → new.skipped ≡ capped (old.skipped + sk) → new.empty ≡ capped (old.empty + em) → Advances old outs new
advances_by old new outs sk em k t s e = record {
  configured = k.configured;
  spec_is = k.spec_is;
  more_skipped = sk;
  more_empty = em;
  taken = t;
  skipped = s;
  empty = e;
  spare = k.spare;
}

length_take : (n : ℕ) (u : List ℕ) → n ≤ length u → n ≡ length (take n u)
length_take n u h = sym (length-take-le n u h)

pub skips : (old new : Meaning) (gap : ℕ) → Keeps old new → IsFirstPlace (framing old).sync old.pending gap → new.pending ≡ drop gap old.pending → new.skipped ≡ capped (old.skipped + gap) → new.empty ≡ old.empty → Advances old [] new
skips old new gap k h p s e =
    advances_by old new [] gap 0 k (rw p (taken_gap (framing old) old.pending gap h (length_take gap old.pending h.within))) s (same_count new.empty old.empty k.empty_fits e)

pub takes_empty : (old new : Meaning) (n : ℕ) (out : Output) → Keeps old new → FindsFrame (framing old) old.pending n out → out.bytes ≡ [] → new.pending ≡ drop n old.pending → new.skipped ≡ old.skipped → new.empty ≡ capped (old.empty + 1) → Advances old [] new
takes_empty old new n out k h b p s e =
    advances_by old new [] 0 1 k (rw p (taken_none_of (framing old) old.pending n out h b)) (same_count new.skipped old.skipped k.skipped_fits s) e

pub takes : (old new : Meaning) (n : ℕ) (out : Output) → Keeps old new → FindsFrame (framing old) old.pending n out → 0 < length out.bytes → new.pending ≡ drop n old.pending → new.skipped ≡ old.skipped → new.empty ≡ old.empty → Advances old (out ∷ []) new
takes old new n out k h b p s e =
    advances_by old new (out ∷ []) 0 0 k (rw p (taken_one_of (framing old) old.pending n out h b)) (same_count new.skipped old.skipped k.skipped_fits s) (same_count new.empty old.empty k.empty_fits e)

pub rests : (old new : Meaning) → Keeps old new → new.pending ≡ old.pending → new.skipped ≡ old.skipped → new.empty ≡ old.empty → Advances old [] new
rests old new k p s e =
    advances_by old new [] 0 0 k (rw p (taken_none (framing old) old.pending)) (same_count new.skipped old.skipped k.skipped_fits s) (same_count new.empty old.empty k.empty_fits e)

capped_join : (a b c m n : ℕ) → b ≡ capped (a + m) → c ≡ capped (b + n) → c ≡ capped (a + (m + n))
capped_join a b c m n h k = omega (arith, h, k)

-- steps one after another
pub advances_join : (a b c : Meaning) (outs : List Output) → Advances a [] b → Advances b outs c → Advances a outs c
advances_join a b c outs h k = record {
  configured = k.configured;
  spec_is = k.spec_is ∙ h.spec_is;
  more_skipped = h.more_skipped + k.more_skipped;
  more_empty = h.more_empty + k.more_empty;
  taken = taken_join (framing a) a.pending b.pending c.pending [] outs h.more_skipped h.more_empty k.more_skipped k.more_empty h.taken (rw (← h.spec_is) k.taken);
  skipped = capped_join a.skipped b.skipped c.skipped h.more_skipped k.more_skipped h.skipped k.skipped;
  empty = capped_join a.empty b.empty c.empty h.more_empty k.more_empty h.empty k.empty;
  spare = omega (arith, h.spare, k.spare);
}

-- a span of what is left is a span of what is held
pub moved_range : (held : List ℕ) (by start end : ℕ) → slice_range (drop by held) start end ≡ slice_range held (by + start) (by + end)
moved_range held by start end =
    let e : end - start ≡ (by + end) - (by + start) = omega arith in
    ap (take (end - start)) (drop-drop start by held) ∙ ap (λ k. take k (drop (by + start) held)) e

moved_heading : (held : List ℕ) (by : ℕ) (stamp : Option Stamp) → heading_at (drop by held) stamp ≡ heading_at held (moved_stamp by stamp)
moved_heading held by None = refl
moved_heading held by (Some s) =
    let target = moved_range held by s.target.0 s.target.1 in
    let packet = moved_range held by s.packet.0 s.packet.1 in
    ap Some (λ i. record { time = s.time; target = target i; packet = packet i; stored = s.stored })

pub moved_output : (held : List ℕ) (by start end : ℕ) (stamp : Option Stamp) → output_at (drop by held) start end stamp ≡ output_at held (by + start) (by + end) (moved_stamp by stamp)
moved_output held by start end stamp =
    let bytes = moved_range held by start end in
    let heading = moved_heading held by stamp in
    λ i. record { bytes = bytes i; heading = heading i }

pub moved_fits : (len by n : ℕ) (stamp : Option Stamp) → by + n ≤ len → StampFits n stamp → StampFits len (moved_stamp by stamp)
moved_fits len by n None h s = tt
moved_fits len by n (Some s) h f = ((omega (arith, f.0.0), omega (arith, h, f.0.1)), (omega (arith, f.1.0), omega (arith, h, f.1.1)))
