-- What is cut off some bytes, and then off the rest, is cut off the bytes.
use Rattle.std.proofs.Common.{◌≡◌, ℕ, ◌+◌, true, false, List, [], ◌∷◌, ◌++◌, length, refl, sym, ◌∙◌, ap, subst, append_assoc, arith, length-append}
use Rattle.std.proofs.lemmas.List.{append-nil}
use Rattle.cts_framing.specs.Framing.{Framing, Output, IsSound}
use Rattle.cts_framing.specs.Cuts.{NoneBegins, Part, Parts, outputs, empties, gaps, Taken, Pieces, IsCut}
use Rattle.cts_framing.specs.Packets.{and_then}
use Rattle.cts_framing.proofs.Framings.{none_append, none_join, parts_append, parts_join, outputs_append, empties_append, gaps_append}

-- what was cut off stays cut off when more bytes come
pub taken_append : (f : Framing) → IsSound f → f.by_piece ≡ false → (b : List ℕ) (outs : List Output) (sk em : ℕ) (rest y : List ℕ) → Taken f b outs sk em rest → Taken f (b ++ y) outs sk em (rest ++ y)
taken_append f s e b outs sk em rest y t = record {
  parts = t.parts;
  gap = t.gap;
  cut = subst (Parts f t.parts (b ++ y)) (append_assoc t.gap rest y) (parts_append f s e t.parts b (t.gap ++ rest) y t.cut);
  clear = none_append f.sync t.gap rest y t.clear;
  outs_are = t.outs_are;
  skipped_is = t.skipped_is;
  empty_is = t.empty_is;
}

-- the first frame of the second list begins with the bytes that were skipped last
join_at : (f : Framing) (b mid rest gap : List ℕ) (outs more : List Output) (sk em sk' em' : ℕ) → Taken f b outs sk em mid → (qs : List Part) → Parts f qs mid (gap ++ rest) → NoneBegins f.sync gap rest
    → more ≡ outputs f qs → sk' ≡ gaps qs + length gap → em' ≡ empties f qs → Taken f b (outs ++ more) (sk + sk') (em + em') rest
join_at f b mid rest gap outs more sk em sk' em' t [] cut clear o s e = record {
  parts = t.parts;
  gap = t.gap ++ gap;
  cut = subst (Parts f t.parts b) (ap (λ u. t.gap ++ u) cut ∙ sym (append_assoc t.gap gap rest)) t.cut;
  clear = none_join f.sync t.gap gap rest (subst (NoneBegins f.sync t.gap) cut t.clear) clear;
  outs_are = ap (λ u. outs ++ u) o ∙ (append-nil outs ∙ t.outs_are);
  skipped_is = omega (arith, t.skipped_is, s, length-append t.gap gap);
  empty_is = omega (arith, t.empty_is, e);
}
join_at f b mid rest gap outs more sk em sk' em' t (q ∷ qs) cut clear o s e =
    let q' : Part = record { gap = t.gap ++ q.gap; frame = q.frame } in
    record {
      parts = t.parts ++ q' ∷ qs;
      gap = gap;
      cut = parts_join f t.parts (q' ∷ qs) b (t.gap ++ mid) (gap ++ rest) t.cut (
        cut.0,
        ap (λ u. t.gap ++ u) cut.1 ∙ sym (append_assoc t.gap q.gap (q.frame ++ cut.0)),
        cut.2,
        none_join f.sync t.gap q.gap (q.frame ++ cut.0) (subst (NoneBegins f.sync t.gap) cut.1 t.clear) cut.3,
        cut.4,
      );
      clear = clear;
      outs_are = ap (λ u. outs ++ u) o ∙ (ap (λ u. u ++ outputs f (q ∷ qs)) t.outs_are ∙ sym (outputs_append f t.parts (q' ∷ qs)));
      skipped_is = omega (arith, t.skipped_is, s, length-append t.gap q.gap, gaps_append t.parts (q' ∷ qs));
      empty_is = omega (arith, t.empty_is, e, empties_append f t.parts (q' ∷ qs));
    }

-- what was cut off, and what was cut off the rest
pub taken_join : (f : Framing) (b mid rest : List ℕ) (outs more : List Output) (sk em sk' em' : ℕ) → Taken f b outs sk em mid → Taken f mid more sk' em' rest → Taken f b (outs ++ more) (sk + sk') (em + em') rest
taken_join f b mid rest outs more sk em sk' em' t u = join_at f b mid rest u.gap outs more sk em sk' em' t u.parts u.cut u.clear u.outs_are u.skipped_is u.empty_is

-- a frame that stands at the rest
pub taken_frame : (f : Framing) (w x : List ℕ) → f.whole w x ≡ true → Taken f (w ++ x) (outputs f (record { gap = []; frame = w } ∷ [])) 0 (empties f (record { gap = []; frame = w } ∷ [])) x
taken_frame f w x h = record {
  parts = record { gap = []; frame = w } ∷ [];
  gap = [];
  cut = (x, refl, h, tt, refl);
  clear = tt;
  outs_are = refl;
  skipped_is = refl;
  empty_is = refl;
}

-- the cut of more bytes is the cut of the bytes, and then the cut of what is left with the further ones
pub cut_more : (f : Framing) → IsSound f → f.by_piece ≡ false → (b y : List ℕ) (c d : Pieces) → IsCut f b c → IsCut f (c.rest ++ y) d → IsCut f (b ++ y) (and_then c d)
cut_more f s e b y c d h k = record {
  taken = taken_join f (b ++ y) (c.rest ++ y) d.rest c.outs d.outs c.skipped c.empty d.skipped d.empty (taken_append f s e b c.outs c.skipped c.empty c.rest y h.taken) k.taken;
  ends = k.ends;
}
