-- What a stage has given so far, step by step.
use Rattle.std.proofs.Common.{◌≡◌, ℕ, ◌+◌, Bool, true, false, List, [], ◌∷◌, ◌++◌, refl, sym, ◌∙◌, ap, subst, append_assoc, arith, Option, None, inl, inr}
use Rattle.std.proofs.lemmas.List.{append-nil}
use Rattle.cts_def.specs.declared.bad_cause.BadCause.{BadCause}
use Rattle.cts_framing.specs.Framing.{Framing, Output, IsSound}
use Rattle.cts_framing.specs.Cuts.{Pieces, Ends, IsCut}
use Rattle.cts_framing.specs.Packets.{CutEach, cut_by, joined, and_then}
use Rattle.cts_framing.specs.SoFar.{EndsWith, TakenSoFar, NothingSoFar, MoreIsTaken, PieceComes, AllIsTaken}
use Rattle.cts_framing.proofs.Framings.{taken_none, ends_nil}
use Rattle.cts_framing.proofs.OneCut.{one_cut}
use Rattle.cts_framing.proofs.Takings.{taken_join, cut_more}

-- where nothing more can be cut
still : List ℕ → Option BadCause → Pieces
still rest bad = record { outs = []; skipped = 0; empty = 0; rest = rest; bad = bad }

still_cut : (f : Framing) (rest : List ℕ) (bad : Option BadCause) → Ends f rest bad → IsCut f rest (still rest bad)
unfolding still
still_cut f rest bad e = record { taken = taken_none f rest; ends = e }

is_still : (f : Framing) → IsSound f → (rest : List ℕ) (bad : Option BadCause) (c : Pieces) → Ends f rest bad → IsCut f rest c → c ≡ still rest bad
is_still f s rest bad c e h = one_cut f rest c (still rest bad) s h (still_cut f rest bad e)

-- a cut of pieces ends as a cut of bytes does
each_ends : (f : Framing) (from : List ℕ) (ps : List (List ℕ)) (c : Pieces) → CutEach f from ps c → Ends f c.rest c.bad
each_ends f from [] c h = h.ends
each_ends f from (p ∷ ps) c h = subst (λ (r : Pieces). Ends f r.rest r.bad) (sym h.4) (each_ends f h.0.rest ps h.1 h.3)

then_still : (c : Pieces) (from : List ℕ) (bad : Option BadCause) → and_then (still from bad) c ≡ and_then c (still c.rest c.bad)
unfolding still
then_still c from bad =
    let outs : c.outs ≡ c.outs ++ [] = sym (append-nil c.outs) in
    let skipped : 0 + c.skipped ≡ c.skipped + 0 = omega arith in
    let empty : 0 + c.empty ≡ c.empty + 0 = omega arith in
    λ i. record { outs = outs i; skipped = skipped i; empty = empty i; rest = c.rest; bad = c.bad }

then_then : (a b c : Pieces) → and_then (and_then a b) c ≡ and_then a (and_then b c)
then_then a b c =
    let outs = append_assoc a.outs b.outs c.outs in
    let skipped : (a.skipped + b.skipped) + c.skipped ≡ a.skipped + (b.skipped + c.skipped) = omega arith in
    let empty : (a.empty + b.empty) + c.empty ≡ a.empty + (b.empty + c.empty) = omega arith in
    λ i. record { outs = outs i; skipped = skipped i; empty = empty i; rest = c.rest; bad = c.bad }

-- one piece more
each_last : (f : Framing) → IsSound f → (from : List ℕ) (bad : Option BadCause) (ps : List (List ℕ)) (p : List ℕ) (before last : Pieces) → Ends f from bad → CutEach f from ps before → IsCut f (before.rest ++ p) last
    → CutEach f from (ps ++ p ∷ []) (and_then before last)
unfolding still
each_last f s from bad [] p before last e h k =
    let same = is_still f s from bad before e h in
    (last, still last.rest last.bad, subst (λ (r : Pieces). IsCut f (r.rest ++ p) last) same k, still_cut f last.rest last.bad k.ends, ap (λ (r : Pieces). and_then r last) same ∙ then_still last from bad)
each_last f s from bad (q ∷ ps) p before last e h k =
    (h.0, and_then h.1 last, h.2, each_last f s h.0.rest h.0.bad ps p h.1 last h.2.ends h.3 (subst (λ (r : Pieces). IsCut f (r.rest ++ p) last) h.4 k), ap (λ (r : Pieces). and_then r last) h.4 ∙ then_then h.0 h.1 last)

-- nothing more is cut off without a further piece
then_no_piece : (f : Framing) → IsSound f → (ps : List (List ℕ)) (before last : Pieces) → CutEach f [] ps before → IsCut f before.rest last → and_then before last ≡ before
unfolding still
then_no_piece f s ps before last h k =
    let same = is_still f s before.rest before.bad last (each_ends f [] ps before h) k in
    let outs : before.outs ++ last.outs ≡ before.outs = ap (λ (r : Pieces). before.outs ++ r.outs) same ∙ append-nil before.outs in
    let skipped : before.skipped + last.skipped ≡ before.skipped = omega (arith, ap (λ (r : Pieces). r.skipped) same) in
    let empty : before.empty + last.empty ≡ before.empty = omega (arith, ap (λ (r : Pieces). r.empty) same) in
    λ i. record { outs = outs i; skipped = skipped i; empty = empty i; rest = (same i).rest; bad = (same i).bad }

with_last : (f : Framing) → IsSound f → (pieces done : List (List ℕ)) (last : List ℕ) (before c : Pieces) → EndsWith pieces done last → CutEach f [] done before → IsCut f (before.rest ++ last) c → CutEach f [] pieces (and_then before c)
with_last f s pieces done last before c (inl e) h k = subst (λ ps. CutEach f [] ps (and_then before c)) (sym e) (each_last f s [] None done last before c (ends_nil f s) h k)
with_last f s pieces done last before c (inr e) h k =
    let alone : IsCut f before.rest c = subst (λ b. IsCut f b c) (ap (λ l. before.rest ++ l) e.1 ∙ append-nil before.rest) k in
    subst (λ ps. CutEach f [] ps (and_then before c)) (sym e.0) (subst (CutEach f [] done) (sym (then_no_piece f s done before c h alone)) h)

-- all pieces were cut
pub all_cut : (f : Framing) → IsSound f → (pieces : List (List ℕ)) (given : List Output) (skipped empty : ℕ) (pending : List ℕ) (bad : Option BadCause) → TakenSoFar f pieces given skipped empty pending → Ends f pending bad
    → CutEach f [] pieces (record { outs = given; skipped = skipped; empty = empty; rest = pending; bad = bad })
all_cut f s pieces given skipped empty pending bad h ends =
    let last : Pieces = record { outs = h.outs; skipped = h.more_skipped; empty = h.more_empty; rest = pending; bad = bad } in
    let same : and_then h.before last ≡ record { outs = given; skipped = skipped; empty = empty; rest = pending; bad = bad } =
    λ i. record { outs = sym h.given_are i; skipped = sym h.skipped_is i; empty = sym h.empty_is i; rest = pending; bad = bad } in
    subst (CutEach f [] pieces) same (with_last f s pieces h.done h.last h.before last h.pieces_are h.each (record { taken = h.taken; ends = ends }))

-- cuts of pieces one after another are the cut of their bytes
each_joined : (f : Framing) → IsSound f → f.by_piece ≡ false → (from : List ℕ) (ps : List (List ℕ)) (c : Pieces) → CutEach f from ps c → IsCut f (from ++ joined ps) c
each_joined f s e from [] c h = subst (λ b. IsCut f b c) (sym (append-nil from)) h
each_joined f s e from (p ∷ ps) c h =
    let more = each_joined f s e h.0.rest ps h.1 h.3 in
    subst (λ (r : Pieces). IsCut f (from ++ (p ++ joined ps)) r) (sym h.4)
    (subst (λ b. IsCut f b (and_then h.0 h.1)) (append_assoc from p (joined ps)) (cut_more f s e (from ++ p) (joined ps) h.0 h.1 h.2 more))

by_kind : (b : Bool) (f : Framing) → IsSound f → f.by_piece ≡ b → (ps : List (List ℕ)) (c : Pieces) → CutEach f [] ps c → cut_by b f ps c
by_kind true f s e ps c h = h
by_kind false f s e ps c h = each_joined f s e [] ps c h

pub all_is_taken : AllIsTaken
all_is_taken f pieces given skipped empty pending bad s h ends = by_kind f.by_piece f s refl pieces _ (all_cut f s pieces given skipped empty pending bad h ends)

pub nothing_so_far : NothingSoFar
unfolding still
nothing_so_far f s = record {
  done = [];
  last = [];
  pieces_are = inr (refl, refl);
  before = still [] None;
  each = still_cut f [] None (ends_nil f s);
  outs = [];
  more_skipped = 0;
  more_empty = 0;
  taken = taken_none f [];
  given_are = refl;
  skipped_is = refl;
  empty_is = refl;
}

pub more_is_taken : MoreIsTaken
more_is_taken f pieces given outs skipped empty more_skipped more_empty pending rest h t = record {
  done = h.done;
  last = h.last;
  pieces_are = h.pieces_are;
  before = h.before;
  each = h.each;
  outs = h.outs ++ outs;
  more_skipped = h.more_skipped + more_skipped;
  more_empty = h.more_empty + more_empty;
  taken = taken_join f (h.before.rest ++ h.last) pending rest h.outs outs h.more_skipped h.more_empty more_skipped more_empty h.taken t;
  given_are = ap (λ g. g ++ outs) h.given_are ∙ append_assoc h.before.outs h.outs outs;
  skipped_is = omega (arith, h.skipped_is);
  empty_is = omega (arith, h.empty_is);
}

pub piece_comes : PieceComes
piece_comes f pieces given skipped empty pending piece bad s h ends = record {
  done = pieces;
  last = piece;
  pieces_are = inl refl;
  before = record { outs = given; skipped = skipped; empty = empty; rest = pending; bad = bad };
  each = all_cut f s pieces given skipped empty pending bad h ends;
  outs = [];
  more_skipped = 0;
  more_empty = 0;
  taken = taken_none f (pending ++ piece);
  given_are = sym (append-nil given);
  skipped_is = omega arith;
  empty_is = omega arith;
}
