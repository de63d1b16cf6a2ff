-- Lemmas on gaps and parts, whatever a frame is.
use Rattle.std.proofs.Common.{◌≡◌, ℕ, ◌+◌, false, true, List, [], ◌∷◌, ◌++◌, refl, sym, ◌∙◌, ap, subst, append_assoc, arith, None}
use Rattle.cts_framing.specs.Framing.{Framing, Output, Agree, BeginsWith, IsSound}
use Rattle.cts_framing.specs.Cuts.{NoneBegins, Part, Parts, and_output, outputs, empties, gaps, Ends, Taken}

pub agree_nil : (s : List ℕ) → Agree s []
agree_nil [] = tt
agree_nil (c ∷ s) = tt

-- what agrees with more agrees with less
pub agree_shorter : (s u y : List ℕ) → Agree s (u ++ y) → Agree s u
agree_shorter [] u y h = tt
agree_shorter (c ∷ s) [] y h = tt
agree_shorter (c ∷ s) (x ∷ u) y h = (h.0, agree_shorter s u y h.1)

-- a pattern agrees with the bytes that begin with it
pub pattern_agrees : (s t : List ℕ) → Agree s (s ++ t)
pattern_agrees [] t = tt
pattern_agrees (c ∷ s) t = (refl, pattern_agrees s t)

pub begin_agrees : (s u x : List ℕ) → BeginsWith s u → Agree s (u ++ x)
begin_agrees s u x h = subst (Agree s) (sym (ap (λ v. v ++ x) h.1 ∙ append_assoc s h.0 x)) (pattern_agrees s (h.0 ++ x))

-- a frame may begin where a whole one does
pub whole_agrees : (f : Framing) → IsSound f → (w x : List ℕ) → f.whole w x ≡ true → Agree f.sync (w ++ x)
whole_agrees f s w x h = begin_agrees f.sync w x (s.synced w x h)

-- where no frame begins, none begins when more bytes come
pub none_append : (s gap u y : List ℕ) → NoneBegins s gap u → NoneBegins s gap (u ++ y)
none_append s [] u y n = tt
none_append s (x ∷ gap) u y n =
    (λ h. n.0 (agree_shorter s (x ∷ (gap ++ u)) y (subst (λ t. Agree s (x ∷ t)) (sym (append_assoc gap u y)) h)), none_append s gap u y n.1)

-- two gaps in a row
pub none_join : (s gap more u : List ℕ) → NoneBegins s gap (more ++ u) → NoneBegins s more u → NoneBegins s (gap ++ more) u
none_join s [] more u n m = m
none_join s (x ∷ gap) more u n m =
    (λ h. n.0 (subst (λ t. Agree s (x ∷ t)) (append_assoc gap more u) h), none_join s gap more u n.1 m)

-- the parts of more bytes
pub parts_append : (f : Framing) → IsSound f → f.by_piece ≡ false → (ps : List Part) (b rest y : List ℕ) → Parts f ps b rest → Parts f ps (b ++ y) (rest ++ y)
parts_append f s e [] b rest y h = ap (λ t. t ++ y) h
parts_append f s e (p ∷ ps) b rest y h = (
  h.0 ++ y,
  ap (λ t. t ++ y) h.1 ∙ (append_assoc p.gap (p.frame ++ h.0) y ∙ ap (λ t. p.gap ++ t) (append_assoc p.frame h.0 y)),
  s.whole_stays e p.frame h.0 y h.2,
  subst (NoneBegins f.sync p.gap) (append_assoc p.frame h.0 y) (none_append f.sync p.gap (p.frame ++ h.0) y h.3),
  parts_append f s e ps h.0 rest y h.4,
)

-- parts, and then parts of what is left
pub parts_join : (f : Framing) (ps qs : List Part) (b y rest : List ℕ) → Parts f ps b y → Parts f qs y rest → Parts f (ps ++ qs) b rest
parts_join f [] qs b y rest h k = subst (λ t. Parts f qs t rest) (sym h) k
parts_join f (p ∷ ps) qs b y rest h k = (h.0, h.1, h.2, h.3, parts_join f ps qs h.0 y rest h.4 k)

pub and_output_append : (o : Output) (bytes : List ℕ) (xs ys : List Output) → and_output o bytes (xs ++ ys) ≡ and_output o bytes xs ++ ys
and_output_append o [] xs ys = refl
and_output_append o (x ∷ bytes) xs ys = refl

pub outputs_append : (f : Framing) (ps qs : List Part) → outputs f (ps ++ qs) ≡ outputs f ps ++ outputs f qs
outputs_append f [] qs = refl
outputs_append f (p ∷ ps) qs =
    ap (and_output (f.output p.frame) (f.output p.frame).bytes) (outputs_append f ps qs) ∙ and_output_append (f.output p.frame) (f.output p.frame).bytes (outputs f ps) (outputs f qs)

pub empties_append : (f : Framing) (ps qs : List Part) → empties f (ps ++ qs) ≡ empties f ps + empties f qs
empties_append f [] qs = omega arith
empties_append f (p ∷ ps) qs = omega (arith, empties_append f ps qs)

pub gaps_append : (ps qs : List Part) → gaps (ps ++ qs) ≡ gaps ps + gaps qs
gaps_append [] qs = omega arith
gaps_append (p ∷ ps) qs = omega (arith, gaps_append ps qs)

-- nothing was cut off
pub taken_none : (f : Framing) (b : List ℕ) → Taken f b [] 0 0 b
taken_none f b = record { parts = []; gap = []; cut = refl; clear = tt; outs_are = refl; skipped_is = refl; empty_is = refl }

no_frame_in_none : (f : Framing) → IsSound f → (w x : List ℕ) → [] ≡ w ++ x → f.whole w x ≡ true → ⊥
no_frame_in_none f s [] x e h = let n = s.some x in cc
no_frame_in_none f s (c ∷ w) x e h = cc

-- no frame stands in no bytes, and no error
pub ends_nil : (f : Framing) → IsSound f → Ends f [] None
ends_nil f s = record { synced = agree_nil f.sync; no_frame = no_frame_in_none f s; error = s.no_error_in_none }
