-- Each list of bytes has at most one cut.
use Rattle.std.proofs.Common.{◌≡◌, ℕ, true, List, [], ◌∷◌, ◌++◌, length, refl, sym, ◌∙◌, ap, subst, arith, Option}
use Rattle.std.proofs.lemmas.List.{append_cancel_left}
use Rattle.cts_def.specs.declared.bad_cause.BadCause.{BadCause}
use Rattle.cts_framing.specs.Framing.{Framing, Agree, IsSound}
use Rattle.cts_framing.specs.Laws.{HasOneCut}
use Rattle.cts_framing.proofs.Framings.{whole_agrees}
use Rattle.cts_framing.specs.Cuts.{NoneBegins, Part, Parts, outputs, empties, gaps, Ends, Pieces, IsCut}

-- the first place where a frame may begin is one
pub first_place : (s gap gap' u u' : List ℕ) → gap ++ u ≡ gap' ++ u' → NoneBegins s gap u → NoneBegins s gap' u' → Agree s u → Agree s u' → (gap ≡ gap') × (u ≡ u')
first_place s [] [] u u' e n n' a a' = (refl, e)
first_place s [] (y ∷ gap') u u' e n n' a a' = absurd (n'.0 (subst (Agree s) e a))
first_place s (x ∷ gap) [] u u' e n n' a a' = absurd (n.0 (subst (Agree s) (sym e) a'))
first_place s (x ∷ gap) (y ∷ gap') u u' e n n' a a' =
    let head : x ≡ y = cc in
    let tail : gap ++ u ≡ gap' ++ u' = cc in
    let rest = first_place s gap gap' u u' tail n.1 n'.1 a a' in
    (cc (head, rest.0), rest.1)

same_part : (p q : Part) → p.gap ≡ q.gap → p.frame ≡ q.frame → p ≡ q
same_part p q e f = λ i. record { gap = e i; frame = f i }

-- the first parts of two cuts of one list are one
pub same_head : (f : Framing) → IsSound f → (p q : Part) (x y : List ℕ) → p.gap ++ (p.frame ++ x) ≡ q.gap ++ (q.frame ++ y) → f.whole p.frame x ≡ true → f.whole q.frame y ≡ true
    → NoneBegins f.sync p.gap (p.frame ++ x) → NoneBegins f.sync q.gap (q.frame ++ y) → (p ≡ q) × (x ≡ y)
same_head f s p q x y e h k n m =
    let place = first_place f.sync p.gap q.gap (p.frame ++ x) (q.frame ++ y) e n m (whole_agrees f s p.frame x h) (whole_agrees f s q.frame y k) in
    let frame = s.one p.frame q.frame x y h k place.1 in
    (same_part p q place.0 frame, append_cancel_left q.frame x y (ap (λ t. t ++ x) (sym frame) ∙ place.1))

-- what a cut ends with
pub record Rests (f : Framing) (gap rest : List ℕ) (bad : Option BadCause) : Type 0 where
  pub clear : NoneBegins f.sync gap rest
  pub ends : Ends f rest bad

-- a part does not stand where a list ends
pub no_part : (f : Framing) → IsSound f → (p : Part) (x gap rest : List ℕ) (bad : Option BadCause) → p.gap ++ (p.frame ++ x) ≡ gap ++ rest → f.whole p.frame x ≡ true
    → NoneBegins f.sync p.gap (p.frame ++ x) → Rests f gap rest bad → ⊥
no_part f s p x gap rest bad e h n r =
    let place = first_place f.sync p.gap gap (p.frame ++ x) rest e n r.clear (whole_agrees f s p.frame x h) r.ends.synced in
    r.ends.no_frame p.frame x (sym place.1) h

pub record SameCut (ps qs : List Part) (gap gap' rest rest' : List ℕ) (bad bad' : Option BadCause) : Type 0 where
  pub parts : ps ≡ qs
  pub gap_is : gap ≡ gap'
  pub rest_is : rest ≡ rest'
  pub bad_is : bad ≡ bad'

parts_one : (f : Framing) → IsSound f → (ps qs : List Part) (b gap gap' rest rest' : List ℕ) (bad bad' : Option BadCause)
    → Parts f ps b (gap ++ rest) → Parts f qs b (gap' ++ rest') → Rests f gap rest bad → Rests f gap' rest' bad' → SameCut ps qs gap gap' rest rest' bad bad'
parts_one f s [] [] b gap gap' rest rest' bad bad' h k r r' =
    let place = first_place f.sync gap gap' rest rest' (sym h ∙ k) r.clear r'.clear r.ends.synced r'.ends.synced in
    record { parts = refl; gap_is = place.0; rest_is = place.1; bad_is = sym r.ends.error ∙ (ap f.error place.1 ∙ r'.ends.error) }
parts_one f s [] (q ∷ qs) b gap gap' rest rest' bad bad' h k r r' = absurd (no_part f s q k.0 gap rest bad (sym k.1 ∙ h) k.2 k.3 r)
parts_one f s (p ∷ ps) [] b gap gap' rest rest' bad bad' h k r r' = absurd (no_part f s p h.0 gap' rest' bad' (sym h.1 ∙ k) h.2 h.3 r')
parts_one f s (p ∷ ps) (q ∷ qs) b gap gap' rest rest' bad bad' h k r r' =
    let head = same_head f s p q h.0 k.0 (sym h.1 ∙ k.1) h.2 k.2 h.3 k.3 in
    let tail = parts_one f s ps qs h.0 gap gap' rest rest' bad bad' h.4 (subst (λ t. Parts f qs t (gap' ++ rest')) (sym head.1) k.4) r r' in
    record { parts = cc (head.0, tail.parts); gap_is = tail.gap_is; rest_is = tail.rest_is; bad_is = tail.bad_is }

-- the cuts of one list, however it is written
pub same_cut : (f : Framing) → IsSound f → (b b' : List ℕ) → b ≡ b' → (c d : Pieces) (h : IsCut f b c) (k : IsCut f b' d) → SameCut h.taken.parts k.taken.parts h.taken.gap k.taken.gap c.rest d.rest c.bad d.bad
same_cut f s b b' e c d h k =
    let t = h.taken in
    let u = k.taken in
    parts_one f s t.parts u.parts b t.gap u.gap c.rest d.rest c.bad d.bad t.cut (subst (λ v. Parts f u.parts v (u.gap ++ d.rest)) (sym e) u.cut)
    (record { clear = t.clear; ends = h.ends }) (record { clear = u.clear; ends = k.ends })

pub one_cut : (f : Framing) (b : List ℕ) (c d : Pieces) → IsSound f → IsCut f b c → IsCut f b d → c ≡ d
one_cut f b c d s h k =
    let t = h.taken in
    let u = k.taken in
    let same = same_cut f s b b refl c d h k in
    let outs : c.outs ≡ d.outs = t.outs_are ∙ (ap (outputs f) same.parts ∙ sym u.outs_are) in
    let skipped : c.skipped ≡ d.skipped = omega (arith, t.skipped_is, u.skipped_is, ap gaps same.parts, ap length same.gap_is) in
    let empty : c.empty ≡ d.empty = t.empty_is ∙ (ap (empties f) same.parts ∙ sym u.empty_is) in
    λ i. record { outs = outs i; skipped = skipped i; empty = empty i; rest = same.rest_is i; bad = same.bad_is i }

pub has_one_cut : HasOneCut
has_one_cut f b c d s h k = let same = same_cut f s b b refl c d h k in record { pieces = one_cut f b c d s h k; parts = same.parts; gap = same.gap_is }
