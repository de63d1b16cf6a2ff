-- Each list of bytes has a cut.
use Rattle.std.proofs.Common.{◌≡◌, ℕ, zero, suc, ◌+◌, ◌≤◌, ◌<◌, Bool, true, false, List, [], ◌∷◌, ◌++◌, length, refl, sym, ◌∙◌, ap, subst, arith, ◌⊎◌, inl, inr, length-append}
use native.Mathlib.Decide.{dec_le}
use Rattle.cts_framing.specs.Framing.{Framing, Agree, IsSound}
use Rattle.cts_framing.specs.Cuts.{NoneBegins, Part, outputs, one_if_empty, Pieces, IsCut}
use Rattle.cts_framing.proofs.Framings.{agree_nil}

dec_same : (m n : ℕ) → (m ≡ n) ⊎ ((m ≡ n) → ⊥)
dec_same m n = elim (dec_le m n) [
  | yes a ↦ elim (dec_le n m) [ yes b ↦ inl (omega (arith, a, b)) | no b ↦ inr (λ e. omega (arith, b, e)) ]
  | no a ↦ inr (λ e. omega (arith, a, e))
]

both : (c x : ℕ) (s u : List ℕ) → (c ≡ x) ⊎ ((c ≡ x) → ⊥) → Agree s u ⊎ (Agree s u → ⊥) → ((c ≡ x) × Agree s u) ⊎ ((c ≡ x) × Agree s u → ⊥)
both c x s u (inl e) (inl a) = inl (e, a)
both c x s u (inl e) (inr not) = inr (λ h. not h.1)
both c x s u (inr not) a = inr (λ h. not h.0)

-- whether a pattern and a list agree
dec_agree : (s u : List ℕ) → Agree s u ⊎ (Agree s u → ⊥)
dec_agree [] u = inl tt
dec_agree (c ∷ s) [] = inl tt
dec_agree (c ∷ s) (x ∷ u) = both c x s u (dec_same c x) (dec_agree s u)

-- each list has a first place where a frame may begin
pub place : (s b : List ℕ) → (gap : List ℕ) × (u : List ℕ) × (b ≡ gap ++ u) × NoneBegins s gap u × Agree s u
place s [] = ([], [], refl, tt, agree_nil s)
place s (x ∷ b) = elim (dec_agree s (x ∷ b)) [
  | inl a ↦ ([], x ∷ b, refl, tt, a)
  | inr not ↦ let r = place s b in (x ∷ r.0, r.1, ap (λ t. x ∷ t) r.2, (λ a. not (subst (λ t. Agree s (x ∷ t)) (sym r.2) a), r.3), r.4)
]

dec_true : (b : Bool) → (b ≡ true) ⊎ (b ≡ true → ⊥)
dec_true true = inl refl
dec_true false = inr (λ e. cc)

-- a front of u that passes the test, with what follows it
Front : (List ℕ → List ℕ → Bool) → List ℕ → Type 0
Front p u = (w : List ℕ) × (x : List ℕ) × (u ≡ w ++ x) × (p w x ≡ true)

NoFront : (List ℕ → List ℕ → Bool) → List ℕ → Type 0
NoFront p u = (w x : List ℕ) → u ≡ w ++ x → p w x ≡ true → ⊥

at_front : (p : List ℕ → List ℕ → Bool) (a : ℕ) (u : List ℕ) → Front (λ w x. p (a ∷ w) x) u → Front p (a ∷ u)
unfolding Front
at_front p a u h = (a ∷ h.0, h.1, ap (λ t. a ∷ t) h.2, h.3)

at_no_front : (p : List ℕ → List ℕ → Bool) (a : ℕ) (u : List ℕ) → (p [] (a ∷ u) ≡ true → ⊥) → NoFront (λ w x. p (a ∷ w) x) u → NoFront p (a ∷ u)
unfolding NoFront
at_no_front p a u none never [] x e h = none (subst (λ t. p [] t ≡ true) (sym e) h)
at_no_front p a u none never (c ∷ w) x e h =
    let head : a ≡ c = cc in
    let tail : u ≡ w ++ x = cc in
    never w x tail (subst (λ t. p (t ∷ w) x ≡ true) (sym head) h)

nil_no_front : (p : List ℕ → List ℕ → Bool) → (p [] [] ≡ true → ⊥) → NoFront p []
unfolding NoFront
nil_no_front p none [] x e h = none (subst (λ t. p [] t ≡ true) (sym e) h)
nil_no_front p none (c ∷ w) x e h = cc

some_front : (p : List ℕ → List ℕ → Bool) (u : List ℕ) → Front p u ⊎ NoFront p u
unfolding Front
some_front p [] = elim (dec_true (p [] [])) [ inl h ↦ inl ([], [], refl, h) | inr never ↦ inr (nil_no_front p never) ]
some_front p (a ∷ u) = elim (dec_true (p [] (a ∷ u))) [
  | inl h ↦ inl ([], a ∷ u, refl, h)
  | inr none ↦ elim (some_front (λ w x. p (a ∷ w) x) u) [ inl h ↦ inl (at_front p a u h) | inr never ↦ inr (at_no_front p a u none never) ]
]

at_end : (f : Framing) (b gap u : List ℕ) → b ≡ gap ++ u → NoneBegins f.sync gap u → Agree f.sync u → NoFront f.whole u → (c : Pieces) × IsCut f b c
unfolding NoFront
at_end f b gap u e n a never =
    let c : Pieces = record { outs = []; skipped = length gap; empty = 0; rest = u; bad = f.error u } in (
      c,
      record {
        taken = record { parts = []; gap = gap; cut = e; clear = n; outs_are = refl; skipped_is = omega arith; empty_is = refl };
        ends = record { synced = a; no_frame = never; error = refl };
      },
    )

with_part : (f : Framing) (b gap w x : List ℕ) → b ≡ gap ++ (w ++ x) → NoneBegins f.sync gap (w ++ x) → f.whole w x ≡ true → (c : Pieces) × IsCut f x c → (c : Pieces) × IsCut f b c
with_part f b gap w x e n h tail =
    let p : Part = record { gap = gap; frame = w } in
    let t = tail.1.taken in
    let c : Pieces = record { outs = outputs f (p ∷ t.parts); skipped = length gap + tail.0.skipped; empty = one_if_empty (f.output w).bytes + tail.0.empty; rest = tail.0.rest; bad = tail.0.bad } in (
      c,
      record {
        taken = record { parts = p ∷ t.parts; gap = t.gap; cut = (x, e, h, n, t.cut); clear = t.clear; outs_are = refl; skipped_is = omega (arith, t.skipped_is); empty_is = omega (arith, t.empty_is) };
        ends = tail.1.ends;
      },
    )

not_empty : (f : Framing) → IsSound f → (w x : List ℕ) → f.whole w x ≡ true → 0 < length w
not_empty f s [] x h = let n = s.some x in cc
not_empty f s (c ∷ w) x h = omega arith

shorter : (b gap w x : List ℕ) (n : ℕ) → length b ≤ suc n → b ≡ gap ++ (w ++ x) → 0 < length w → length x ≤ n
shorter b gap w x n h e s = omega (arith, h, ap length e, length-append gap (w ++ x), length-append w x, s)

cut_at : (n : ℕ) (f : Framing) → IsSound f → (b gap u : List ℕ) → ((x : List ℕ) → length x ≤ n → (c : Pieces) × IsCut f x c) → length b ≤ suc n
    → b ≡ gap ++ u → NoneBegins f.sync gap u → Agree f.sync u → Front f.whole u ⊎ NoFront f.whole u → (c : Pieces) × IsCut f b c
unfolding Front
cut_at n f s b gap u go h e m a (inl front) =
    let all : b ≡ gap ++ (front.0 ++ front.1) = e ∙ ap (λ t. gap ++ t) front.2 in
    with_part f b gap front.0 front.1 all (subst (NoneBegins f.sync gap) front.2 m) front.3 (go front.1 (shorter b gap front.0 front.1 n h all (not_empty f s front.0 front.1 front.3)))
cut_at n f s b gap u go h e m a (inr never) = at_end f b gap u e m a never

cut_nil : (f : Framing) → IsSound f → (b : List ℕ) → length b ≤ 0 → (c : Pieces) × IsCut f b c
cut_nil f s [] h = at_end f [] [] [] refl tt (agree_nil f.sync) (nil_no_front f.whole (λ e. let n = s.some [] in cc))
cut_nil f s (x ∷ b) h = absurd (omega (arith, h))

cut_within : (n : ℕ) (f : Framing) → IsSound f → (b : List ℕ) → length b ≤ n → (c : Pieces) × IsCut f b c
cut_within zero f s b h = cut_nil f s b h
cut_within (suc n) f s b h = let r = place f.sync b in cut_at n f s b r.0 r.1 (cut_within n f s) h r.2 r.3 r.4 (some_front f.whole r.1)

pub some_cut : (f : Framing) (b : List ℕ) → IsSound f → (c : Pieces) × IsCut f b c
some_cut f b s = cut_within (length b) f s b (omega arith)
