-- No piece comes to a chain of which a stage has failed.
use Rattle.std.proofs.Common.{◌≡◌, ℕ, List, [], ◌∷◌, ◌++◌, None, refl, sym, ◌∙◌, ap, subst}
use Rattle.cts_framing.specs.Cuts.{Pieces}
use Rattle.cts_framing.specs.Framing.{Framing, Output}
use Rattle.cts_framing.specs.Laws.{AllSound}
use Rattle.cts_framing.specs.Packets.{IsPackets, fault_of}
use Rattle.cts_framing.proofs.Stagings.{has_one_packets}
use Rattle.cts_trace.specs.Connections.{NoneLate}

never_blank : (xs : List (List ℕ)) (x : List ℕ) → [] ≡ xs ++ x ∷ [] → ⊥
never_blank [] x e = cc
never_blank (y ∷ xs) x e = cc

first_parts : (x y : List ℕ) (xs ys : List (List ℕ)) → x ∷ xs ≡ y ∷ ys → (x ≡ y) × (xs ≡ ys)
first_parts x y xs ys same =
    let head : x ≡ y = cc in
    let tail : xs ≡ ys = cc in
    (head, tail)

-- lists with one more element are the same before it
same_before : (xs ys : List (List ℕ)) (x y : List ℕ) → xs ++ x ∷ [] ≡ ys ++ y ∷ [] → xs ≡ ys
same_before [] [] x y e = refl
same_before [] (b ∷ ys) x y e = absurd (never_blank ys y (first_parts x b [] (ys ++ y ∷ []) e).1)
same_before (a ∷ xs) [] x y e = absurd (never_blank xs x (sym (first_parts a y (xs ++ x ∷ []) [] e).1))
same_before (a ∷ xs) (b ∷ ys) x y e =
    let parts = first_parts a b (xs ++ x ∷ []) (ys ++ y ∷ []) e in
    ap (λ (z : List ℕ). z ∷ xs) parts.0 ∙ ap (λ (l : List (List ℕ)). b ∷ l) (same_before xs ys x y parts.1)

pub late_blank : (chain : List Framing) → NoneLate chain []
late_blank chain earlier last cuts given e packets = absurd (never_blank earlier last e)

-- one more piece comes to a chain of which no stage has failed
pub late_more : (chain : List Framing) (pieces : List (List ℕ)) (piece : List ℕ) (cuts : List Pieces) (packets : List Output) → AllSound chain → IsPackets chain pieces cuts packets → fault_of cuts ≡ None → NoneLate chain (pieces ++ piece ∷ [])
late_more chain pieces piece cuts packets sound is well earlier last others given e came =
    let same = same_before pieces earlier piece last e in
    let one = has_one_packets chain earlier others cuts given packets sound came (subst (λ (l : List (List ℕ)). IsPackets chain l cuts packets) same is) in
    ap fault_of one.0 ∙ well
