-- Bytes that are cut into pieces.
use Rattle.std.proofs.Common.{◌≡◌, ℕ, ◌≤◌, List, [], ◌∷◌, ◌++◌, length, map, sym, ◌∙◌, ap, append_assoc, append-nil}
use Rattle.std.proofs.lemmas.List.{map-append}
use Rattle.cts_entry.specs.declared.event.Event.{Event}
use Rattle.cts_entry.specs.declared.event.Event.TheVariants.{Piece}
use Rattle.cts_framing.specs.Packets.{joined}
use Rattle.cts_framing.proofs.Stagings.{joined_append}
use Rattle.cts_play.specs.Pieces.{ArePieces, AreWhole, last_piece}

-- what is known between two pieces
abbrev pub AreSoFar : ℕ → ℕ → List ℕ → List Event → List ℕ → Type 0
AreSoFar by cut bytes events left = (pieces : List (List ℕ)) × (events ≡ map (Piece by) pieces) × (joined pieces ++ left ≡ bytes) × AreWhole cut pieces

whole_more : (cut : ℕ) (pieces : List (List ℕ)) (p : List ℕ) → AreWhole cut pieces → length p ≡ cut → AreWhole cut (pieces ++ p ∷ [])
whole_more cut [] p all e = (e, tt)
whole_more cut (q ∷ pieces) p all e = (all.0, whole_more cut pieces p all.1 e)

-- one more
pub one_more : (by cut : ℕ) (bytes left piece after : List ℕ) (events more : List Event) → AreSoFar by cut bytes events left → left ≡ piece ++ after → length piece ≡ cut → more ≡ events ++ Piece by piece ∷ []
    → AreSoFar by cut bytes more after
one_more by cut bytes left piece after events more s e l m = (
  s.0 ++ piece ∷ [],
  m ∙ (ap (λ (es : List Event). es ++ Piece by piece ∷ []) s.1 ∙ sym (map-append (Piece by) s.0 (piece ∷ []))),
  ap (λ (v : List ℕ). v ++ after) (joined_append s.0 (piece ∷ []) ∙ ap (λ (v : List ℕ). joined s.0 ++ v) (append-nil piece))
      ∙ (append_assoc (joined s.0) piece after ∙ (ap (λ (v : List ℕ). joined s.0 ++ v) (sym e) ∙ s.2)),
  whole_more cut s.0 piece s.3 l,
)

-- the last one, or none
pub with_last : (by cut : ℕ) (bytes left : List ℕ) (events : List Event) → AreSoFar by cut bytes events left → length left ≤ cut → ArePieces by cut bytes (events ++ map (Piece by) (last_piece left))
with_last by cut bytes left events s l = record {
  pieces = s.0;
  last = left;
  events_are = ap (λ (es : List Event). es ++ map (Piece by) (last_piece left)) s.1 ∙ sym (map-append (Piece by) s.0 (last_piece left));
  all = s.2;
  whole = s.3;
  rest = l;
}
