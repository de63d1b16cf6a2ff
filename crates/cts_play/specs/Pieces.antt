-- Bytes as the pieces of a connection.
use Rattle.std.specs.Prelude.{◌≡◌, ◌≤◌, ℕ, List, [], ◌∷◌, ◌++◌, length, map}
use Rattle.std.specs.List.{AllByRecursion}
use Rattle.cts_entry.specs.declared.event.Event.{Event}
use Rattle.cts_entry.specs.declared.event.Event.TheVariants.{Piece}
use Rattle.cts_framing.specs.Packets.{joined}

-- pieces of `cut` bytes each
abbrev pub AreWhole : ℕ → List (List ℕ) → Type 0
AreWhole cut pieces = AllByRecursion (λ (p : List ℕ). length p ≡ cut) pieces

-- the last piece, if any bytes are left for one
abbrev pub last_piece : List ℕ → List (List ℕ)
last_piece [] = []
last_piece (b ∷ bytes) = (b ∷ bytes) ∷ []

-- The events are these bytes, as pieces of a maker's connection: each has `cut` bytes, but the last one perhaps fewer.
pub record ArePieces (by cut : ℕ) (bytes : List ℕ) (events : List Event) : Type 0 where
  pub pieces : List (List ℕ)
  pub last : List ℕ
  pub events_are : events ≡ map (Piece by) (pieces ++ last_piece last)
  pub all : joined pieces ++ last ≡ bytes
  pub whole : AreWhole cut pieces
  pub rest : length last ≤ cut
