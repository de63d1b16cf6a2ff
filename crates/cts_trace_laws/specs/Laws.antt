-- Laws of streams.
use Rattle.std.specs.Prelude.{◌≡◌, ℕ, false, List, [], ◌∷◌, ◌++◌, length, map, Option, None}
use Rattle.cts_def.specs.Protocols.{PreidentifiedData}
use Rattle.cts_framing.specs.Framing.{Framing, Output, IsSound}
use Rattle.cts_framing.specs.Cuts.{IsCut, Pieces}
use Rattle.cts_framing.specs.Packets.{IsPackets, capped, fault_of, joined, loss_of}
use Rattle.cts_trace_laws.specs.Packets.{AllFit, Packed, cut_by, put_by, taken}
use Rattle.cts_trace_laws.specs.Streams.{AreReadBack, Holds, clean, spoken, stream}

-- The first bytes of a stream hold some of its elements whole and a part of the next one, wherever they end.
abbrev pub StreamsSplit : Type 0 → Type 0
StreamsSplit X = (spell : X → Option (List ℕ)) (xs : List X) (bytes more : List ℕ) → bytes ++ more ≡ stream spell xs
    → (whole : List X) × (rest : List ℕ) × Holds spell xs bytes whole rest

-- All of a stream holds all of its elements, and nothing after them.
abbrev pub StreamsHoldAll : Type 0 → Type 0
StreamsHoldAll X = (spell : X → Option (List ℕ)) (xs : List X) → Holds spell xs (stream spell xs) (spoken spell xs) []

-- And it holds nothing else.
abbrev pub StreamsHoldOnlyAll : Type 0 → Type 0
StreamsHoldOnlyAll X = (spell : X → Option (List ℕ)) (xs whole : List X) (bytes rest : List ℕ) → bytes ≡ stream spell xs
    → Holds spell xs bytes whole rest → (whole ≡ spoken spell xs) × (rest ≡ [])

-- A sound framing that cuts all bytes as one list, and reads each spelling as one frame, cuts such bytes into those that stand whole in
-- them, skips nothing, and keeps the part of the next one.
abbrev pub StreamsAreCut : Type 0 → Type 0
StreamsAreCut X = (f : Framing) (spell : X → Option (List ℕ)) (out : X → Output) (xs whole : List X) (bytes rest : List ℕ)
    → IsSound f → f.by_piece ≡ false → AreReadBack f spell out (spoken spell xs) → Holds spell xs bytes whole rest → IsCut f bytes (clean (map out whole) rest)

-- what a chain of one stage gives and keeps of such bytes
pub record Hears {X : Type 0} (out : X → Output) (whole : List X) (rest : List ℕ) (cuts : List Pieces) (packets : List Output) : Type 0 where
  pub packets_are : packets ≡ map out whole
  pub cuts_are : cuts ≡ clean (map out whole) rest ∷ []
  pub unfailed : fault_of cuts ≡ None
  pub loss : loss_of cuts ≡ record { held = capped (length rest) ∷ 0 ∷ 0 ∷ 0 ∷ []; skipped = 0; empty = 0 }

-- So does a chain of this one stage, however the bytes were cut into pieces.
abbrev pub StreamsAreHeard : Type 0 → Type 0
StreamsAreHeard X = (f : Framing) (spell : X → Option (List ℕ)) (out : X → Output) (xs whole : List X) (bytes rest : List ℕ)
    (pieces : List (List ℕ)) (cuts : List Pieces) (packets : List Output) → IsSound f → f.by_piece ≡ false
    → AreReadBack f spell out (spoken spell xs) → Holds spell xs bytes whole rest → joined pieces ≡ bytes
    → IsPackets (f ∷ []) pieces cuts packets → Hears out whole rest cuts packets

-- PREIDENTIFIED reads what it puts: the same packets with their times and names, and with their stored flags where heads have flags.
abbrev pub PacketsAreReadBack : Type 0
PacketsAreReadBack = (d : PreidentifiedData) (packets : List Packed) → AllFit packets → AreReadBack (cut_by d) (put_by d) (taken d) packets
