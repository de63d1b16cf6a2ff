-- Laws of the cut and of packets, for all framings that are sound.
use Rattle.std.specs.Prelude.{◌≡◌, ℕ, Bool, true, false, List, [], ◌∷◌, ◌++◌}
use Rattle.cts_framing.specs.Framing.{Framing, Output, IsSound}
use Rattle.cts_framing.specs.Cuts.{Part, Pieces, IsCut}
use Rattle.cts_framing.specs.Packets.{CutEach, cut_by, IsStage, IsPackets, joined}

-- each list of bytes has a cut
abbrev pub HasCut : Type 0
HasCut = (f : Framing) (b : List ℕ) → IsSound f → (c : Pieces) × IsCut f b c

-- Two cuts are one: what they give and leave, their frames with the bytes skipped before each, and the bytes skipped
-- after the last frame.
pub record IsSameCut (f : Framing) (b : List ℕ) (c d : Pieces) (h : IsCut f b c) (k : IsCut f b d) : Type 0 where
  pub pieces : c ≡ d
  pub parts : h.taken.parts ≡ k.taken.parts
  pub gap : h.taken.gap ≡ k.taken.gap

-- and no other
abbrev pub HasOneCut : Type 0
HasOneCut = (f : Framing) (b : List ℕ) (c d : Pieces) → IsSound f → (h : IsCut f b c) (k : IsCut f b d) → IsSameCut f b c d h k

-- the frames of a cut with the bytes skipped before each, and the bytes skipped after the last
pub record FramesAndGaps : Type 0 where
  pub parts : List Part
  pub gap : List ℕ

abbrev pub cut_frames : (f : Framing) (b : List ℕ) (c : Pieces) → IsCut f b c → FramesAndGaps
cut_frames f b c h = record { parts = h.taken.parts; gap = h.taken.gap }

-- the frames of each piece that was cut for itself, and of what was left of the last one
abbrev pub each_frames : (f : Framing) (from : List ℕ) (pieces : List (List ℕ)) (c : Pieces) → CutEach f from pieces c → List FramesAndGaps
each_frames f from [] c h = cut_frames f from c h ∷ []
each_frames f from (p ∷ ps) c h = cut_frames f (from ++ p) h.0 h.2 ∷ each_frames f h.0.rest ps h.1 h.3

abbrev pub frames_by : (by_piece : Bool) (f : Framing) (pieces : List (List ℕ)) (c : Pieces) → cut_by by_piece f pieces c → List FramesAndGaps
frames_by false f pieces c h = cut_frames f (joined pieces) c h ∷ []
frames_by true f pieces c h = each_frames f [] pieces c h

-- Two cuts of a stage are one: what they give and leave, and their frames.
pub record IsSameStage (f : Framing) (pieces : List (List ℕ)) (c d : Pieces) (h : IsStage f pieces c) (k : IsStage f pieces d) : Type 0 where
  pub pieces_are : c ≡ d
  pub frames : frames_by f.by_piece f pieces c h ≡ frames_by f.by_piece f pieces d k

-- a stage cuts what comes to it in one way
abbrev pub HasOneStage : Type 0
HasOneStage = (f : Framing) (pieces : List (List ℕ)) (c d : Pieces) → IsSound f → (h : IsStage f pieces c) (k : IsStage f pieces d)
    → IsSameStage f pieces c d h k

-- each framing of a chain is sound
abbrev pub AllSound : List Framing → Type 0
AllSound [] = Unit {0}
AllSound (f ∷ fs) = IsSound f × AllSound fs

-- a chain cuts each list of pieces
abbrev pub HasPackets : Type 0
HasPackets = (chain : List Framing) (pieces : List (List ℕ)) → AllSound chain → (cuts : List Pieces) × (packets : List Output)
    × IsPackets chain pieces cuts packets

-- and in one way
abbrev pub HasOnePackets : Type 0
HasOnePackets = (chain : List Framing) (pieces : List (List ℕ)) (cuts ducts : List Pieces) (packets others : List Output) → AllSound chain
    → IsPackets chain pieces cuts packets → IsPackets chain pieces ducts others → (cuts ≡ ducts) × (packets ≡ others)

-- more pieces only add packets
abbrev pub PacketsGrow : Type 0
PacketsGrow = (chain : List Framing) (pieces new : List (List ℕ)) (cuts more_cuts : List Pieces) (packets more_packets : List Output) → AllSound chain
    → IsPackets chain pieces cuts packets → IsPackets chain (pieces ++ new) more_cuts more_packets → (added : List Output) × (more_packets ≡ packets ++ added)

-- the first stage does not cut each piece for itself
abbrev pub CutsBytes : List Framing → Type 0
CutsBytes [] = ⊥
CutsBytes (f ∷ fs) = f.by_piece ≡ false

-- packets, loss and error depend on the bytes alone, however they were cut into pieces
abbrev pub HoweverCut : Type 0
HoweverCut = (chain : List Framing) (pieces others : List (List ℕ)) (cuts ducts : List Pieces) (packets more : List Output) → AllSound chain → CutsBytes chain
    → joined pieces ≡ joined others → IsPackets chain pieces cuts packets → IsPackets chain others ducts more → (cuts ≡ ducts) × (packets ≡ more)
