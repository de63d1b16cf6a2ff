-- What the pieces of a rehearsal are cut into.
use Rattle.std.specs.Prelude.{ℕ, ◌+◌, ◌/◌, ◌%◌, List, [], ◌∷◌, take, drop, replicate, None}
use Rattle.cts_framing.specs.Cuts.{Pieces, IsCut}
use Rattle.cts_framing.specs.Framing.{plain}
use Rattle.cts_framing.specs.Rows.{framing_of}
use Rattle.cts_rehearsal.specs.Generated.{frame, frame_cut, text_line}
use Rattle.cts_rehearsal_runs.specs.Protocols.{frames, lines}

-- nothing is given, and all bytes are kept
abbrev pub kept : List ℕ → Pieces
kept bytes = record { outs = []; skipped = 0; empty = 0; rest = bytes; bad = None }

-- one packet is given, and nothing is left
abbrev pub given : List ℕ → Pieces
given packet = record { outs = plain packet ∷ []; skipped = 0; empty = 0; rest = []; bad = None }

-- A frame without its last bytes is kept, and the whole one gives what stands after its length.
abbrev pub FramesAreCut : Type 0
FramesAreCut = (r : ℕ) → IsCut (framing_of frames) (take (frame_cut r) (frame r)) (kept (take (frame_cut r) (frame r)))
    × IsCut (framing_of frames) (frame r) (given (drop 2 (frame r)))

-- A line gives what stands before its end.
abbrev pub LinesAreCut : Type 0
LinesAreCut = (r : ℕ) → IsCut (framing_of lines) (text_line r) (given (replicate (1 + r / 8 % 40) 65))
