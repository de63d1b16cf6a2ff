-- What BURST cuts off the rest so far and one piece after it.
use Rattle.std.specs.Prelude.{◌≡◌, ◌≤◌, ◌<◌, ℕ, List, [], ◌++◌, length, Some, None}
use Rattle.cts_def.specs.declared.bad_cause.BadCause.TheVariants.{TooLong}
use Rattle.cts_def.specs.Protocols.{BurstData, Burst}
use Rattle.cts_framing.specs.Framing.{Output}
use Rattle.cts_framing.specs.Cuts.{and_output, one_if_empty, Pieces, IsCut}
use Rattle.cts_def.specs.Most.{frame_limit}
use Rattle.cts_framing.specs.Rows.{framing_of}
use Rattle.cts_framing.specs.SyncPatterns.{OccursBehind, IsLeftmost, IsLongestKept}

-- one frame with this output, after so many skipped bytes, and nothing else
abbrev pub one_frame : Output → ℕ → Pieces
one_frame out skipped = record { outs = and_output out out.bytes []; skipped = skipped; empty = one_if_empty out.bytes; rest = []; bad = None }

-- The frame is all bytes from the leftmost occurrence of the sync pattern to the end, where at least one is there. One that
-- is too long is an error, with that frame as the rest. Without an occurrence there is no frame, and the longest suffix that
-- may become the pattern is the rest.
pub record BurstCuts (b : BurstData) (bytes : List ℕ) : Type 0 where
  pub frame : (before frame : List ℕ) → bytes ≡ before ++ frame → IsLeftmost b.sync bytes before → 1 ≤ length frame → length frame ≤ frame_limit
      → IsCut (framing_of (Burst b)) bytes (one_frame ((framing_of (Burst b)).output frame) (length before))
  pub long : (before frame : List ℕ) → bytes ≡ before ++ frame → IsLeftmost b.sync bytes before → frame_limit < length frame
      → IsCut (framing_of (Burst b)) bytes (record { outs = []; skipped = length before; empty = 0; rest = frame; bad = Some TooLong })
  pub none : (before kept : List ℕ) → ((other : List ℕ) → OccursBehind b.sync bytes other → ⊥) → IsLongestKept b.sync bytes before kept
      → IsCut (framing_of (Burst b)) bytes (record { outs = []; skipped = length before; empty = 0; rest = kept; bad = None })

abbrev pub AllBurstCuts : Type 0
AllBurstCuts = (b : BurstData) (bytes : List ℕ) → BurstCuts b bytes
