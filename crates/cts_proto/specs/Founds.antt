-- What a search finds where a frame may begin.
use Rattle.std.specs.Prelude.{◌≡◌, ℕ, ◌≤◌, ◌<◌, true, List, ◌++◌, length, take, drop, slice_range, Option, Some, None}
use Rattle.cts_def.specs.declared.bad_cause.BadCause.{BadCause}
use Rattle.cts_proto.specs.declared.step.Found.{Found}
use Rattle.cts_proto.specs.declared.step.Found.TheVariants.{Frame, Nothing, Fault}
use Rattle.cts_proto.specs.declared.step.Stamp.{Stamp}
use Rattle.cts_framing.specs.Framing.{Framing, Output, Heading, Agree}
use Rattle.cts_framing.specs.Cuts.{Ends, NoneBegins}

-- a span lies within so many bytes
abbrev pub IsSpan : ℕ → ℕ × ℕ → Type 0
IsSpan len s = (s.0 ≤ s.1) × (s.1 ≤ len)

abbrev pub StampFits : ℕ → Option Stamp → Type 0
StampFits len None = Unit {0}
StampFits len (Some s) = IsSpan len s.target × IsSpan len s.packet

-- the heading whose names stand in these spans
abbrev pub heading_at : List ℕ → Option Stamp → Option Heading
heading_at held None = None
heading_at held (Some s) = Some (record {
  time = s.time;
  target = slice_range held s.target.0 s.target.1;
  packet = slice_range held s.packet.0 s.packet.1;
  stored = s.stored;
})

-- the output that stands in this span
abbrev pub output_at : List ℕ → ℕ → ℕ → Option Stamp → Output
output_at held start end stamp = record { bytes = slice_range held start end; heading = heading_at held stamp }

-- a whole frame of n bytes, whose output is this one
pub record FindsFrame (f : Framing) (u : List ℕ) (n : ℕ) (out : Output) : Type 0 where
  pub some : 0 < n
  pub within : n ≤ length u
  pub whole : f.whole (take n u) (drop n u) ≡ true
  pub output : f.output (take n u) ≡ out

-- what stands at the beginning of the bytes u
abbrev pub Finds : Framing → List ℕ → Found → Type 0
Finds f u (Frame n start end stamp) = FindsFrame f u n (output_at u start end stamp) × (start ≤ end) × (end ≤ n) × StampFits n stamp
Finds f u Nothing = Ends f u None
Finds f u (Fault c) = Ends f u (Some c)

-- neither a whole frame nor an error stands at the beginning of the bytes u
pub record NothingStands (f : Framing) (u : List ℕ) : Type 0 where
  pub no_frame : (w x : List ℕ) → u ≡ w ++ x → f.whole w x ≡ true → ⊥
  pub no_error : f.error u ≡ None

-- the first place of the bytes at which a frame may begin
pub record IsFirstPlace (sync bytes : List ℕ) (place : ℕ) : Type 0 where
  pub within : place ≤ length bytes
  pub clear : NoneBegins sync (take place bytes) (drop place bytes)
  pub synced : Agree sync (drop place bytes)

-- how many of so many bytes were looked at in vain where cutting ends there: all, unless an error stands there
abbrev pub seen_by : Option BadCause → ℕ → ℕ
seen_by None len = len
seen_by (Some cause) len = 0
