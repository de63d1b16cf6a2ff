-- What a whole frame of each protocol is, said once more by all that holds of it.
use Rattle.std.specs.Prelude.{◌≡◌, ◌≤◌, ℕ, ◌+◌, pos, Bool, false, ◌&&◌, List, [], ◌++◌, length, drop, Option, Some, None, if◌then◌else◌}
use Rattle.cts_def.specs.Protocols.{BurstData, FixedData, LengthData, TerminatedData, PreidentifiedData, SpecData, Burst, Fixed, Length, Terminated}
use Rattle.cts_def.specs.Protocols.{Preidentified}
use Rattle.cts_def.specs.Starts.{StartData}
use Rattle.cts_framing.specs.Framing.{BeginsWith, Output, plain}
use Rattle.cts_framing.specs.Heads.{HeadData, FitsHead}
use Rattle.cts_framing.specs.Layouts.{has_flags, laid_head}
use Rattle.cts_def.specs.Most.{frame_limit}
use Rattle.cts_framing.specs.Rows.{reach, field, length_by, first_start, decided_at}
use Rattle.cts_framing.specs.SyncPatterns.{IsLeftmost}

-- a number is at most the greatest, where there is one
abbrev pub IsAtMost : Option ℕ → ℕ → Type 0
IsAtMost None n = Unit {0}
IsAtMost (Some max) n = n ≤ max

-- BURST: all bytes that are there
pub record IsBurstFrame (b : BurstData) (w x : List ℕ) : Type 0 where
  pub last : x ≡ []
  pub some : 1 ≤ length w
  pub begin : BeginsWith b.sync w
  pub within : length w ≤ frame_limit

-- LENGTH: as many bytes as the field states, which has room in them
pub record IsLengthFrame (l : LengthData) (w : List ℕ) : Type 0 where
  pub begin : BeginsWith l.sync w
  pub max : IsAtMost l.max (field l.place w)
  pub length_is : pos (length w) ≡ length_by l (field l.place w)
  pub reaches : reach l.place ≤ length w
  pub room : length l.sync ≤ length w
  pub within : length w ≤ frame_limit

-- TERMINATED: the sync pattern, and bytes up to and with the leftmost termination after it
pub record IsTerminatedFrame (t : TerminatedData) (w : List ℕ) : Type 0 where
  pub body : List ℕ
  pub frame_is : w ≡ t.sync ++ (body ++ t.read)
  pub leftmost : IsLeftmost t.read (body ++ t.read) body
  pub within : length w ≤ frame_limit

-- as long as the first start is whose ids hold, or, where none is and none has to be, as what decides
abbrev pub HasStart : FixedData → List ℕ → Option StartData → Type 0
HasStart f w (Some s) = length w ≡ f.discard + s.length
HasStart f w None = (f.raise ≡ false) × (length w ≡ decided_at f)

-- FIXED: as long as the packet that begins so
pub record IsFixedFrame (f : FixedData) (w : List ℕ) : Type 0 where
  pub begin : BeginsWith f.sync w
  pub start : HasStart f w (first_start f w)
  pub within : length w ≤ frame_limit

-- PREIDENTIFIED: the sync pattern, a head of the layout, and as many bytes as it counts
pub record IsPreidentifiedFrame (p : PreidentifiedData) (w : List ℕ) : Type 0 where
  pub stored : Bool
  pub head : HeadData
  pub bytes : List ℕ
  pub fits : FitsHead head
  pub frame_is : w ≡ p.sync ++ (laid_head (has_flags p.layout) stored head ++ bytes)
  pub count : length bytes ≡ head.count
  pub max : IsAtMost p.max head.count
  pub within : length w ≤ frame_limit

-- w is a whole frame of this protocol, where x comes after it
abbrev pub IsFrame : SpecData → List ℕ → List ℕ → Type 0
IsFrame (Burst b) w x = IsBurstFrame b w x
IsFrame (Fixed f) w x = IsFixedFrame f w
IsFrame (Length l) w x = IsLengthFrame l w
IsFrame (Terminated t) w x = IsTerminatedFrame t w
IsFrame (Preidentified p) w x = IsPreidentifiedFrame p w

-- What a whole frame gives: its bytes without the termination, where that is stripped, and then without the discarded ones;
-- of PREIDENTIFIED the bytes after the head, with the head's time and names, and, where it has flags, whether they say stored.
abbrev pub output_of : (s : SpecData) (w x : List ℕ) → IsFrame s w x → Output
output_of (Burst b) w x h = plain (drop b.discard w)
output_of (Fixed f) w x h = plain (drop f.discard w)
output_of (Length l) w x h = plain (drop l.discard w)
output_of (Terminated t) w x h = plain (drop t.discard (if t.strip then t.sync ++ h.body else w))
output_of (Preidentified p) w x h = record {
  bytes = h.bytes;
  heading = Some (record { time = h.head.time; target = h.head.target; packet = h.head.packet; stored = has_flags p.layout && h.stored });
}
