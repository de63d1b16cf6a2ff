-- Which errors stand where a frame of each protocol would begin, said once more by all that holds there.
use Rattle.std.specs.Prelude.{◌≡◌, ◌≤◌, ◌<◌, ◌⊎◌, ℕ, ◌+◌, ℤ, pos, ◌<ℤ◌, Bool, true, false, List, ◌∷◌, ◌++◌, length, Option, Some, None}
use Rattle.cts_def.specs.Protocols.{BurstData, FixedData, LengthData, TerminatedData, PreidentifiedData, SpecData, Burst, Fixed, Length, Terminated}
use Rattle.cts_def.specs.Protocols.{Preidentified}
use Rattle.cts_def.specs.Starts.{StartData}
use Rattle.cts_def.specs.declared.bad_cause.BadCause.{BadCause}
use Rattle.cts_def.specs.declared.bad_cause.BadCause.TheVariants.{Short, OverMax, TooLong, UnknownStart, Flags}
use Rattle.cts_framing.specs.Frames.{IsAtMost}
use Rattle.cts_framing.specs.Framing.{BeginsWith}
use Rattle.cts_framing.specs.Heads.{HeadData, FitsHead}
use Rattle.cts_framing.specs.Layouts.{has_flags, laid_head}
use Rattle.cts_def.specs.Most.{frame_limit}
use Rattle.cts_framing.specs.Rows.{reach, field, length_by, first_start, decided_at}

-- a number is above the greatest, where there is one
abbrev pub IsOver : Option ℕ → ℕ → Type 0
IsOver None n = ⊥
IsOver (Some max) n = max < n

-- BURST: more bytes than a frame has
pub record IsBurstError (b : BurstData) (u : List ℕ) (c : BadCause) : Type 0 where
  pub begin : BeginsWith b.sync u
  pub long : frame_limit < length u
  pub cause : c ≡ TooLong

-- fewer bytes than the field or the sync pattern needs
abbrev pub IsShort : LengthData → ℤ → Type 0
IsShort l z = (z <ℤ pos (reach l.place)) ⊎ (z <ℤ pos (length l.sync))

-- the first error of a field that holds n
abbrev pub FieldCause : LengthData → ℕ → BadCause → Type 0
FieldCause l n (OverMax k) = (k ≡ n) × IsOver l.max n
FieldCause l n (Short z) = (z ≡ length_by l n) × IsAtMost l.max n × IsShort l z
FieldCause l n TooLong = IsAtMost l.max n × (IsShort l (length_by l n) → ⊥) × (pos frame_limit <ℤ length_by l n)
FieldCause l n UnknownStart = ⊥
FieldCause l n (Flags k) = ⊥

-- LENGTH: that of the field, once it is there
pub record IsLengthError (l : LengthData) (u : List ℕ) (c : BadCause) : Type 0 where
  pub begin : BeginsWith l.sync u
  pub reaches : reach l.place ≤ length u
  pub cause : FieldCause l (field l.place u) c

-- TERMINATED: as many bytes as a frame may have, and no termination after the sync pattern ends within them
pub record IsTerminatedError (t : TerminatedData) (u : List ℕ) (c : BadCause) : Type 0 where
  pub begin : BeginsWith t.sync u
  pub full : frame_limit ≤ length u
  pub none : (body rest : List ℕ) → u ≡ t.sync ++ (body ++ (t.read ++ rest)) → frame_limit < length t.sync + length body + length t.read
  pub cause : c ≡ TooLong

-- the error of the first start whose ids hold, or of there being none
abbrev pub StartCause : FixedData → Option StartData → BadCause → Type 0
StartCause f (Some s) c = (c ≡ TooLong) × (frame_limit < f.discard + s.length)
StartCause f None c = ((c ≡ UnknownStart) × (f.raise ≡ true)) ⊎ ((c ≡ TooLong) × (f.raise ≡ false) × (frame_limit < decided_at f))

-- FIXED: once the bytes are there that decide
pub record IsFixedError (f : FixedData) (u : List ℕ) (c : BadCause) : Type 0 where
  pub begin : BeginsWith f.sync u
  pub decided : decided_at f ≤ length u
  pub cause : StartCause f (first_start f u) c

-- the first error of a count in a frame of so many bytes
abbrev pub CountCause : PreidentifiedData → ℕ → ℕ → BadCause → Type 0
CountCause p count long (OverMax k) = (k ≡ count) × IsOver p.max count
CountCause p count long TooLong = IsAtMost p.max count × (frame_limit < long)
CountCause p count long (Short z) = ⊥
CountCause p count long UnknownStart = ⊥
CountCause p count long (Flags k) = ⊥

-- the flags, as soon as they are there, are neither 0 nor 128
pub record IsFlagsError (p : PreidentifiedData) (u : List ℕ) (c : BadCause) : Type 0 where
  pub flags : ℕ
  pub rest : List ℕ
  pub flagged : has_flags p.layout ≡ true
  pub begin : u ≡ p.sync ++ flags ∷ rest
  pub some : flags ≡ 0 → ⊥
  pub unstored : flags ≡ 128 → ⊥
  pub cause : c ≡ Flags flags

-- the head's count, once the head is there
pub record IsCountError (p : PreidentifiedData) (u : List ℕ) (c : BadCause) : Type 0 where
  pub stored : Bool
  pub head : HeadData
  pub rest : List ℕ
  pub fits : FitsHead head
  pub begin : u ≡ p.sync ++ (laid_head (has_flags p.layout) stored head ++ rest)
  pub cause : CountCause p head.count (length p.sync + length (laid_head (has_flags p.layout) stored head) + head.count) c

-- PREIDENTIFIED: that of the head's flags, or that of its count
abbrev pub IsPreidentifiedError : PreidentifiedData → List ℕ → BadCause → Type 0
IsPreidentifiedError p u c = IsFlagsError p u c ⊎ IsCountError p u c

-- the error c stands at the beginning of the bytes u
abbrev pub IsError : SpecData → List ℕ → BadCause → Type 0
IsError (Burst b) u c = IsBurstError b u c
IsError (Fixed f) u c = IsFixedError f u c
IsError (Length l) u c = IsLengthError l u c
IsError (Terminated t) u c = IsTerminatedError t u c
IsError (Preidentified p) u c = IsPreidentifiedError p u c
