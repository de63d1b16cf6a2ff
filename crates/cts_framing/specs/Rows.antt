-- What each protocol reads: how long the frame is that begins with some bytes, and which error stands there instead.
use Rattle.std.specs.Prelude.{ℕ, ◌+◌, ◌-◌, ◌*◌, ℤ, pos, ◌+ℤ◌, int_lt, Bool, true, false, ◌&&◌, ◌||◌, ◌==◌, nat_le, nat_lt, List, length, take, drop}
use Rattle.std.specs.Prelude.{Option, Some, None, option_map, unsigned_abs, if◌then◌else◌}
use Rattle.std.specs.List.{find}
use Rattle.cts_bits.specs.Fields.{field_at}
use Rattle.cts_bits.specs.Places.{reach_of}
use Rattle.cts_def.specs.Beginnings.{begins_with}
use Rattle.cts_def.specs.Protocols.{BurstData, FixedData, LengthData, TerminatedData, PreidentifiedData, SpecData, Burst, Fixed, Length, Terminated}
use Rattle.cts_def.specs.Protocols.{Preidentified}
use Rattle.cts_def.specs.Starts.{StartData, PlaceData}
use Rattle.cts_def.specs.declared.bad_cause.BadCause.{BadCause}
use Rattle.cts_def.specs.declared.bad_cause.BadCause.TheVariants.{Short, OverMax, TooLong, UnknownStart, Flags}
use Rattle.cts_def.specs.Most.{frame_limit}
use Rattle.cts_framing.specs.Framing.{Framing, Output, plain}
use Rattle.cts_framing.specs.Layouts.{has_flags, has_wrong_flags, flags_at, stored_at, has_laid, laid_end, laid_of}
use Rattle.cts_framing.specs.Patterns.{begins, first_place}
use Rattle.cts_framing.specs.Stating.{Stated, Open, Long, Wrong, stating}

-- a frame of so many bytes, or the error that it is too long
abbrev pub long_within : ℕ → Stated
long_within n = if nat_le n frame_limit then Long n else Wrong TooLong

-- a number is above the greatest, where there is one
abbrev pub is_over : Option ℕ → ℕ → Bool
is_over None n = false
is_over (Some max) n = nat_lt max n

-- ---- LENGTH: frames that state their length in a field

-- how many leading bytes hold the field
abbrev pub reach : PlaceData → ℕ
reach p = reach_of p.order p.offset p.bits

-- the number in the field
abbrev pub field : PlaceData → List ℕ → ℕ
field p u = field_at p.order p.offset p.bits u

-- how many bytes a frame has whose field holds n
abbrev pub length_by : LengthData → ℕ → ℤ
length_by l n = pos (n * l.per_count) +ℤ l.value_offset

-- fewer bytes than the field and the sync pattern need
abbrev pub is_short : LengthData → ℤ → Bool
is_short l n = int_lt n (pos (reach l.place)) || int_lt n (pos (length l.sync))

abbrev pub field_states : LengthData → ℕ → Stated
field_states l n =
    if is_over l.max n then Wrong (OverMax n)
    else if is_short l (length_by l n) then Wrong (Short (length_by l n))
    else long_within (unsigned_abs (length_by l n))

-- the field is read once it is there
abbrev pub length_states : LengthData → List ℕ → Stated
length_states l u = if nat_lt (length u) (reach l.place) then Open else field_states l (field l.place u)

-- ---- TERMINATED: frames that end with a termination

-- where the leftmost termination ends that begins after the sync pattern or later
abbrev pub end_after : ℕ → List ℕ → List ℕ → Option ℕ
end_after sync read u = option_map (λ k. sync + k + length read) (first_place read (drop sync u))

abbrev pub end_of_frame : TerminatedData → List ℕ → Option ℕ
end_of_frame t u = end_after (length t.sync) t.read u

abbrev pub end_states : Option ℕ → Bool → Stated
end_states (Some n) full = Long n
end_states None true = Wrong TooLong
end_states None false = Open

-- the termination is looked for in as many bytes as a frame may have
abbrev pub terminated_states : TerminatedData → List ℕ → Stated
terminated_states t u = end_states (end_of_frame t (take frame_limit u)) (nat_le frame_limit (length u))

-- the frame without its termination, where that is stripped
abbrev pub stripped : TerminatedData → List ℕ → List ℕ
stripped t w = if t.strip then take (length w - length t.read) w else w

-- ---- FIXED: frames that begin as a packet does, and have its length

-- how many bytes decide
abbrev pub decided_at : FixedData → ℕ
decided_at f = f.discard + f.min_id

-- the first start all of whose ids hold after the discarded bytes
abbrev pub first_start : FixedData → List ℕ → Option StartData
first_start f u = find (λ s. begins_with s (drop f.discard u)) f.starts

abbrev pub start_states : FixedData → Option StartData → Stated
start_states f (Some s) = long_within (f.discard + s.length)
start_states f None = if f.raise then Wrong UnknownStart else long_within (decided_at f)

-- the start is looked for in the bytes that decide, once they are there
abbrev pub fixed_states : FixedData → List ℕ → Stated
fixed_states f u = if nat_lt (length u) (decided_at f) then Open else start_states f (first_start f (take (decided_at f) u))

-- ---- PREIDENTIFIED: frames with a head that says the packet's time and names, and a count of bytes

-- what a head of so many bytes with this count states
abbrev pub count_states : PreidentifiedData → ℕ → ℕ → Stated
count_states p end count = if is_over p.max count then Wrong (OverMax count) else long_within (length p.sync + end + count)

-- v are the bytes after the sync pattern; wrong flags are an error as soon as they are there
abbrev pub head_states : PreidentifiedData → Bool → List ℕ → Stated
head_states p flagged v =
    if has_wrong_flags flagged v then Wrong (Flags (flags_at flagged v))
    else if has_laid flagged v then count_states p (laid_end flagged v) (laid_of flagged v).count
    else Open

abbrev pub preidentified_states : PreidentifiedData → List ℕ → Stated
preidentified_states p u = head_states p (has_flags p.layout) (drop (length p.sync) u)

-- the bytes after the head, with its time and names and whether the packet was stored
abbrev pub after_head : Bool → List ℕ → Output
after_head flagged v = record {
  bytes = drop (laid_end flagged v) v;
  heading = Some (record {
    time = (laid_of flagged v).time;
    target = (laid_of flagged v).target;
    packet = (laid_of flagged v).packet;
    stored = stored_at flagged v;
  });
}

-- ---- BURST: all bytes of a piece

abbrev pub burst_whole : BurstData → List ℕ → List ℕ → Bool
burst_whole b w x = (length x == 0) && nat_le 1 (length w) && begins b.sync w && nat_le (length w) frame_limit

abbrev pub burst_error : BurstData → List ℕ → Option BadCause
burst_error b u = if begins b.sync u && nat_lt frame_limit (length u) then Some TooLong else None

-- ---- all protocols

-- the framing of a protocol that reads
abbrev pub framing_of : SpecData → Framing
framing_of (Burst b) = record { sync = b.sync; whole = burst_whole b; error = burst_error b; output = λ w. plain (drop b.discard w); by_piece = true }
framing_of (Fixed f) = stating f.sync (fixed_states f) (λ w. plain (drop f.discard w))
framing_of (Length l) = stating l.sync (length_states l) (λ w. plain (drop l.discard w))
framing_of (Terminated t) = stating t.sync (terminated_states t) (λ w. plain (drop t.discard (stripped t w)))
framing_of (Preidentified p) = stating p.sync (preidentified_states p) (λ w. after_head (has_flags p.layout) (drop (length p.sync) w))
