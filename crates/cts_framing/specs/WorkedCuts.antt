-- Worked examples of cuts.
use Rattle.std.specs.Prelude.{ℕ, pos, Bool, true, false, List, [], ◌∷◌, Some, None}
use Rattle.cts_bits.specs.declared.order.Order.TheVariants.{Big}
use Rattle.cts_def.specs.declared.bad_cause.BadCause.TheVariants.{TooLong, UnknownStart}
use Rattle.cts_def.specs.Protocols.{BurstData, FixedData, LengthData, TerminatedData, Burst, Fixed, Length, Terminated}
use Rattle.cts_def.specs.Starts.{StartData}
use Rattle.cts_framing.specs.Framing.{plain}
use Rattle.cts_framing.specs.Cuts.{IsCut}
use Rattle.cts_framing.specs.Packets.{CutEach, IsPackets}
use Rattle.cts_framing.specs.Rows.{framing_of}

-- frames with a length field of so many bits at a bit offset, and a sync pattern
abbrev pub length_at : ℕ → ℕ → List ℕ → LengthData
length_at offset bits sync =
    record {
      place = record { offset = offset; bits = bits; order = Big };
      value_offset = pos 0;
      per_count = 1;
      discard = 0;
      sync = sync;
      max = None;
      fill = true;
    }

-- frames that end with this termination, which is stripped
abbrev pub ended_by : List ℕ → TerminatedData
ended_by t = record { write = t; read = t; strip = true; discard = 0; sync = []; fill = false }

-- a packet of three bytes that begins with a byte 1
abbrev pub one_start : StartData
one_start = record { ids = record { place = record { offset = 0; bits = 8; order = Big }; value = pos 1; signed = false } ∷ []; length = 3 }

-- frames that begin as such a packet does; another beginning may be an error
abbrev pub fixed_by : Bool → FixedData
fixed_by raise = record { min_id = 1; discard = 0; sync = []; telemetry = true; fill = false; raise = raise; starts = one_start ∷ [] }

abbrev pub burst : BurstData
burst = record { discard = 0; sync = []; fill = false }

pub record WorkedCuts : Type 0 where
  -- bytes before the sync pattern are skipped
  pub sync : IsCut (framing_of (Length (length_at 16 16 (26 ∷ 207 ∷ [])))) (0 ∷ 26 ∷ 26 ∷ 207 ∷ 0 ∷ 6 ∷ 170 ∷ 187 ∷ [])
      (record { outs = plain (26 ∷ 207 ∷ 0 ∷ 6 ∷ 170 ∷ 187 ∷ []) ∷ []; skipped = 2; empty = 0; rest = []; bad = None })
  -- and a byte with which the pattern may begin is kept
  pub kept : IsCut (framing_of (Length (length_at 16 16 (26 ∷ 207 ∷ [])))) (0 ∷ 26 ∷ 26 ∷ [])
      (record { outs = []; skipped = 2; empty = 0; rest = 26 ∷ []; bad = None })
  -- a frame of a termination alone is counted and not given
  pub empty : IsCut (framing_of (Terminated (ended_by (13 ∷ 10 ∷ [])))) (65 ∷ 66 ∷ 13 ∷ 10 ∷ 13 ∷ 10 ∷ [])
      (record { outs = plain (65 ∷ 66 ∷ []) ∷ []; skipped = 0; empty = 1; rest = []; bad = None })
  -- the second stage cuts what the first one gave, one after another
  pub stages : IsPackets (framing_of (Terminated (ended_by (10 ∷ []))) ∷ framing_of (Length (length_at 0 8 [])) ∷ []) ((3 ∷ 17 ∷ 10 ∷ 34 ∷ 10 ∷ []) ∷ [])
      (record { outs = plain (3 ∷ 17 ∷ []) ∷ plain (34 ∷ []) ∷ []; skipped = 0; empty = 0; rest = []; bad = None }
      ∷ record { outs = plain (3 ∷ 17 ∷ 34 ∷ []) ∷ []; skipped = 0; empty = 0; rest = []; bad = None } ∷ [])
      (plain (3 ∷ 17 ∷ 34 ∷ []) ∷ [])
  -- each piece is a frame
  pub pieces : CutEach (framing_of (Burst burst)) [] ((1 ∷ []) ∷ (2 ∷ []) ∷ [])
      (record { outs = plain (1 ∷ []) ∷ plain (2 ∷ []) ∷ []; skipped = 0; empty = 0; rest = []; bad = None })
  -- the greatest frame is waited for, and one byte more is an error
  pub greatest : IsCut (framing_of (Length (length_at 0 32 []))) (0 ∷ 16 ∷ 0 ∷ 0 ∷ [])
      (record { outs = []; skipped = 0; empty = 0; rest = 0 ∷ 16 ∷ 0 ∷ 0 ∷ []; bad = None })
  pub too_long : IsCut (framing_of (Length (length_at 0 32 []))) (0 ∷ 16 ∷ 0 ∷ 1 ∷ [])
      (record { outs = []; skipped = 0; empty = 0; rest = 0 ∷ 16 ∷ 0 ∷ 1 ∷ []; bad = Some TooLong })
  -- two packets by their starts, and a byte that begins none: a frame, or an error
  pub starts : IsCut (framing_of (Fixed (fixed_by false))) (1 ∷ 5 ∷ 6 ∷ 1 ∷ 7 ∷ 8 ∷ 2 ∷ [])
      (record { outs = plain (1 ∷ 5 ∷ 6 ∷ []) ∷ plain (1 ∷ 7 ∷ 8 ∷ []) ∷ plain (2 ∷ []) ∷ []; skipped = 0; empty = 0; rest = []; bad = None })
  pub unknown : IsCut (framing_of (Fixed (fixed_by true))) (1 ∷ 5 ∷ 6 ∷ 2 ∷ [])
      (record { outs = plain (1 ∷ 5 ∷ 6 ∷ []) ∷ []; skipped = 0; empty = 0; rest = 2 ∷ []; bad = Some UnknownStart })
