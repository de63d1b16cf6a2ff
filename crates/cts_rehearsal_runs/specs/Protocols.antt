-- The protocols of the demo's two interfaces.
use Rattle.std.specs.Prelude.{pos, true, false, [], ◌∷◌, None}
use Rattle.cts_bits.specs.declared.order.Order.TheVariants.{Big}
use Rattle.cts_def.specs.Protocols.{LengthData, TerminatedData, SpecData, Length, Terminated, UseData}

-- the instrument sends frames that begin with their length in two bytes, which are discarded
abbrev pub frame_data : LengthData
frame_data = record {
  place = record { offset = 0; bits = 16; order = Big };
  value_offset = pos 0;
  per_count = 1;
  discard = 2;
  sync = [];
  max = None;
  fill = true;
}

-- the unit sends lines that end with a line feed, which is stripped
abbrev pub line_data : TerminatedData
line_data = record { write = 10 ∷ []; read = 10 ∷ []; strip = true; discard = 0; sync = []; fill = false }

abbrev pub frames : SpecData
frames = Length frame_data

abbrev pub lines : SpecData
lines = Terminated line_data

-- a protocol in both directions
abbrev pub both_ways : SpecData → UseData
both_ways spec = record { spec = spec; reads = true; writes = true }
