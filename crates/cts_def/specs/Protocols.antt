-- Protocols with their parameters: what contracts see of them, and the rules that they keep.
use Rattle.std.specs.Prelude.{ℕ, ℤ, ◌+◌, Bool, true, false, not, ◌&&◌, ◌||◌, ◌==◌, nat_le, List, [], ◌∷◌, length, Option, IsTrue}
use Rattle.std.specs.List.{list_any, list_all}
use Rattle.cts_bits.specs.Places.{reach_of}
use Rattle.cts_def.specs.Most.{frame_limit, most_protocols}
use Rattle.cts_def.specs.declared.proto_spec.Kind.{Kind}
use Rattle.cts_def.specs.declared.proto_spec.Kind.TheVariants as kind
use Rattle.cts_def.specs.declared.proto_spec.ProtoSpec.{ProtoSpec}
use Rattle.cts_def.specs.declared.proto_spec.ProtoSpec.TheVariants as spec
use Rattle.cts_def.specs.Starts.{PlaceData, place_data, is_place, has_places, StartData, IdField}

pub record BurstData : Type 0 where
  pub discard : ℕ
  pub sync : List ℕ
  pub fill : Bool

pub record FixedData : Type 0 where
  pub min_id : ℕ
  pub discard : ℕ
  pub sync : List ℕ
  pub telemetry : Bool
  pub fill : Bool
  pub raise : Bool
  pub starts : List StartData

pub record LengthData : Type 0 where
  pub place : PlaceData
  pub value_offset : ℤ
  pub per_count : ℕ
  pub discard : ℕ
  pub sync : List ℕ
  pub max : Option ℕ
  pub fill : Bool

pub record TerminatedData : Type 0 where
  pub write : List ℕ
  pub read : List ℕ
  pub strip : Bool
  pub discard : ℕ
  pub sync : List ℕ
  pub fill : Bool

pub record PreidentifiedData : Type 0 where
  pub sync : List ℕ
  pub max : Option ℕ
  pub layout : ℕ

-- a protocol with its parameters
pub data SpecData : Type 0 where
  Burst : BurstData → SpecData
  Fixed : FixedData → SpecData
  Length : LengthData → SpecData
  Terminated : TerminatedData → SpecData
  Preidentified : PreidentifiedData → SpecData

abbrev pub spec_data : ProtoSpec → SpecData
spec_data (spec.Burst discard sync fill) = Burst (record { discard = discard; sync = sync; fill = fill })
spec_data (spec.Fixed min_id discard sync telemetry fill raise starts) =
    Fixed (record { min_id = min_id; discard = discard; sync = sync; telemetry = telemetry; fill = fill; raise = raise; starts = starts })
spec_data (spec.Length place value_offset per_count discard sync max fill) =
    Length (record { place = place_data place; value_offset = value_offset; per_count = per_count; discard = discard; sync = sync; max = max; fill = fill })
spec_data (spec.Terminated write read strip discard sync fill) =
    Terminated (record { write = write; read = read; strip = strip; discard = discard; sync = sync; fill = fill })
spec_data (spec.Preidentified sync max layout) = Preidentified (record { sync = sync; max = max; layout = layout })

abbrev pub kind_of : SpecData → Kind
kind_of (Burst b) = kind.Burst
kind_of (Fixed f) = kind.Fixed
kind_of (Length l) = kind.Length
kind_of (Terminated t) = kind.Terminated
kind_of (Preidentified p) = kind.Preidentified

-- a protocol in a chain
pub record UseData : Type 0 where
  pub spec : SpecData
  pub reads : Bool
  pub writes : Bool

-- ---- rules of parameters

-- a pattern of at most 64 bytes
abbrev pub is_pattern : List ℕ → Bool
is_pattern bytes = nat_le (length bytes) 64

-- a layout of heads: 2, or 4, in which a head begins with flags
abbrev pub is_layout : ℕ → Bool
is_layout n = n == 2 || n == 4

-- a number of bytes within the greatest frame
abbrev pub is_within_frame : ℕ → Bool
is_within_frame n = nat_le n frame_limit

-- an id field lies within the bytes that identify
abbrev pub is_id_within : ℕ → IdField → Bool
is_id_within min_id i = nat_le (reach_of i.place.order i.place.offset i.place.bits) min_id

abbrev pub is_start_within : ℕ → StartData → Bool
is_start_within min_id s = nat_le min_id s.length && list_all (is_id_within min_id) s.ids

abbrev pub is_sound_spec : SpecData → Bool
is_sound_spec (Burst b) = is_within_frame b.discard && is_pattern b.sync
is_sound_spec (Fixed f) =
    nat_le 1 f.min_id && is_within_frame f.min_id && is_within_frame f.discard && is_pattern f.sync
    && nat_le (length f.sync) (f.discard + f.min_id) && list_all (is_start_within f.min_id) f.starts
    && list_all has_places f.starts
is_sound_spec (Length l) =
    is_place l.place && nat_le 1 l.per_count && nat_le l.per_count 65535 && is_within_frame l.discard && is_pattern l.sync
is_sound_spec (Terminated t) =
    is_pattern t.write && is_pattern t.read && nat_le 1 (length t.read) && is_within_frame t.discard && is_pattern t.sync
is_sound_spec (Preidentified p) = is_layout p.layout && is_pattern p.sync

pub record IsSoundUse (u : UseData) : Type 0 where
  pub spec : IsTrue (is_sound_spec u.spec)
  pub used : IsTrue (u.reads || u.writes)

-- ---- rules of chains

-- a protocol that reads and gives packets, and not bytes: no further one can cut what it gives
abbrev pub is_packet_kind : SpecData → Bool
is_packet_kind (Burst b) = false
is_packet_kind (Fixed f) = true
is_packet_kind (Length l) = false
is_packet_kind (Terminated t) = false
is_packet_kind (Preidentified p) = true

abbrev pub reads : UseData → Bool
reads u = u.reads

abbrev pub reads_packets : UseData → Bool
reads_packets u = u.reads && is_packet_kind u.spec

-- no protocol reads after one that reads packets
abbrev pub are_packets_last : List UseData → Bool
are_packets_last [] = true
are_packets_last (u ∷ us) = not (reads_packets u && list_any reads us) && are_packets_last us

-- a chain has one to four protocols, one of which reads
abbrev pub is_chain : List UseData → Bool
is_chain us = nat_le (length us) most_protocols && list_any reads us && are_packets_last us
