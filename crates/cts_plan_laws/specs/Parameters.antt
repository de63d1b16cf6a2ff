-- The parameters of a protocol, each of its own word.
use Rattle.std.specs.Prelude.{◌≡◌, ℕ, pos, true, false, List, [], zip, slice_get, Option, Some, None}
use Rattle.std.specs.List.{list_any}
use Rattle.cts_bits.specs.declared.order.Order.TheVariants.{Big}
use Rattle.cts_def.specs.declared.proto_spec.Kind.{Kind}
use Rattle.cts_def.specs.Packets.{DefinitionsData}
use Rattle.cts_def.specs.Protocols.{BurstData, FixedData, LengthData, TerminatedData, PreidentifiedData, SpecData, Burst, Fixed, Length, Terminated}
use Rattle.cts_def.specs.Protocols.{Preidentified, UseData, kind_of}
use Rattle.cts_plan.specs.declared.words.Way.{Way}
use Rattle.cts_plan.specs.Steps.{StepData}
use Rattle.cts_plan.specs.Words.{flag_of, order_of, way_reads, way_writes, size_of, bits_of, per_count_of, max_of, layout_of, signed_of, pattern_of}
use Rattle.cts_plan.specs.Forms.{parameter_fields, is_other_choice, is_no_number}
use Rattle.cts_plan.specs.Lines.{step_of}
use Rattle.cts_plan.specs.Standing.{use_of}

-- A parameter is what its word writes, and its default where the word is not there.
abbrev pub IsRead : {X : Type 0} → (List ℕ → Option X) → X → Option (List ℕ) → X → Type 0
IsRead reads default None x = x ≡ default
IsRead reads default (Some word) x = reads word ≡ Some x

-- a pattern's bytes, none of `nil`
abbrev pub some_pattern : List ℕ → Option (List ℕ)
some_pattern word = Some (pattern_of word)

-- the greatest count, none where the word is `nil`
abbrev pub some_max : List ℕ → Option (Option ℕ)
some_max word = Some (max_of word)

-- the discarded bytes, the sync pattern, and whether they are written
pub record IsBurst (ws : List (List ℕ)) (b : BurstData) : Type 0 where
  pub discard : IsRead size_of 0 (slice_get ws 0) b.discard
  pub sync : IsRead some_pattern [] (slice_get ws 1) b.sync
  pub fill : IsRead flag_of false (slice_get ws 2) b.fill

-- the bytes that identify a packet, the discarded ones, the sync pattern, whether the packets are telemetry packets, whether
-- what is discarded is written, and whether an unknown start is an error
pub record IsFixed (ws : List (List ℕ)) (f : FixedData) : Type 0 where
  pub min_id : IsRead size_of 0 (slice_get ws 0) f.min_id
  pub discard : IsRead size_of 0 (slice_get ws 1) f.discard
  pub sync : IsRead some_pattern [] (slice_get ws 2) f.sync
  pub telemetry : IsRead flag_of true (slice_get ws 3) f.telemetry
  pub fill : IsRead flag_of false (slice_get ws 4) f.fill
  pub raise : IsRead flag_of false (slice_get ws 5) f.raise

-- the place of the count with the order of its bytes, what is added to the count, its unit, the discarded bytes, the sync
-- pattern, the greatest count, and whether what is discarded is written
pub record IsLength (ws : List (List ℕ)) (l : LengthData) : Type 0 where
  pub offset : IsRead bits_of 0 (slice_get ws 0) l.place.offset
  pub bits : IsRead bits_of 16 (slice_get ws 1) l.place.bits
  pub value_offset : IsRead signed_of (pos 0) (slice_get ws 2) l.value_offset
  pub per_count : IsRead per_count_of 1 (slice_get ws 3) l.per_count
  pub order : IsRead order_of Big (slice_get ws 4) l.place.order
  pub discard : IsRead size_of 0 (slice_get ws 5) l.discard
  pub sync : IsRead some_pattern [] (slice_get ws 6) l.sync
  pub max : IsRead some_max None (slice_get ws 7) l.max
  pub fill : IsRead flag_of false (slice_get ws 8) l.fill

-- the termination for writing and the one for reading, whether it is stripped, the discarded bytes, the sync pattern, and
-- whether they are written
pub record IsTerminated (ws : List (List ℕ)) (t : TerminatedData) : Type 0 where
  pub write : IsRead some_pattern [] (slice_get ws 0) t.write
  pub read : IsRead some_pattern [] (slice_get ws 1) t.read
  pub strip : IsRead flag_of true (slice_get ws 2) t.strip
  pub discard : IsRead size_of 0 (slice_get ws 3) t.discard
  pub sync : IsRead some_pattern [] (slice_get ws 4) t.sync
  pub fill : IsRead flag_of false (slice_get ws 5) t.fill

-- the sync pattern, the greatest count, and the layout of heads
pub record IsPreidentified (ws : List (List ℕ)) (p : PreidentifiedData) : Type 0 where
  pub sync : IsRead some_pattern [] (slice_get ws 0) p.sync
  pub max : IsRead some_max None (slice_get ws 1) p.max
  pub layout : IsRead layout_of 2 (slice_get ws 2) p.layout

-- the protocol has the parameters that the words write
abbrev pub HasParameters : List (List ℕ) → SpecData → Type 0
HasParameters ws (Burst b) = IsBurst ws b
HasParameters ws (Fixed f) = IsFixed ws f
HasParameters ws (Length l) = IsLength ws l
HasParameters ws (Terminated t) = IsTerminated ws t
HasParameters ws (Preidentified p) = IsPreidentified ws p

-- A protocol of this kind, used this way, with the parameters of the words.
pub record IsUse (way : Way) (kind : Kind) (ws : List (List ℕ)) (u : UseData) : Type 0 where
  pub same_kind : kind_of u.spec ≡ kind
  pub parameters : HasParameters ws u.spec
  pub reads : u.reads ≡ way_reads way
  pub writes : u.writes ≡ way_writes way

-- No word is another choice than its parameter's, or no number of it.
pub record Fit (kind : Kind) (ws : List (List ℕ)) : Type 0 where
  pub choices : list_any (λ p. is_other_choice p.0 p.1) (zip (parameter_fields kind) ws) ≡ false
  pub numbers : list_any (λ p. is_no_number p.0 p.1) (zip (parameter_fields kind) ws) ≡ false

-- The protocol of a statement has its parameters of the statement's words, each of its own.
abbrev pub ParametersAreOfTheirWords : Type 0
ParametersAreOfTheirWords = (d : DefinitionsData) (targets : List (List ℕ)) (n : ℕ) (way : Way) (kind : Kind) (ws : List (List ℕ)) (step : StepData)
    → Fit kind ws → step_of n way kind ws ≡ Some step → IsUse way kind ws (use_of d targets step)
