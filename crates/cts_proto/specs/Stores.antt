-- What the store of a protocol's bytes means.
use Rattle.std.specs.Prelude.{ℕ, ◌+◌, ◌-◌, List, take, drop, vec_len, vec_capacity, Option, Some, None}
use Rattle.cts_def.specs.Protocols.{SpecData}
use Rattle.cts_framing.specs.Framing.{Framing}
use Rattle.cts_proto.specs.declared.step.Stamp.{Stamp}
use Rattle.cts_proto.specs.declared.store.Store.{Store}
use Rattle.cts_proto.specs.Founds.{NothingStands}
use Rattle.cts_proto.specs.Meaning.{Meaning}

-- the bytes that are in no frame given and not skipped
abbrev pub left : Store → List ℕ
left s = drop s.begin s.bytes.items

-- Nothing stands in as many of the bytes that are left as were looked at, so a search may go on after them.
abbrev pub Looked : Framing → Store → Type 0
Looked f s = NothingStands f (take s.seen (left s))

-- the store of a protocol with this spec
abbrev pub meaning_of : SpecData → Store → Meaning
meaning_of spec s =
    record {
      configured = s.configured;
      spec = spec;
      pending = left s;
      skipped = s.skipped;
      empty = s.empty;
      failed = s.failed;
      drained = s.drained;
      spare = vec_capacity s.bytes - vec_len s.bytes;
    }

-- spans of what is left, as spans of what is held
abbrev pub moved_span : ℕ → ℕ × ℕ → ℕ × ℕ
moved_span by s = (by + s.0, by + s.1)

abbrev pub moved_stamp : ℕ → Option Stamp → Option Stamp
moved_stamp by None = None
moved_stamp by (Some s) = Some (record { time = s.time; target = moved_span by s.target; packet = moved_span by s.packet; stored = s.stored })
