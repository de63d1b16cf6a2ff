-- FIXED before its packets are known: the rules that its own words keep.
use Rattle.std.specs.Prelude.{IsTrue}
use Rattle.cts_def.specs.Protocols.{FixedData, is_pattern, is_within_frame}

pub record IsSoundFixed (f : FixedData) : Type 0 where
  pub min_id : IsTrue (is_within_frame f.min_id)
  pub discard : IsTrue (is_within_frame f.discard)
  pub sync : IsTrue (is_pattern f.sync)
