-- Which columns are asked for.
use Rattle.std.specs.Prelude.{ℕ, List, Option, Some, None, if◌then◌else◌}
use Rattle.cts_conv.specs.declared.value.ValueKind.{ValueKind}
use Rattle.cts_extract.specs.Words.{has_few_texts}

-- Those of a packet by its names, with these values of its items, whose names have commas between them.
pub record WantedData : Type 0 where
  pub target : List ℕ
  pub packet : List ℕ
  pub kind : ValueKind
  pub items : List ℕ

-- those of at most 64 items, where the values are of some kind
abbrev pub wanted_of : List ℕ → List ℕ → List ℕ → Option ValueKind → Option WantedData
wanted_of target packet items None = None
wanted_of target packet items (Some kind) =
    if has_few_texts items then Some (record { target = target; packet = packet; kind = kind; items = items }) else None
