-- Which segment is used.
use Rattle.std.specs.Prelude.{◌≡◌, ℤ, ◌≤◌, List, length, Some}
use Rattle.cts_def.specs.Items.{ItemData}
use Rattle.cts_def.specs.declared.conversion.Conversion.TheVariants.{Segments}
use Rattle.cts_def.specs.declared.conversion.Segment.{Segment}
use Rattle.cts_conv.specs.Conversions.{before_states, polynomial, used}
use Rattle.cts_conv.specs.Laws.{IsNearest}
use Rattle.cts_conv.specs.declared.value.Value.TheVariants.{Whole, Parts}

-- A segment that is used, and is the nearest.
pub record UsesOne (segments : List Segment) (x : ℤ) : Type 0 where
  pub segment : Segment
  pub it : used segments x ≡ Some segment
  pub nearest : IsNearest segments x segment

-- Of segments, if there is one at least, one is used.
abbrev pub SomeSegmentIsUsed : Type 0
SomeSegmentIsUsed = (segments : List Segment) (x : ℤ) → 1 ≤ length segments → UsesOne segments x

-- The item's number is converted by one of the segments, the nearest.
pub record ConvertsByOne (i : ItemData) (segments : List Segment) (x : ℤ) : Type 0 where
  pub segment : Segment
  pub nearest : IsNearest segments x segment
  pub value : before_states i (Whole x) ≡ Parts (record { parts = polynomial segment.coefficients x })

-- The numbers of an item with segments are converted by one of them.
abbrev pub SegmentsConvert : ItemData → Type 0
SegmentsConvert i = (segments : List Segment) (x : ℤ) → i.conversion ≡ Segments segments → ConvertsByOne i segments x
