-- What a line keeps whose words were not refused.
use Rattle.std.specs.Prelude.{ℤ, ◌≤◌, Bool, true, false, not, ◌&&◌, ◌||◌, Option, Some, None, is_some, is_none, IsTrue, if◌then◌else◌}
use Rattle.cts_def.specs.declared.item_kind.Preset.{Preset}
use Rattle.cts_def.specs.Items.{has_coefficients, has_color, has_default_of, is_sound_state}
use Rattle.cts_def.specs.Spans.{is_number}
use Rattle.cts_defstatement.specs.declared.details.Detail.TheVariants as detail
use Rattle.cts_defstatement.specs.declared.line.ItemLine.{ItemLine}
use Rattle.cts_defstatement.specs.declared.line.Line.{Line}
use Rattle.cts_defstatement.specs.declared.line.Line.TheVariants as line
use Rattle.cts_defstatement.specs.declared.open.PacketKind.{PacketKind}
use Rattle.cts_defstatement.specs.declared.open.PacketKind.TheVariants.{Telemetry, Command}

-- limits change after one sample or more, polynomials have 1 to 8 coefficients, and states have a colour of states and a
-- name in upper case
abbrev pub IsSoundLine : Line → Type 0
IsSoundLine (line.Detail (detail.State s)) = IsTrue (is_sound_state s)
IsSoundLine (line.Detail (detail.Limits l)) = 1 ≤ l.persistence
IsSoundLine (line.Detail (detail.Poly coefficients)) = IsTrue (has_coefficients coefficients)
IsSoundLine (line.Detail (detail.Segment s)) = IsTrue (has_coefficients s.coefficients)
IsSoundLine _ = Unit {0}

-- numbers and ids have a least and a greatest value
abbrev pub has_wanted_range : ItemLine → Bool
has_wanted_range head = if is_number head.kind || is_some head.id then is_some head.range else is_none head.range

-- an id has a default, which is the id
abbrev pub has_wanted_default : Option ℤ → Option Preset → Bool
has_wanted_default id None = is_none id
has_wanted_default id (Some preset) = has_default_of id preset

-- The line may stand in a definition of this kind: a telemetry item has no range, is not required, and no state of it is
-- hazardous, and a parameter has a range where it is wanted, its id as its default, no limits, no conversion and no colours.
abbrev pub is_of_kind : PacketKind → Line → Bool
is_of_kind Telemetry (line.Item head) = is_none head.range
is_of_kind Telemetry (line.Detail (detail.State s)) = not s.hazardous
is_of_kind Telemetry (line.Detail detail.Required) = false
is_of_kind Telemetry line.Hazardous = false
is_of_kind Command (line.Item head) = has_wanted_range head && has_wanted_default head.id head.preset
is_of_kind Command (line.Detail (detail.State s)) = not (has_color s)
is_of_kind Command (line.Detail (detail.Limits l)) = false
is_of_kind Command (line.Detail (detail.Poly coefficients)) = false
is_of_kind Command (line.Detail (detail.Segment s)) = false
is_of_kind _ _ = true

-- the same of the open definition, if there is one
abbrev pub suits : Option PacketKind → Line → Bool
suits None l = true
suits (Some kind) l = is_of_kind kind l

pub record KeepsRules (kind : Option PacketKind) (l : Line) : Type 0 where
  pub sound : IsSoundLine l
  pub suited : IsTrue (suits kind l)
