-- What definitions keep that were not refused, beside what each of their packets keeps.
use Rattle.std.specs.Prelude.{◌≡◌, ℕ, ◌≤◌, Bool, false, List, length, Option, Some, None, IsTrue}
use Rattle.std.specs.List.{list_all, IsDistinct}
use Rattle.cts_def.specs.Items.{ItemData, is_same}
use Rattle.cts_def.specs.Most.{most_sets}
use Rattle.cts_def.specs.Packets.{PacketData, begins_with_set, default_set, have_same_names, is_command, is_telemetry}
use Rattle.cts_defstatement.specs.declared.details.Detail.{Detail}
use Rattle.cts_defstatement.specs.declared.details.Detail.TheVariants as detail
use Rattle.cts_defstatement.specs.declared.line.Line.TheVariants as line
use Rattle.cts_defstatement.specs.declared.open.PacketKind.{PacketKind}
use Rattle.cts_defstatement.specs.declared.open.PacketKind.TheVariants.{Telemetry, Command}
use Rattle.cts_defstatement.specs.Rules.{IsSoundLine}
use Rattle.cts_defread.specs.declared.drafted.Drafted.{Drafted}
use Rattle.cts_defread.specs.Causes.{has_state, has_set, has_bound, has_all_states, has_all_segments, is_wrong_kind, is_too_large_in, is_bad_order}
use Rattle.cts_defread.specs.Causes.{is_bad_format}
use Rattle.cts_defread.specs.Standing.{packets_of}

-- what a packet or a command keeps, with limits in the sets
abbrev pub keeps_kind : List (List ℕ) → PacketKind → PacketData → Bool
keeps_kind sets Telemetry p = is_telemetry sets p
keeps_kind sets Command p = is_command p

abbrev pub keeps_its_kind : List (List ℕ) → Drafted → Bool
keeps_its_kind sets d = keeps_kind sets d.kind d.packet

pub record AreSound (packets : List Drafted) (sets : List (List ℕ)) : Type 0 where
  pub telemetry : IsDistinct have_same_names (packets_of Telemetry packets)
  pub commands : IsDistinct have_same_names (packets_of Command packets)
  pub kinds : IsTrue (list_all (keeps_its_kind sets) packets)
  pub first_set : IsTrue (begins_with_set default_set sets)
  pub distinct_sets : IsDistinct is_same sets
  pub few_sets : length sets ≤ most_sets

-- ---- details that an item may have

-- a state, limits set or bound that the item has already
abbrev pub has_same : Detail → ItemData → Bool
has_same (detail.State s) i = has_state s.name i
has_same (detail.Limits l) i = has_set l.set i
has_same (detail.Segment s) i = has_bound s.bound i
has_same _ i = false

abbrev pub has_no_room : Detail → ItemData → Bool
has_no_room (detail.State s) i = has_all_states i
has_no_room (detail.Segment s) i = has_all_segments i
has_no_room _ i = false

-- No cause lies in the item.
pub record Fits (i : ItemData) (d : Detail) : Type 0 where
  pub allowed : is_wrong_kind (Some i) (line.Detail d) ≡ false
  pub single : has_same d i ≡ false
  pub small : is_too_large_in (Some i) (line.Detail d) ≡ false
  pub ordered : is_bad_order (Some i) (line.Detail d) ≡ false
  pub formed : is_bad_format (line.Detail d) ≡ false
  pub few : has_no_room d i ≡ false
  pub lasting : IsSoundLine (line.Detail d)

-- the same of the last item, if there is one
abbrev pub FitsLast : Option ItemData → Detail → Type 0
FitsLast None d = Unit {0}
FitsLast (Some i) d = Fits i d
