-- Worked examples, computed by the definitions.
use Rattle.std.proofs.Common.{◌≡◌, ℕ, true, false, List, [], ◌∷◌, Option, Some, None, refl}
use Rattle.std.specs.Prelude.{codes, pos, ℤ, ◌*◌}
use Rattle.cts_base.specs.declared.decimal.Decimal.{Decimal}
use Rattle.cts_bits.specs.Fields as fields
use Rattle.cts_bits.specs.Bits as bits
use Rattle.cts_bits.specs.declared.order.Order.TheVariants.{Big}
use Rattle.cts_def.specs.declared.color.Color.TheVariants.{Green, RedHigh, Stale, StateRed}
use Rattle.cts_def.specs.declared.limits.Limits.{Limits}
use Rattle.cts_def.specs.declared.limits_setup.LimitsSetup.{LimitsSetup}
use Rattle.cts_def.specs.declared.item_kind.ItemKind.TheVariants.{Uint}
use Rattle.cts_def.specs.declared.item_kind.Overflow.TheVariants as overflows
use Rattle.cts_def.specs.declared.item_kind.Preset.TheVariants as presets
use Rattle.cts_def.specs.declared.conversion.Conversion.TheVariants.{Plain}
use Rattle.cts_def.specs.declared.state_def.StateDef.{StateDef}
use Rattle.cts_def.specs.declared.ident.Ident.TheVariants.{Known}
use Rattle.cts_def.specs.Items.{ItemData}
use Rattle.cts_def.specs.Sites.{SiteData}
use Rattle.cts_entry.specs.declared.entry.Entry.{Entry}
use Rattle.cts_entry.specs.declared.what.What.{What}
use Rattle.cts_entry.specs.declared.what.What.TheVariants.{Opened, Packet, SetLimits, Enable, LimitsSetIs, Injected}
use Rattle.cts_limits.specs.States.{state_of, state_back}
use Rattle.cts_monitor.specs.Gathered.{gathered_from}
use Rattle.cts_monitor.specs.Settings.{limits_of, current_set}
use Rattle.cts_monitor.specs.Sets.{sets_known}
use Rattle.cts_monitor.specs.Samples.{state_at}
use Rattle.cts_monitor.specs.Events.{events, events_from}

-- a number of parts
abbrev dec : ℤ → Decimal
dec n = record { parts = n }

-- ---- one item with DEFAULT 0 10 100 200 and NIGHT 0 10 2000 3000

abbrev million : ℕ
million = 1000000000000

abbrev whole_limits : ℕ → ℕ → Limits
whole_limits high most = record { red_low = dec (pos 0); yellow_low = dec (pos (10 * million)); yellow_high = dec (pos (high * million)); red_high = dec (pos (most * million)); green = None }

abbrev item : List ℕ → ℤ → Option LimitsSetup → List StateDef → ItemData
item name offset limits states = record {
  name = name;
  kind = Uint;
  offset = offset;
  size = pos 16;
  order = Big;
  id = None;
  range = None;
  preset = presets.Whole (pos 0);
  states = states;
  conversion = Plain;
  limits = limits;
  units = None;
  format = None;
  required = false;
  overflow = overflows.Error;
}

abbrev setup : LimitsSetup
setup = record { sets = (codes "DEFAULT", whole_limits 100 200) ∷ (codes "NIGHT", whole_limits 2000 3000) ∷ []; persistence = 1; enabled = true }

abbrev with_items : List ItemData → SiteData
with_items items = record {
  definitions = record {
    telemetry = record { target = codes "T"; name = codes "A"; items = items; length = 4; variable = false; hazardous = false } ∷ [];
    commands = [];
    set_names = codes "DEFAULT" ∷ codes "NIGHT" ∷ [];
  };
  interfaces = [];
  routers = [];
  api_port = 7777;
  desks = 1;
  log_layout = 2;
  log_cycle = None;
}

abbrev site : SiteData
site = with_items (item (codes "LEN") (pos 0) None [] ∷ item (codes "V") (pos 16) (Some setup) [] ∷ [])

abbrev entry : What → Entry
entry what = record { by = 0; time = record { seconds = 0; micros = 0 }; what = what }

abbrev packet : Entry
packet = entry (Packet (Known 0) false (0 ∷ 4 ∷ 5 ∷ 0 ∷ []))

abbrev night : List Entry
night = entry Opened ∷ packet ∷ entry (LimitsSetIs (codes "NIGHT")) ∷ packet ∷ []

events_of_the_row : events site night ≡ record { at = 1; packet = 0; item = 1; before = Stale; after = RedHigh } ∷ record { at = 3; packet = 0; item = 1; before = RedHigh; after = Green } ∷ []
unfolding state_of state_back gathered_from fields.field_at bits.bits_of
events_of_the_row = refl

events_from_three : events_from site night 2 ≡ record { at = 3; packet = 0; item = 1; before = RedHigh; after = Green } ∷ []
unfolding state_of state_back gathered_from fields.field_at bits.bits_of
events_from_three = refl

state_of_the_row : state_at site 0 1 night ≡ Green
unfolding state_of state_back gathered_from fields.field_at bits.bits_of
state_of_the_row = refl

two_sets : sets_known site night ≡ 2
two_sets = refl

night_is_current : current_set night ≡ codes "NIGHT"
night_is_current = refl

-- ---- limits of a new set, and enabling

abbrev custom : Entry
custom = entry (SetLimits false 0 1 2 (codes "CUSTOM") (whole_limits 3000 4000))

three_sets : sets_known site (custom ∷ custom ∷ []) ≡ 3
three_sets = refl

custom_is_own : limits_of site 0 1 (codes "CUSTOM") (custom ∷ []) ≡ Some (record { own = true; limits = whole_limits 3000 4000; persistence = 2; enabled = false })
custom_is_own = refl

-- a set that the item lacks: DEFAULT as it is now
default_for_another : limits_of site 0 1 (codes "OTHER") (entry (SetLimits true 0 1 2 (codes "DEFAULT") (whole_limits 5 6)) ∷ []) ≡ Some (record { own = false; limits = whole_limits 5 6; persistence = 2; enabled = true })
default_for_another = refl

no_limits : limits_of site 0 0 (codes "DEFAULT") (custom ∷ []) ≡ None
no_limits = refl

-- disabled, no sample is taken and the state stays; enabled again, the next sample counts
disabled : state_at site 0 1 (packet ∷ entry (LimitsSetIs (codes "NIGHT")) ∷ entry (Enable 0 1 false) ∷ packet ∷ []) ≡ RedHigh
unfolding state_of state_back gathered_from fields.field_at bits.bits_of
disabled = refl

enabled_again : state_at site 0 1 (packet ∷ entry (LimitsSetIs (codes "NIGHT")) ∷ entry (Enable 0 1 false) ∷ entry (Enable 0 1 true) ∷ entry (Injected 0 (0 ∷ 4 ∷ 5 ∷ 0 ∷ [])) ∷ []) ≡ Green
unfolding state_of state_back gathered_from fields.field_at bits.bits_of
enabled_again = refl

-- ---- the colours of states

abbrev colored : SiteData
colored = with_items (item (codes "LEN") (pos 0) None [] ∷ item (codes "V") (pos 16) None
    (record { name = codes "ON"; value = pos 1280; color = Some StateRed; hazardous = false } ∷ record { name = codes "OFF"; value = pos 0; color = None; hazardous = false } ∷ []) ∷ [])

state_color : events colored (packet ∷ []) ≡ record { at = 0; packet = 0; item = 1; before = Stale; after = StateRed } ∷ []
unfolding state_of state_back gathered_from fields.field_at bits.bits_of
state_color = refl

-- a state without a colour, and a value without a state, give no sample
no_state_color : state_at colored 0 1 (packet ∷ entry (Packet (Known 0) false (0 ∷ 4 ∷ 0 ∷ 0 ∷ [])) ∷ entry (Packet (Known 0) false (0 ∷ 4 ∷ 0 ∷ 1 ∷ [])) ∷ []) ≡ StateRed
unfolding state_of state_back gathered_from fields.field_at bits.bits_of
no_state_color = refl
