-- Samples, and the limits states that they leave.
use Rattle.std.specs.Prelude.{ℕ, if◌then◌else◌, List, [], ◌∷◌, Option, None, Some}
use Rattle.cts_def.specs.declared.color.Color.{Color}
use Rattle.cts_def.specs.declared.ident.Ident.TheVariants.{Known}
use Rattle.cts_def.specs.declared.color.Color.TheVariants.{Stale}
use Rattle.cts_def.specs.declared.limits.Limits.{Limits}
use Rattle.cts_def.specs.declared.state_def.StateDef.{StateDef}
use Rattle.cts_def.specs.Items.{ItemData}
use Rattle.cts_def.specs.Sites.{SiteData}
use Rattle.cts_conv.specs.declared.value.Value.{Value}
use Rattle.cts_conv.specs.Conversions.{before_states}
use Rattle.cts_conv.specs.Conversions as conversions
use Rattle.cts_conv.specs.Formatting.{measured_parts}
use Rattle.cts_conv.specs.Raws.{raw_value}
use Rattle.cts_limits.specs.Colors.{color_of}
use Rattle.cts_limits.specs.States.{Sample, state_of}
use Rattle.cts_entry.specs.declared.entry.Entry.{Entry}
use Rattle.cts_monitor.specs.Gathered.{gathered}
use Rattle.cts_monitor.specs.Brought.{brought_by}
use Rattle.cts_monitor.specs.Settings.{Watched, current_set, sets_of, limits_used, persistence_of, enabled_of, watched_at}
use Rattle.cts_monitor.specs.declared.types.Setting.{Setting}

-- what counts for an item: the limits of the current set, or of DEFAULT where it has none of that set; its persistence; and
-- whether samples are taken
abbrev pub setting_of : Watched → List Entry → Setting
setting_of w h = record { limits = limits_used (current_set h) (sets_of w h); persistence = persistence_of w h; enabled = enabled_of w h }

abbrev pub color_in : Option StateDef → Option Color
color_in None = None
color_in (Some s) = s.color

-- the colour of a raw value: by limits, and where there are none that of the value's state
abbrev pub color_seen : Option Limits → ItemData → Value → Option Color
color_seen None i raw = color_in (conversions.state_of i (before_states i raw))
color_seen (Some l) i raw = Some (color_of l (record { parts = measured_parts i raw }))

abbrev pub sample_with : ℕ → Option Color → List Sample
sample_with n None = []
sample_with n (Some c) = record { persistence = n; color = c } ∷ []

-- the sample that bytes give under a setting, if any
abbrev pub sample_of : Watched → Setting → List ℕ → List Sample
sample_of w s bytes =
    if s.enabled then sample_with s.persistence (color_seen s.limits w.item (raw_value w.packet w.item bytes)) else []

abbrev pub sample_in : Watched → Setting → Option (List ℕ) → List Sample
sample_in w s None = []
sample_in w s (Some bytes) = sample_of w s bytes

-- the sample of an item that an entry gives after those before it, if any
abbrev pub sample_at : Watched → List Entry → Entry → List Sample
sample_at w before e = sample_in w (setting_of w before) (brought_by (Known w.at) e)

-- an item's samples, in order
abbrev pub samples : Watched → List Entry → List Sample
samples w h = gathered (sample_at w) h

-- an item's limits state
abbrev pub state_after : Watched → List Entry → Color
state_after w h = state_of (samples w h)

abbrev pub state_in : Option Watched → List Entry → Color
state_in None h = Stale
state_in (Some w) h = state_after w h

-- the state of an item of the site
abbrev pub state_at : SiteData → ℕ → ℕ → List Entry → Color
state_at site p i h = state_in (watched_at site p i) h
