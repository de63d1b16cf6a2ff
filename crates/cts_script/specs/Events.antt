-- The lines of limits events.
use Rattle.std.specs.Prelude.{◌∷◌, [], ◌++◌, ℕ, List, codes}
use Rattle.std.specs.List.{flat_map}
use Rattle.cts_def.specs.declared.color.Color.{Color}
use Rattle.cts_def.specs.declared.color.Color.TheVariants.{RedLow, YellowLow, Green, GreenLow, Blue, GreenHigh, YellowHigh, RedHigh, Stale, StateRed}
use Rattle.cts_def.specs.declared.color.Color.TheVariants.{StateYellow, StateGreen}
use Rattle.cts_def.specs.Sites.{SiteData}
use Rattle.cts_script.specs.declared.limits_event.LimitsEvent.{LimitsEvent}
use Rattle.cts_def.specs.Names.{packet_names, item_name}
use Rattle.cts_script.specs.Spacing.{spaced}

-- a colour, by its name in the documentation of COSMOS 4; a state's colour has the name of the colour alone
abbrev pub color_text : Color → List ℕ
color_text RedLow = codes "RED_LOW"
color_text YellowLow = codes "YELLOW_LOW"
color_text Green = codes "GREEN"
color_text GreenLow = codes "GREEN_LOW"
color_text Blue = codes "BLUE"
color_text GreenHigh = codes "GREEN_HIGH"
color_text YellowHigh = codes "YELLOW_HIGH"
color_text RedHigh = codes "RED_HIGH"
color_text Stale = codes "STALE"
color_text StateRed = codes "RED"
color_text StateYellow = codes "YELLOW"
color_text StateGreen = codes "GREEN"

-- the line of an event: the target, the packet and the item, the limits state before it and the one after it
abbrev pub event_line : SiteData → LimitsEvent → List ℕ
event_line site event = spaced (
    codes "EVENT" ∷ (packet_names site event.packet).0 ∷ (packet_names site event.packet).1 ∷ item_name site event.packet event.item
    ∷ color_text event.before ∷ color_text event.after ∷ []) ++ (10 ∷ [])

-- the lines of events, one after the other
abbrev pub event_lines : SiteData → List LimitsEvent → List ℕ
event_lines site events = flat_map (event_line site) events
