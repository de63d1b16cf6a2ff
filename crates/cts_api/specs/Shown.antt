-- Values and names as JSON, and the messages of refusals.
use Rattle.std.specs.Prelude.{ℕ, ℤ, pos, neg_ℤ, ◌^◌, Bool, true, false, ◌&&◌, int_le, int_lt, List, [], ◌∷◌, codes, if◌then◌else◌}
use Rattle.std.specs.Fmt.{signed_decimal}
use Rattle.std.specs.Str.Lossy.{utf8_lossy}
use Rattle.cts_base.specs.declared.decimal.Decimal.{Decimal}
use Rattle.cts_base.specs.Names.{in_upper_case}
use Rattle.cts_base.specs.Prints.{decimal_text}
use Rattle.cts_cmd.specs.declared.refused.Refused.{Refused}
use Rattle.cts_cmd.specs.declared.refused.Refused.TheVariants.{UnknownParameter}
use Rattle.cts_cmd.specs.Refusals.{refusal_text}
use Rattle.cts_cmd.specs.declared.request.Given.{Given}
use Rattle.cts_cmd.specs.declared.request.Given.TheVariants.{Whole, Text}
use Rattle.cts_conv.specs.declared.value.Value as v
use Rattle.cts_conv.specs.declared.value.Value.TheVariants as vs
use Rattle.cts_conv.specs.Plains.{plain_text}
use Rattle.cts_def.specs.declared.color.Color.{Color}
use Rattle.cts_def.specs.declared.color.Color.TheVariants.{RedLow, YellowLow, Green, GreenLow, Blue, GreenHigh, YellowHigh, RedHigh, Stale, StateRed}
use Rattle.cts_def.specs.declared.color.Color.TheVariants.{StateYellow, StateGreen}
use Rattle.serde_json.specs.Data.{Data, number, string, array, unsigned, Members, no_members, put}
use Rattle.serde_json.specs.Find.{of_integer}
use Rattle.serde_json.specs.View.{items_of}
use Rattle.cts_api.specs.Saying.{Said, refused}

-- Bytes as text: what is no UTF-8 in them is replaced.
abbrev pub text : List ℕ → Data
text bytes = string (utf8_lossy bytes)

abbrev pub list : List Data → Data
list ds = array (items_of ds)

abbrev pub whole : ℕ → Data
whole n = number (unsigned n)

-- The numbers that JSON holds here; every whole value of an item and every whole number of a command is one of them.
abbrev pub is_held : ℤ → Bool
is_held z = int_le (neg_ℤ (pos (2 ^ 63))) z && int_lt z (pos (2 ^ 64))

-- a whole number
abbrev pub whole_shown : ℤ → Data
whole_shown z = if is_held z then number (of_integer z) else text (signed_decimal z)

-- a whole number is a number; every other value is its plain text
abbrev pub shown : v.Value → Data
shown (vs.Whole z) = whole_shown z
shown (vs.Parts d) = text (plain_text (vs.Parts d))
shown (vs.Text t) = text (plain_text (vs.Text t))
shown (vs.Raw bytes) = text (plain_text (vs.Raw bytes))

abbrev pub decimal : Decimal → Data
decimal d = text (decimal_text d.parts)

abbrev pub color_name : Color → List ℕ
color_name RedLow = codes "RED_LOW"
color_name YellowLow = codes "YELLOW_LOW"
color_name Green = codes "GREEN"
color_name GreenLow = codes "GREEN_LOW"
color_name Blue = codes "BLUE"
color_name GreenHigh = codes "GREEN_HIGH"
color_name YellowHigh = codes "YELLOW_HIGH"
color_name RedHigh = codes "RED_HIGH"
color_name Stale = codes "STALE"
color_name StateRed = codes "RED"
color_name StateYellow = codes "YELLOW"
color_name StateGreen = codes "GREEN"

abbrev pub color : Color → Data
color c = string (color_name c)

-- one of red or yellow
abbrev pub is_out : Color → Bool
is_out RedLow = true
is_out YellowLow = true
is_out Green = false
is_out GreenLow = false
is_out Blue = false
is_out GreenHigh = false
is_out YellowHigh = true
is_out RedHigh = true
is_out Stale = false
is_out StateRed = true
is_out StateYellow = true
is_out StateGreen = false

abbrev pub given : Given → Data
given (Whole z) = whole_shown z
given (Text t) = text t

-- the members, and then what was given, by the names of parameters in upper case, which are the definition's
abbrev pub object_with : Members → List (List ℕ × Given) → Members
object_with ms [] = ms
object_with ms (p ∷ ps) = object_with (put (utf8_lossy (in_upper_case p.0)) (given p.1) ms) ps

abbrev pub object_of : List (List ℕ × Given) → Members
object_of ps = object_with no_members ps

-- ---- refusals

abbrev pub no_such : {A : Type 0} → List ℕ → Said A
no_such message = refused (neg_ℤ (pos 32001)) message

abbrev pub not_done : {A : Type 0} → List ℕ → Said A
not_done message = refused (neg_ℤ (pos 32002)) message

abbrev pub bad_params : {A : Type 0} → Said A
bad_params = refused (neg_ℤ (pos 32602)) (codes "Invalid params")

-- a refusal of inject_tlm: an unknown item is named as such
abbrev pub injection_said : {A : Type 0} → Refused → Said A
injection_said (UnknownParameter name) = no_such (codes "Unknown item")
injection_said e = not_done (refusal_text e)
