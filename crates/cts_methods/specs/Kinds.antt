-- The kinds of params: of which values a list of params is, and what it then asks.
use Rattle.std.specs.Prelude.{ℕ, ℤ, pos, ◌*ℤ◌, Bool, true, not, nat_le, ◌&&◌, ◌==◌, List, [], ◌∷◌, length, drop, Option, Some, None, option_map}
use Rattle.std.specs.Prelude.{option_and_then, is_some, Result, Ok, Err, if◌then◌else◌, codes}
use Rattle.std.specs.List.{before_first, position_or_len}
use Rattle.std.specs.Str.{bytes_eq}
use Rattle.cts_base.specs.declared.decimal.Decimal.{Decimal}
use Rattle.cts_base.specs.declared.decimal.NotDecimal.{NotDecimal}
use Rattle.cts_base.specs.Decimals.{decimal_of}
use Rattle.cts_cmd.specs.Words.{is_white}
use Rattle.cts_cmd.specs.declared.request.Given.{Given}
use Rattle.cts_cmd.specs.declared.request.Given.TheVariants.{Whole, Text}
use Rattle.cts_conv.specs.declared.value.ValueKind.{ValueKind}
use Rattle.cts_conv.specs.declared.value.ValueKind.TheVariants.{Raw, Converted, Formatted, WithUnits}
use Rattle.cts_def.specs.declared.limits.Limits.{Limits}
use Rattle.serde_json.specs.Data.{Data, null, boolean, number, string, array, object, Items, no_items, item, Members, no_members, member}
use Rattle.serde_json.specs.Find.{as_bool, as_integer, as_number, as_str, as_u64}
use Rattle.cts_methods.specs.Asking.{PacketName, ItemName, Order, in_text, in_parts, NewLimits, Asking, asks_value, asks_packet, sends, asks_limits}
use Rattle.cts_methods.specs.Asking.{sets_limits, enables, chooses_set, asks_events, asks_interface, injects}

abbrev pub listed : Items → List Data
listed no_items = []
listed (item d ds) = d ∷ listed ds

-- ---- one param

abbrev pub text_in : Data → Option (List ℕ)
text_in d = as_str d

-- a whole number
abbrev pub whole_in : Data → Option ℤ
whole_in d = option_and_then as_integer (as_number d)

-- a whole number of at least 0
abbrev pub natural_in : Data → Option ℕ
natural_in d = option_and_then as_u64 (as_number d)

abbrev pub persistence : ℕ → Option ℕ
persistence n = if nat_le 1 n && nat_le n 4294967295 then Some n else None

-- a whole number from 1 to 4,294,967,295
abbrev pub persistence_in : Data → Option ℕ
persistence_in d = option_and_then persistence (natural_in d)

abbrev pub switch_in : Data → Option Bool
switch_in d = as_bool d

-- a whole number or a text
abbrev pub given_in : Data → Option Given
given_in null = None
given_in (boolean b) = None
given_in (number n) = option_map Whole (as_integer n)
given_in (string s) = Some (Text s)
given_in (array ds) = None
given_in (object ms) = None

-- a number of whole numbers
abbrev pub wholes : ℤ → Decimal
wholes z = record { parts = z *ℤ pos 1000000000000 }

abbrev pub decimal_read : Result Decimal NotDecimal → Option Decimal
decimal_read (Ok d) = Some d
decimal_read (Err e) = None

-- a whole number, or a text with a decimal
abbrev pub decimal_in : Data → Option Decimal
decimal_in null = None
decimal_in (boolean b) = None
decimal_in (number n) = option_map wholes (as_integer n)
decimal_in (string s) = decimal_read (decimal_of s)
decimal_in (array ds) = None
decimal_in (object ms) = None

-- each member is a whole number or a text
abbrev pub are_given : Members → Bool
are_given no_members = true
are_given (member name d ms) = is_some (given_in d) && are_given ms

-- an object of whole numbers and texts
abbrev pub object_in : Data → Option Members
object_in null = None
object_in (boolean b) = None
object_in (number n) = None
object_in (string s) = None
object_in (array ds) = None
object_in (object ms) = if are_given ms then Some ms else None

abbrev pub with_given : List ℕ → Option Given → List (List ℕ × Given) → List (List ℕ × Given)
with_given name None rest = rest
with_given name (Some g) rest = (name, g) ∷ rest

-- what such an object gives, in the order of the names
abbrev pub members_given : Members → List (List ℕ × Given)
members_given no_members = []
members_given (member name d ms) = with_given name (given_in d) (members_given ms)

-- ---- the words of a text

-- no white space
abbrev pub is_black : ℕ → Bool
is_black c = not (is_white c)

-- what stands after white space
abbrev pub after_white : List ℕ → List ℕ
after_white text = drop (position_or_len is_black text) text

abbrev pub word_from : List ℕ → Option (List ℕ × List ℕ)
word_from here =
    if length here == 0 then None else Some (before_first is_white here, drop (position_or_len is_white here) here)

-- the word that stands first, after white space, and what stands after it
abbrev pub word_first : List ℕ → Option (List ℕ × List ℕ)
word_first text = word_from (after_white text)

abbrev pub named_by : List ℕ → List ℕ → List ℕ → List ℕ → Option ItemName
named_by target packet last rest = if length rest == 0 then Some (record { target = target; packet = packet; item = last }) else None

-- a text of three words, with white space between and perhaps around them
abbrev pub three_words : List ℕ → Option ItemName
three_words text =
    option_and_then (λ (t : List ℕ × List ℕ).
    option_and_then (λ (p : List ℕ × List ℕ).
    option_and_then (λ (i : List ℕ × List ℕ). named_by t.0 p.0 i.0 (after_white i.1)) (word_first p.1)) (word_first t.1)) (word_first text)

-- ---- params from the front: what they are, and those that follow

abbrev pub first_in : {A : Type 0} → (Data → Option A) → List Data → Option (A × List Data)
first_in kind [] = None
first_in kind (d ∷ ds) = option_map (λ a. (a, ds)) (kind d)

-- two texts
abbrev pub packet_first : List Data → Option (PacketName × List Data)
packet_first ds =
    option_and_then (λ (t : List ℕ × List Data).
    option_map (λ (p : List ℕ × List Data). (record { target = t.0; packet = p.0 }, p.1)) (first_in text_in t.1)) (first_in text_in ds)

-- three texts
abbrev pub names_first : List Data → Option (ItemName × List Data)
names_first ds =
    option_and_then (λ (p : PacketName × List Data).
    option_map (λ (i : List ℕ × List Data). (record { target = p.0.target; packet = p.0.packet; item = i.0 }, i.1)) (first_in text_in p.1)) (packet_first ds)

-- one that may be absent; after an absent one stands nothing
abbrev pub maybe_first : {A : Type 0} → (Data → Option A) → List Data → Option (Option A × List Data)
maybe_first kind [] = Some (None, [])
maybe_first kind (d ∷ ds) = option_map (λ a. (Some a, ds)) (kind d)

-- nothing stands after
abbrev pub alone : {A : Type 0} → A × List Data → Option A
alone (a, []) = Some a
alone (a, d ∷ ds) = None

-- exactly one
abbrev pub single : {A : Type 0} → (Data → Option A) → List Data → Option A
single kind ds = option_and_then alone (first_in kind ds)

-- at most one
abbrev pub may_be : {A : Type 0} → (Data → Option A) → List Data → Option (Option A)
may_be kind ds = option_and_then alone (maybe_first kind ds)

-- PACKET: two texts
abbrev pub packet_in : List Data → Option PacketName
packet_in ds = option_and_then alone (packet_first ds)

-- three texts
abbrev pub names_in : List Data → Option ItemName
names_in ds = option_and_then alone (names_first ds)

-- ITEM: three texts, or one text of three words
abbrev pub item_in : List Data → Option ItemName
item_in [] = None
item_in (d ∷ []) = option_and_then three_words (text_in d)
item_in (d ∷ e ∷ ds) = names_in (d ∷ e ∷ ds)

-- ---- the kinds of each method

abbrev pub kind_named : List ℕ → Option ValueKind
kind_named t =
    if bytes_eq t (codes "RAW") then Some Raw else if bytes_eq t (codes "CONVERTED") then Some Converted
    else if bytes_eq t (codes "FORMATTED") then Some Formatted else if bytes_eq t (codes "WITH_UNITS") then Some WithUnits else None

abbrev pub kind_in : Data → Option ValueKind
kind_in d = option_and_then kind_named (text_in d)

abbrev pub or_else : {A : Type 0} → A → Option A → A
or_else a None = a
or_else a (Some b) = b

abbrev pub nothing : Asking → List Data → Option Asking
nothing a [] = Some a
nothing a (d ∷ ds) = None

abbrev pub value : ValueKind → List Data → Option Asking
value kind ds = option_map (λ (i : ItemName). asks_value kind i) (item_in ds)

abbrev pub packet : List Data → Option Asking
packet ds =
    option_and_then (λ (p : PacketName × List Data).
    option_map (λ (k : Option ValueKind). asks_packet p.0 (or_else Converted k)) (may_be kind_in p.1)) (packet_first ds)

abbrev pub count : (PacketName → Asking) → List Data → Option Asking
count a ds = option_map a (packet_in ds)

-- target, command and optionally an object
abbrev pub parts_in : List Data → Option Order
parts_in ds =
    option_and_then (λ (c : PacketName × List Data).
    option_map (λ (ms : Option Members). in_parts c.0 (or_else no_members ms)) (may_be object_in c.1)) (packet_first ds)

abbrev pub order_in : List Data → Option Order
order_in [] = None
order_in (d ∷ []) = option_map in_text (text_in d)
order_in (d ∷ e ∷ ds) = parts_in (d ∷ e ∷ ds)

abbrev pub command : Bool → Bool → List Data → Option Asking
command range hazardous ds = option_map (λ (o : Order). sends (record { range = range; hazardous = hazardous }) o) (order_in ds)

abbrev pub limits : List Data → Option Asking
limits ds =
    option_and_then (λ (i : ItemName × List Data).
    option_map (λ (s : Option (List ℕ)). asks_limits i.0 s) (may_be text_in i.1)) (names_first ds)

-- two decimals
abbrev pub pair_first : List Data → Option ((Decimal × Decimal) × List Data)
pair_first ds =
    option_and_then (λ (a : Decimal × List Data).
    option_map (λ (b : Decimal × List Data). ((a.0, b.0), b.1)) (first_in decimal_in a.1)) (first_in decimal_in ds)

-- two decimals, or nothing
abbrev pub green_first : List Data → Option (Option (Decimal × Decimal) × List Data)
green_first [] = Some (None, [])
green_first (d ∷ ds) = option_map (λ (g : (Decimal × Decimal) × List Data). (Some g.0, g.1)) (pair_first (d ∷ ds))

-- rl, yl, yh, rh [gl, gh
abbrev pub limits_first : List Data → Option (Limits × List Data)
limits_first ds =
    option_and_then (λ (low : (Decimal × Decimal) × List Data).
    option_and_then (λ (high : (Decimal × Decimal) × List Data).
    option_map (λ (g : Option (Decimal × Decimal) × List Data).
    (record { red_low = low.0.0; yellow_low = low.0.1; yellow_high = high.0.0; red_high = high.0.1; green = g.0 }, g.1))
    (green_first high.1)) (pair_first low.1)) (pair_first ds)

-- limits [set [persistence [enabled]]]
abbrev pub new_limits : List Data → Option NewLimits
new_limits ds =
    option_and_then (λ (l : Limits × List Data).
    option_and_then (λ (s : Option (List ℕ) × List Data).
    option_and_then (λ (n : Option ℕ × List Data).
    option_map (λ (on : Option Bool). record { limits = l.0; set = s.0; persistence = n.0; enabled = or_else true on })
    (may_be switch_in n.1)) (maybe_first persistence_in s.1)) (maybe_first text_in l.1)) (limits_first ds)

abbrev pub set_limits : List Data → Option Asking
set_limits ds =
    option_and_then (λ (i : ItemName × List Data).
    option_map (λ (l : NewLimits). sets_limits i.0 l) (new_limits i.1)) (names_first ds)

abbrev pub enable : Bool → List Data → Option Asking
enable on ds = option_map (λ (i : ItemName). enables on i) (names_in ds)

abbrev pub choose_set : List Data → Option Asking
choose_set ds = option_map chooses_set (single text_in ds)

abbrev pub events : List Data → Option Asking
events ds = option_map (λ (from : Option ℕ). asks_events (or_else 0 from)) (may_be natural_in ds)

abbrev pub interface : List Data → Option Asking
interface ds = option_map asks_interface (single text_in ds)

abbrev pub injected : List Data → Option Asking
injected ds =
    option_and_then (λ (p : PacketName × List Data).
    option_map (λ (ms : Members). injects p.0 ms) (single object_in p.1)) (packet_first ds)
