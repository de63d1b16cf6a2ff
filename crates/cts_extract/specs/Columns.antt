-- Columns: the values of some items in the entries of a packet.
use Rattle.std.specs.Prelude.{◌≡◌, ℕ, ◌||◌, ◌==◌, Bool, true, false, nat_lt, List, [], ◌∷◌, ◌++◌, codes, map}
use Rattle.std.specs.Prelude.{Option, Some, None, is_none, Result, Ok, Err, slice_get, if◌then◌else◌}
use Rattle.std.specs.List.{find, flat_map, list_any}
use Rattle.hex.specs.Hex.{encode_upper}
use Rattle.cts_base.specs.Names.{spells}
use Rattle.cts_conv.specs.Kinds.{value_of}
use Rattle.cts_conv.specs.Plains.{plain_text}
use Rattle.cts_conv.specs.declared.value.ValueKind.{ValueKind}
use Rattle.cts_def.specs.Items.{ItemData}
use Rattle.cts_def.specs.Packets.{DefinitionsData, PacketData, is_named}
use Rattle.cts_extract.specs.declared.fault.ColumnFault.{ColumnFault}
use Rattle.cts_extract.specs.declared.fault.ColumnFault.TheVariants.{Unknown, Memory}
use Rattle.cts_log.specs.Logged.{Logged}
use Rattle.cts_script.specs.Lines.{time_text}

-- the packets of a log: telemetry packets, or commands
abbrev pub kept_packets : DefinitionsData → Bool → List PacketData
kept_packets d commands = if commands then d.commands else d.telemetry

-- ---- what the words of a column name

abbrev pub has_target : List ℕ → PacketData → Bool
has_target word p = spells word p.target

abbrev pub is_called : List ℕ → ItemData → Bool
is_called word i = spells word i.name

-- the packet that these words name, in any case
abbrev pub packet_named : DefinitionsData → Bool → List ℕ → List ℕ → Option PacketData
packet_named d commands target packet = find (is_named target packet) (kept_packets d commands)

-- the item of a packet that this word names, in any case
abbrev pub item_called : PacketData → List ℕ → Option ItemData
item_called p word = find (is_called word) p.items

-- the first of these words that names no item of the packet
abbrev pub first_stranger : PacketData → List (List ℕ) → Option (List ℕ)
first_stranger p words = find (λ word. is_none (item_called p word)) words

abbrev pub unknown_in : List ℕ → List (List ℕ) → Option PacketData → Option (List ℕ)
unknown_in packet words None = Some packet
unknown_in packet words (Some p) = first_stranger p words

-- the first word that is not defined: the target, the packet, or one of the items, in this order
abbrev pub first_unknown : DefinitionsData → Bool → List ℕ → List ℕ → List (List ℕ) → Option (List ℕ)
first_unknown d commands target packet words =
    if list_any (has_target target) (kept_packets d commands) then unknown_in packet words (packet_named d commands target packet) else Some target

-- ---- columns

-- what contracts see of columns
pub record ColumnsData : Type 0 where
  pub commands : Bool
  -- the number of the packet or command
  pub packet : ℕ
  -- the numbers of its items, and their names
  pub items : List ℕ
  pub names : List (List ℕ)
  pub kind : ValueKind

-- They are columns of a packet of these definitions, and of these items of it.
pub record AreOf (d : DefinitionsData) (p : PacketData) (items : List ItemData) (c : ColumnsData) : Type 0 where
  pub at : slice_get (kept_packets d c.commands) c.packet ≡ Some p
  pub items_at : map (slice_get p.items) c.items ≡ map Some items
  pub names : c.names ≡ map (λ (i : ItemData). i.name) items

-- The columns that were asked for: the packet is the one that the words name, and so are its items, in order.
pub record AreAsked (d : DefinitionsData) (commands : Bool) (target packet : List ℕ) (words : List (List ℕ)) (kind : ValueKind) (c : ColumnsData) : Type 0 where
  pub of : PacketData
  pub items : List ItemData
  pub are_of : AreOf d of items c
  pub commands_are : c.commands ≡ commands
  pub kind_is : c.kind ≡ kind
  pub named : packet_named d commands target packet ≡ Some of
  pub called : map (item_called of) words ≡ map Some items

-- that this word names nothing, but for want of memory
abbrev pub IsUnknown : List ℕ → ColumnFault → Type 0
IsUnknown word (Unknown other) = other ≡ word
IsUnknown word Memory = Unit {0}

-- What an attempt to make columns answers. The cases exclude one another, but for want of memory.
abbrev pub ColumnsAre : DefinitionsData → Bool → List ℕ → List ℕ → List (List ℕ) → ValueKind → Result ColumnsData ColumnFault → Type 0
ColumnsAre d commands target packet words kind (Ok c) =
    (first_unknown d commands target packet words ≡ None) × AreAsked d commands target packet words kind c
ColumnsAre d commands target packet words kind (Err (Unknown word)) = first_unknown d commands target packet words ≡ Some word
ColumnsAre d commands target packet words kind (Err Memory) = Unit {0}

-- What an attempt to find the items of a packet answers: their numbers and their names, or the first word that names none.
abbrev pub ItemsAre : PacketData → List (List ℕ) → Result (List ℕ × List (List ℕ)) ColumnFault → Type 0
ItemsAre p words (Ok found) =
    (items : List ItemData) × (map (item_called p) words ≡ map Some items) × (map (slice_get p.items) found.0 ≡ map Some items)
    × (found.1 ≡ map (λ (i : ItemData). i.name) items)
ItemsAre p words (Err (Unknown word)) = first_stranger p words ≡ Some word
ItemsAre p words (Err Memory) = Unit {0}

-- What an attempt to find one more item answers: its number and its name stand after the others, or its word names none.
abbrev pub Takes : PacketData → List ℕ → List ℕ → List (List ℕ) → Result (Unit {0}) ColumnFault → List ℕ → List (List ℕ) → Type 0
Takes p word numbers names (Ok u) more others =
    (number : ℕ) × (i : ItemData) × (item_called p word ≡ Some i) × (slice_get p.items number ≡ Some i) × (more ≡ numbers ++ number ∷ [])
    × (others ≡ names ++ i.name ∷ [])
Takes p word numbers names (Err (Unknown other)) more others = (item_called p word ≡ None) × (other ≡ word)
Takes p word numbers names (Err Memory) more others = Unit {0}

-- The same of some words, one after another.
abbrev pub TakesAll : PacketData → List (List ℕ) → List ℕ → List (List ℕ) → Result (Unit {0}) ColumnFault → List ℕ → List (List ℕ) → Type 0
TakesAll p words numbers names (Ok u) more others =
    (items : List ItemData) × (places : List ℕ) × (map (item_called p) words ≡ map Some items) × (map (slice_get p.items) places ≡ map Some items)
    × (more ≡ numbers ++ places) × (others ≡ names ++ map (λ (i : ItemData). i.name) items)
TakesAll p words numbers names (Err (Unknown word)) more others = first_stranger p words ≡ Some word
TakesAll p words numbers names (Err Memory) more others = Unit {0}

-- ---- texts

-- the heading: the names, with a tab before each
abbrev pub heading_text : List (List ℕ) → List ℕ
heading_text names = codes "TIME" ++ flat_map (λ name. 9 ∷ name) names

-- a byte of a value's text that is printed as `\x` and two digits
abbrev pub is_hidden : ℕ → Bool
is_hidden b = nat_lt b 32 || (b == 127 || b == 92)

abbrev pub shown_byte : ℕ → List ℕ
shown_byte b = if is_hidden b then 92 ∷ 120 ∷ encode_upper (b ∷ []) else b ∷ []

abbrev pub shown : List ℕ → List ℕ
shown text = flat_map shown_byte text

-- a value of an item with a tab before it
abbrev pub cell : ValueKind → PacketData → List ℕ → ItemData → List ℕ
cell kind p bytes i = 9 ∷ shown (plain_text (value_of kind p i bytes))

-- the same of an item by its number, if it is there
abbrev pub cell_at : ValueKind → PacketData → List ℕ → Option ItemData → List ℕ
cell_at kind p bytes None = []
cell_at kind p bytes (Some i) = cell kind p bytes i

abbrev pub cell_of : ValueKind → PacketData → List ℕ → ℕ → List ℕ
cell_of kind p bytes number = cell_at kind p bytes (slice_get p.items number)

-- the row of an entry: its time, as a transcript has it, and the value of each item in its bytes
abbrev pub row_text : ValueKind → PacketData → List ItemData → Logged → List ℕ
row_text kind p items e = time_text e.heading.time ++ flat_map (cell kind p e.bytes) items

-- the entry is of this packet: its names are the packet's, in any case
abbrev pub is_of_packet : PacketData → Logged → Bool
is_of_packet p e = is_named e.heading.target e.heading.packet p

-- An answer: no row exactly where the entry has other names than the packet, and else its row.
abbrev pub IsRow : ValueKind → PacketData → List ItemData → Logged → Option (List ℕ) → Type 0
IsRow kind p items e None = is_of_packet p e ≡ false
IsRow kind p items e (Some row) = (is_of_packet p e ≡ true) × (row ≡ row_text kind p items e)
