-- A command that is built holds its parameters.
use Rattle.std.proofs.Common.{◌≡◌, ℕ, ◌+◌, ◌-◌, ◌*◌, ◌/◌, ◌%◌, ◌≤◌, ◌<◌, Bool, true, false, not, List, [], ◌∷◌, ◌++◌, Some, length, take, drop, get_or, refl, sym, ap, ◌∙◌, subst, arith, unsigned_abs}
use Rattle.std.specs.Prelude.{replicate, slice_get, slice_range}
use Rattle.std.specs.Int.{bit_at}
use Rattle.std.specs.List.{AllByRecursion, list_all}
use Rattle.std.proofs.lemmas.Bool.{and_parts}
use Rattle.std.proofs.lemmas.List.{append-nil, drop_all, drop_at, ext_get_or, get_or-append_right, get_or-drop, get_or-take, get_or_append_left, length-append, length-drop, length-replicate, length-take-le}
use Rattle.std.proofs.lemmas.Option.{get_or_from_slice_get, slice_get_within}
use Rattle.cts_bits.specs.Bits.{bits_of}
use Rattle.cts_bits.proofs.BitLists.{get_or-bits_of}
use Rattle.cts_def.specs.declared.item_kind.Preset.{Preset}
use Rattle.cts_def.specs.declared.item_kind.Preset.TheVariants.{Whole, Raw}
use Rattle.cts_def.specs.Items.{ItemData, is_from_start, is_parameter, is_to_the_end}
use Rattle.cts_def.specs.Packets.{DefinitionsData, PacketData, are_before_the_end}
use Rattle.cts_cmd.specs.declared.request.Given.{Given}
use Rattle.cts_cmd.specs.declared.request.Request.{Request}
use Rattle.cts_cmd.specs.Builds.{AreBytes, Writes, WritesAll, WritesBytes, lies_within}
use Rattle.cts_cmd.specs.Contents.{content}
use Rattle.cts_cmd.specs.Laws.{IsLeftBy, IsWrittenBit}
use Rattle.cts_cmd.proofs.Stays.{bits_stay, numbers_stand}
use Rattle.cts_cmd.proofs.Written.{all_within, command_starts}
use Rattle.cts_cmd_laws.specs.Sound.{AreCommands, IsCommand, IsItem}
use Rattle.cts_cmd_laws.specs.Standing.{CommandsHoldTheirParameters, Holds, HoldsItsParameters, added, all_added}
use Rattle.cts_cmd_laws.proofs.Contents.{HasRoom, content_suits, from_the_start, has_its_room}
use Rattle.cts_cmd_laws.proofs.Existing.{at_place}
use Rattle.cts_cmd_laws.proofs.Fields.{has_place}

-- ---- bytes by their bits

same_byte : (b c : ℕ) → b < 256 → c < 256 → bit_at b 0 ≡ bit_at c 0 → bit_at b 1 ≡ bit_at c 1 → bit_at b 2 ≡ bit_at c 2 → bit_at b 3 ≡ bit_at c 3 → bit_at b 4 ≡ bit_at c 4 → bit_at b 5 ≡ bit_at c 5 → bit_at b 6 ≡ bit_at c 6
    → bit_at b 7 ≡ bit_at c 7 → b ≡ c
same_byte b c hb hc e0 e1 e2 e3 e4 e5 e6 e7 = omega (arith, hb, hc, e0, e1, e2, e3, e4, e5, e6, e7)

one_bit : (xs : List ℕ) (m t : ℕ) → t < 8 → get_or (bits_of xs) (8 * m + (7 - t)) 0 ≡ bit_at (get_or xs m 0) t
one_bit xs m t h =
    let byte : (8 * m + (7 - t)) / 8 ≡ m = omega (arith, h) in
    let place : 7 - (8 * m + (7 - t)) % 8 ≡ t = omega (arith, h) in
    get_or-bits_of xs (8 * m + (7 - t)) ∙ ap (λ (n : ℕ). bit_at (get_or xs n 0) (7 - (8 * m + (7 - t)) % 8)) byte ∙ ap (λ (n : ℕ). bit_at (get_or xs m 0) n) place

byte_by_bits : (xs ys : List ℕ) (m : ℕ) → AreBytes xs → AreBytes ys → ((k : ℕ) → 8 * m ≤ k → k < 8 * m + 8 → get_or (bits_of xs) k 0 ≡ get_or (bits_of ys) k 0) → get_or xs m 0 ≡ get_or ys m 0
byte_by_bits xs ys m a b same =
    let bit : (t : ℕ) → t < 8 → bit_at (get_or xs m 0) t ≡ bit_at (get_or ys m 0) t = λ t h. sym (one_bit xs m t h) ∙ same (8 * m + (7 - t)) (omega (arith, h)) (omega (arith, h)) ∙ one_bit ys m t h in
    same_byte (get_or xs m 0) (get_or ys m 0) (a m) (b m) (bit 0 (omega arith)) (bit 1 (omega arith)) (bit 2 (omega arith)) (bit 3 (omega arith)) (bit 4 (omega arith)) (bit 5 (omega arith)) (bit 6 (omega arith)) (bit 7 (omega arith))

-- ---- one item

abbrev put : ℕ → List ℕ → List ℕ → List ℕ
put at bytes old = take at old ++ (bytes ++ drop (at + length bytes) old)

length-put : (at : ℕ) (bytes old : List ℕ) → at + length bytes ≤ length old → length (put at bytes old) ≡ length old
length-put at bytes old room =
    let a = length-append (take at old) (bytes ++ drop (at + length bytes) old) in
    let b = length-append bytes (drop (at + length bytes) old) in
    let c = length-drop (at + length bytes) old in
    let d = length-take-le at old (omega (arith, room)) in
    omega (arith, a, b, c, d, room)

-- what is put stands there
put_stands : (at : ℕ) (bytes old : List ℕ) (j : ℕ) → at ≤ length old → j < length bytes → get_or (put at bytes old) (at + j) 0 ≡ get_or bytes j 0
put_stands at bytes old j le lt =
    let place : at + j - at ≡ j = omega arith in
    get_or-append_right (take at old) (bytes ++ drop (at + length bytes) old) at (at + j) 0 (length-take-le at old le) (omega arith)
    ∙ ap (λ (n : ℕ). get_or (bytes ++ drop (at + length bytes) old) n 0) place
    ∙ get_or_append_left bytes (drop (at + length bytes) old) 0 j lt

text_is : (i : ItemData) (bytes old new : List ℕ) → is_to_the_end i ≡ false → WritesBytes i bytes old new → new ≡ put (unsigned_abs i.offset / 8) bytes old
text_is i bytes old new own w = rw own at w

end_is : (i : ItemData) (bytes old new : List ℕ) → is_to_the_end i ≡ true → WritesBytes i bytes old new → new ≡ old ++ bytes
end_is i bytes old new end w = rw end at w

-- an item that does not go to the end changes no length
same_length : (len : ℕ) (i : ItemData) (held : Preset) (old new : List ℕ) → length old ≡ len → is_to_the_end i ≡ false → HasRoom len i held → Writes i held old new → length new ≡ len
same_length len i (Whole z) old new long own room w = w.others.len ∙ long
same_length len i (Raw bytes) old new long own room w =
    ap (λ (x : List ℕ). length x) (text_is i bytes old new own w.0) ∙ length-put (unsigned_abs i.offset / 8) bytes old (let r = room own in omega (arith, r, long)) ∙ long

item_bytes : (i : ItemData) (held : Preset) (old new : List ℕ) → Writes i held old new → AreBytes new
item_bytes i (Whole z) old new w = w.bytes
item_bytes i (Raw bytes) old new w = w.1

all_bytes : (holds : ItemData → Preset) (items : List ItemData) (old new : List ℕ) → WritesAll holds items old new → AreBytes old → AreBytes new
all_bytes holds [] old new w all = subst AreBytes (sym w) all
all_bytes holds (i ∷ items) old new w all = all_bytes holds items w.0 new w.2 (item_bytes i (holds i) old w.0 w.1)

-- ---- all items

abbrev AllHaveRoom : ℕ → (ItemData → Preset) → List ItemData → Type 0
AllHaveRoom len holds items = AllByRecursion (λ (i : ItemData). HasRoom len i (holds i)) items

is_no : (b : Bool) → not b ≡ true → b ≡ false
is_no true h = sym h
is_no false h = refl

-- What stands after the length.
record EndsSo (len : ℕ) (tail new : List ℕ) : Type 0 where
  count : length new ≡ len + length tail
  end : drop len new ≡ tail

ends_with : (len : ℕ) (tail old new : List ℕ) → length old ≡ len → new ≡ old ++ tail → EndsSo len tail new
ends_with len tail old new long is =
    let both = ap (λ (x : List ℕ). length x) is ∙ length-append old tail in
    record { count = omega (arith, both, long); end = ap (drop len) is ∙ drop_at old tail len long }

ends_at : (len : ℕ) (new : List ℕ) → length new ≡ len → EndsSo len [] new
ends_at len new long = record { count = omega (arith, long); end = drop_all len new (omega (arith, long)) }

last_ends : (end : Bool) (len : ℕ) (i : ItemData) (held : Preset) (old new : List ℕ) → is_to_the_end i ≡ end → length old ≡ len → HasRoom len i held → Writes i held old new → EndsSo len (added i held) new
last_ends end len i (Whole z) old new e long room w = ends_at len new (w.others.len ∙ long)
last_ends true len i (Raw bytes) old new e long room w = rw e (ends_with len bytes old new long (end_is i bytes old new e w.0))
last_ends false len i (Raw bytes) old new e long room w = rw e (ends_at len new (same_length len i (Raw bytes) old new long e room w))

none_added : (i : ItemData) (held : Preset) → is_to_the_end i ≡ false → added i held ≡ []
none_added i (Whole z) own = refl
none_added i (Raw bytes) own = rw own refl

all_end : (len : ℕ) (holds : ItemData → Preset) (items : List ItemData) (old new : List ℕ) → length old ≡ len → are_before_the_end items ≡ true → AllHaveRoom len holds items → WritesAll holds items old new
    → EndsSo len (all_added holds items) new
all_end len holds [] old new long before rooms w = ends_at len new (ap (λ (x : List ℕ). length x) w ∙ long)
all_end len holds (i ∷ []) old new long before rooms w =
    let last : Writes i (holds i) old new = subst (λ (x : List ℕ). Writes i (holds i) old x) (sym w.2) w.1 in
    subst (λ (t : List ℕ). EndsSo len t new) (sym (append-nil (added i (holds i)))) (last_ends (is_to_the_end i) len i (holds i) old new refl long rooms.0 last)
all_end len holds (i ∷ j ∷ items) old new long before rooms w =
    let parts = and_parts (not (is_to_the_end i)) (are_before_the_end (j ∷ items)) before in
    let own = is_no (is_to_the_end i) parts.0 in
    let next = same_length len i (holds i) old w.0 long own rooms.0 w.1 in
    subst (λ (t : List ℕ). EndsSo len (t ++ all_added holds (j ∷ items)) new) (sym (none_added i (holds i) own)) (all_end len holds (j ∷ items) w.0 new next parts.1 rooms.1 w.2)

-- ---- one of all items

-- What stood before an item is written, and what is written of the others after it.
record Between (len : ℕ) (holds : ItemData → Preset) (i : ItemData) (later : List ItemData) (new : List ℕ) : Type 0 where
  stood : List ℕ
  next : List ℕ
  long : length stood ≡ len
  room : HasRoom len i (holds i)
  before : are_before_the_end (i ∷ later) ≡ true
  one : Writes i (holds i) stood next
  more : WritesAll holds later next new

between : (len : ℕ) (holds : ItemData → Preset) (front : List ItemData) (i : ItemData) (later : List ItemData) (old new : List ℕ) → length old ≡ len → are_before_the_end (front ++ i ∷ later) ≡ true
    → AllHaveRoom len holds (front ++ i ∷ later) → WritesAll holds (front ++ i ∷ later) old new → Between len holds i later new
between len holds [] i later old new long before rooms w = record { stood = old; next = w.0; long = long; room = rooms.0; before = before; one = w.1; more = w.2 }
between len holds (f ∷ []) i later old new long before rooms w =
    let parts = and_parts (not (is_to_the_end f)) (are_before_the_end (i ∷ later)) before in
    between len holds [] i later w.0 new (same_length len f (holds f) old w.0 long (is_no (is_to_the_end f) parts.0) rooms.0 w.1) parts.1 rooms.1 w.2
between len holds (f ∷ g ∷ front) i later old new long before rooms w =
    let parts = and_parts (not (is_to_the_end f)) (are_before_the_end ((g ∷ front) ++ i ∷ later)) before in
    between len holds (g ∷ front) i later w.0 new (same_length len f (holds f) old w.0 long (is_no (is_to_the_end f) parts.0) rooms.0 w.1) parts.1 rooms.1 w.2

-- ---- texts and blocks

text_stands : (len : ℕ) (holds : ItemData → Preset) (i : ItemData) (bytes : List ℕ) (later : List ItemData) (stood next new : List ℕ) → is_to_the_end i ≡ false → length stood ≡ len → len ≤ length new
    → HasRoom len i (Raw bytes) → Writes i (Raw bytes) stood next → WritesAll holds later next new → ((k : ℕ) → IsWrittenBit i (Raw bytes) k → IsLeftBy holds later k)
    → (let at = unsigned_abs i.offset / 8 in slice_range new at (at + length bytes) ≡ bytes)
text_stands len holds i bytes later stood next new own long most room w more left =
    let at = unsigned_abs i.offset / 8 in
    let fits = room own in
    let is = text_is i bytes stood next own w.0 in
    let same = same_length len i (Raw bytes) stood next long own room w in
    let count : at + length bytes - at ≡ length bytes = omega arith in
    let rest = length-drop at new in
    let front : length (take (at + length bytes - at) (drop at new)) ≡ at + length bytes - at = length-take-le (at + length bytes - at) (drop at new) (omega (arith, rest, fits, most)) in
    ext_get_or 0 (slice_range new at (at + length bytes)) bytes (front ∙ count) (λ j h.
    let lt : j < length bytes = omega (arith, h, front, count) in
    get_or-take (at + length bytes - at) (drop at new) j 0 (omega (arith, lt))
    ∙ get_or-drop at new j 0
    ∙ byte_by_bits new next (at + j) (all_bytes holds later next new more w.1) w.1 (λ k low high.
    bits_stay holds later next new more k (omega (arith, high, lt, fits, same)) (left k (own, omega (arith, low), omega (arith, high, lt))))
    ∙ ap (λ (x : List ℕ). get_or x (at + j) 0) is
    ∙ put_stands at bytes stood j (omega (arith, fits, long)) lt)

-- nothing stands after what goes to the end
none_later : (i : ItemData) (later : List ItemData) → is_to_the_end i ≡ true → are_before_the_end (i ∷ later) ≡ true → later ≡ []
none_later i [] end before = refl
none_later i (j ∷ later) end before =
    let own = is_no (is_to_the_end i) (and_parts (not (is_to_the_end i)) (are_before_the_end (j ∷ later)) before).0 in
    absurd (let no : true ≡ false = sym end ∙ own in cc)

raw_holds : (end : Bool) (len : ℕ) (holds : ItemData → Preset) (i : ItemData) (bytes : List ℕ) (later : List ItemData) (stood next new : List ℕ) → is_to_the_end i ≡ end → length stood ≡ len → len ≤ length new
    → HasRoom len i (Raw bytes) → are_before_the_end (i ∷ later) ≡ true → Writes i (Raw bytes) stood next → WritesAll holds later next new → ((k : ℕ) → IsWrittenBit i (Raw bytes) k → IsLeftBy holds later k)
    → Holds len i (Raw bytes) new
raw_holds true len holds i bytes later stood next new e long most room before w more left =
    let none = none_later i later e before in
    let last : new ≡ next = subst (λ (items : List ItemData). WritesAll holds items next new) none more in
    rw e (ap (drop len) (last ∙ end_is i bytes stood next e w.0) ∙ drop_at stood bytes len long)
raw_holds false len holds i bytes later stood next new e long most room before w more left = rw e (text_stands len holds i bytes later stood next new e long most room w more left)

held_by : (len : ℕ) (holds : ItemData → Preset) (front : List ItemData) (i : ItemData) (later : List ItemData) (held : Preset) (old new : List ℕ) → holds i ≡ held → len ≤ length new → Between len holds i later new
    → WritesAll holds (front ++ i ∷ later) old new → ((k : ℕ) → IsWrittenBit i held k → IsLeftBy holds later k) → Holds len i held new
held_by len holds front i later (Whole z) old new e most b w left = numbers_stand holds front i later z old new e w left
held_by len holds front i later (Raw bytes) old new e most b w left =
    raw_holds (is_to_the_end i) len holds i bytes later b.stood b.next new refl b.long most (subst (HasRoom len i) e b.room) b.before (subst (λ (h : Preset). Writes i h b.stood b.next) e b.one) b.more left

-- ---- commands

all_have_room : (len : ℕ) (params : List (List ℕ × Given)) (items : List ItemData) → AllByRecursion IsItem items → list_all is_from_start items ≡ true → list_all (lies_within len) items ≡ true
    → AllHaveRoom len (content params) items
all_have_room len params [] sound starts within = tt
all_have_room len params (i ∷ items) sound starts within =
    let start = and_parts (is_from_start i) (list_all is_from_start items) starts in
    let room = and_parts (lies_within len i) (list_all (lies_within len) items) within in
    let from = from_the_start i start.0 in
    let held = content_suits params i sound.0 (λ number. (has_place i number from sound.0.sound.placed).some) in
    (has_its_room len i (content params i) from room.0 held, all_have_room len params items sound.1 start.1 room.1)

command_holds : (c : PacketData) (params : List (List ℕ × Given)) (bytes : List ℕ) → IsCommand c → WritesAll (content params) c.items (replicate c.length 0) bytes → HoldsItsParameters c params bytes
command_holds c params bytes it w =
    let least = it.packet.sound.least in
    let long = length-replicate {A = ℕ} c.length 0 in
    let before = (and_parts (list_all is_parameter c.items) (are_before_the_end c.items) it.command).1 in
    let rooms = all_have_room c.length params c.items it.packet.items (command_starts c it.command) (all_within c.items c.length (omega (arith, least))) in
    let ends = all_end c.length (content params) c.items (replicate c.length 0) bytes long before rooms w in
    let count = ends.count in
    record {
      count = count;
      end = ends.end;
      fields = λ front i later is left.
          let there = subst (λ (items : List ItemData). WritesAll (content params) items (replicate c.length 0) bytes) is w in
          let b = between c.length (content params) front i later (replicate c.length 0) bytes long (subst (λ (items : List ItemData). are_before_the_end items ≡ true) is before) (subst (AllHaveRoom c.length (content params)) is rooms) there in
          held_by c.length (content params) front i later (content params i) (replicate c.length 0) bytes refl (omega (arith, count)) b there left;
    }

at_number : (P : PacketData → Type 0) (xs : List PacketData) (n : ℕ) (x : PacketData) → AllByRecursion P xs → slice_get xs n ≡ Some x → P x
at_number P xs n x all e = subst P (get_or_from_slice_get xs n x x e) (at_place P xs n x all (slice_get_within xs n x e))

pub commands_hold_their_parameters : (d : DefinitionsData) (r : Request) → AreCommands d.commands → CommandsHoldTheirParameters d r
commands_hold_their_parameters d r sound b built =
    command_holds built.command.it r.params b.bytes (at_number IsCommand d.commands b.command built.command.it sound built.command.number) built.bytes
