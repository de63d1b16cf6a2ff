-- What the fields of a command hold.
use Rattle.std.proofs.Common.{◌≡◌, ℕ, pos, ◌+◌, ◌-◌, ◌/◌, ◌≤◌, Bool, true, false, not, ◌&&◌, List, [], Option, Some, None, length, take, inl, inr, refl, sym, ap, ◌∙◌, arith, unsigned_abs}
use Rattle.std.specs.Prelude.{replicate, unwrap_or, if◌then◌else◌}
use Rattle.std.specs.Int.{is_negative}
use Rattle.std.proofs.lemmas.Bool.{and_parts, cases_lt}
use Rattle.std.proofs.lemmas.List.{length-append, length-replicate, length-take-le, take_all}
use Rattle.cts_def.specs.declared.item_kind.Preset.{Preset}
use Rattle.cts_def.specs.declared.item_kind.Preset.TheVariants.{Whole, Raw}
use Rattle.cts_def.specs.Items.{ItemData, has_room, is_from_start, is_sound_preset, is_to_the_end, span_of}
use Rattle.cts_def.specs.Spans.{bytes_needed, is_number, is_spelled}
use Rattle.cts_cmd.specs.declared.request.Given.{Given}
use Rattle.cts_cmd.specs.declared.request.Given.TheVariants as given
use Rattle.cts_cmd.specs.Builds.{AreBytes, lies_within}
use Rattle.cts_cmd.specs.Contents.{bytes_given, content, content_given, content_of, content_preset, given_for, number_given, sized, written_bytes, written_number}
use Rattle.cts_cmd.specs.Injects.{from_base}
use Rattle.cts_cmd.proofs.Behind.{same_start, text_after}
use Rattle.cts_cmd.proofs.Injected.{within_of}
use Rattle.cts_cmd_laws.specs.Sound.{IsItem, IsPreset}
use Rattle.cts_cmd_laws.proofs.Bytes.{AreSomeBytes, bytes_both, bytes_none, bytes_take, bytes_zeros, text_is_bytes}
use Rattle.cts_cmd_laws.proofs.Fields.{CanHold}
use Rattle.cts_cmd_laws.proofs.Spelled.{written_spelled}

-- What is held is what a field of the item's kind can hold, and fills it where it does not go to the end.
abbrev pub Suits : ItemData → Preset → Type 0
Suits i (Whole z) = (is_number i.kind ≡ true) × (is_spelled i.kind (unsigned_abs i.size) z ≡ true)
Suits i (Raw bytes) = (is_number i.kind ≡ false) × AreBytes bytes × (is_to_the_end i ≡ false → length bytes ≡ unsigned_abs i.size / 8)

pub can_hold : (i : ItemData) (held : Preset) → Suits i held → CanHold i held
can_hold i (Whole z) s = s
can_hold i (Raw bytes) s = s.1

-- ---- bytes

sized_bytes : (n : ℕ) (bytes : List ℕ) → AreBytes bytes → AreBytes (sized n bytes)
sized_bytes n bytes all = bytes_both (take n bytes) (replicate (n - length bytes) 0) (bytes_take n bytes all) (bytes_zeros (n - length bytes))

length-sized : (n : ℕ) (bytes : List ℕ) → length (sized n bytes) ≡ n
length-sized n bytes =
    let a = length-append (take n bytes) (replicate (n - length bytes) 0) in
    let b = length-replicate {A = ℕ} (n - length bytes) 0 in
    elim (cases_lt n (length bytes)) [
      | inl less ↦ let c = length-take-le n bytes (omega (arith, less)) in omega (arith, a, b, c, less)
      | inr more ↦ let c = ap (λ (x : List ℕ). length x) (take_all n bytes more) in omega (arith, a, b, c, more)
    ]

raw_by : (end : Bool) (i : ItemData) (bytes : List ℕ) → is_to_the_end i ≡ end → is_number i.kind ≡ false → AreBytes bytes → Suits i (Raw (if end then bytes else sized (unsigned_abs i.size / 8) bytes))
raw_by true i bytes end text all = (text, all, λ own. absurd (let no : true ≡ false = sym end ∙ own in cc))
raw_by false i bytes end text all = (text, sized_bytes (unsigned_abs i.size / 8) bytes all, λ own. length-sized (unsigned_abs i.size / 8) bytes)

raw_suits : (i : ItemData) (bytes : List ℕ) → is_number i.kind ≡ false → AreBytes bytes → Suits i (Raw (written_bytes i bytes))
raw_suits i bytes text all = raw_by (is_to_the_end i) i bytes refl text all

some_bytes : (o : Option (List ℕ)) → AreSomeBytes o → AreBytes (unwrap_or o [])
some_bytes None h = bytes_none
some_bytes (Some bytes) h = h

given_bytes : (i : ItemData) (g : Given) → AreBytes (unwrap_or (bytes_given i g) [])
given_bytes i (given.Whole z) = bytes_none
given_bytes i (given.Text t) = some_bytes (bytes_given i (given.Text t)) (text_is_bytes i.kind t)

-- ---- contents

given_by : (number : Bool) (i : ItemData) (g : Given) → is_number i.kind ≡ number → (is_number i.kind ≡ true → 1 ≤ unsigned_abs i.size)
    → Suits i (if number then Whole (written_number i (unwrap_or (number_given i g) (pos 0))) else Raw (written_bytes i (unwrap_or (bytes_given i g) [])))
given_by true i g e some = (e, written_spelled i (unwrap_or (number_given i g) (pos 0)) e (some e))
given_by false i g e some = raw_suits i (unwrap_or (bytes_given i g) []) e (given_bytes i g)

pub given_suits : (i : ItemData) (g : Given) → (is_number i.kind ≡ true → 1 ≤ unsigned_abs i.size) → Suits i (content_given i g)
given_suits i g some = given_by (is_number i.kind) i g refl some

is_text : (b : Bool) → not b ≡ true → b ≡ false
is_text true h = sym h
is_text false h = refl

preset_suits : (i : ItemData) (p : Preset) → is_sound_preset i p ≡ true → IsPreset p → Suits i (content_preset i p)
preset_suits i (Whole z) sound all = and_parts (is_number i.kind) (is_spelled i.kind (unsigned_abs i.size) z) sound
preset_suits i (Raw bytes) sound all = raw_suits i bytes (is_text (is_number i.kind) (and_parts (not (is_number i.kind)) (has_room i.size (length bytes)) sound).0) all

content_suits_by : (o : Option Given) (i : ItemData) → IsItem i → (is_number i.kind ≡ true → 1 ≤ unsigned_abs i.size) → Suits i (content_of i o)
content_suits_by None i it some = preset_suits i i.preset it.sound.preset it.preset
content_suits_by (Some g) i it some = given_suits i g some

pub content_suits : (params : List (List ℕ × Given)) (i : ItemData) → IsItem i → (is_number i.kind ≡ true → 1 ≤ unsigned_abs i.size) → Suits i (content params i)
content_suits params i it some = content_suits_by (given_for params i) i it some

-- ---- room

-- A text or block that does not go to the end lies within a length.
abbrev pub HasRoom : ℕ → ItemData → Preset → Type 0
HasRoom len i (Whole z) = Unit {0}
HasRoom len i (Raw bytes) = is_to_the_end i ≡ false → unsigned_abs i.offset / 8 + length bytes ≤ len

pub has_its_room : (len : ℕ) (i : ItemData) (held : Preset) → is_negative i.offset ≡ false → lies_within len i ≡ true → Suits i held → HasRoom len i held
has_its_room len i (Whole z) start within s = tt
has_its_room len i (Raw bytes) start within s = λ own.
    let needed = within_of len i within in
    let same : bytes_needed (span_of (from_base i)) ≡ bytes_needed (span_of i) = ap (λ (j : ItemData). bytes_needed (span_of j)) (same_start i start) in
    let room = text_after i 0 len s.0 own (omega (arith, needed, same)) in
    let there : unsigned_abs (from_base i).offset ≡ unsigned_abs i.offset = ap (λ (j : ItemData). unsigned_abs j.offset) (same_start i start) in
    let count = s.2 own in
    omega (arith, room, there, count)

-- ---- parameters

not_below : (a b : Bool) → not a && not b ≡ true → a ≡ false
not_below true b h = absurd (let no : false ≡ true = h in cc)
not_below false b h = refl

pub from_the_start : (i : ItemData) → is_from_start i ≡ true → is_negative i.offset ≡ false
from_the_start i h = not_below (is_negative i.offset) (is_negative i.size) h
