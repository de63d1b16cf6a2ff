-- What is built of a request is the command of the definition, and what an injection leaves are the bytes of its members.
use Rattle.std.proofs.Common.{◌≡◌, ℕ, zero, suc, Some, None, ℤ, pos, negsuc, ◌-◌, ◌^◌, ◌<◌, ◌-ℤ◌, Bool, true, false, List, [], ◌∷◌, ◌++◌, Option, length, take, drop, refl, sym, ◌∙◌, ap, subst, arith, inl, inr, ◌⊎◌}
use Rattle.std.specs.Prelude.{replicate, slice_get, unwrap_or}
use Rattle.std.proofs.lemmas.Bool.{cases_lt, le-ltb, lt-ltb}
use Rattle.std.proofs.lemmas.Int.{ints}
use Rattle.cts_bits.specs.declared.place.Place.{Place}
use Rattle.cts_bits.specs.Fields.{field, field_at}
use Rattle.cts_bits.proofs.Outcomes.{one_outcome}
use Rattle.cts_bits.proofs.Runs.{field_at-lt}
use Rattle.cts_cmd.specs.Builds.{AreBytes, Writes, WritesAll, WritesNumber, place_of}
use Rattle.cts_cmd.specs.Contents.{content, content_given}
use Rattle.cts_cmd.specs.Injects.{base, from_base, stood}
use Rattle.cts_cmd.specs.declared.built.Built.{Built}
use Rattle.cts_cmd.specs.declared.request.Given.{Given}
use Rattle.cts_cmd.proofs.OneCommand.{number_of}
use Rattle.cts_def.specs.Items.{ItemData}
use Rattle.cts_def.specs.Packets.{PacketData}
use Rattle.cts_def.specs.Spans.{is_signed}
use Rattle.cts_def.specs.Starts.{PlaceData, place_data}
use Rattle.cts_def.specs.declared.item_kind.Preset.{Preset}
use Rattle.cts_def.specs.declared.item_kind.Preset.TheVariants.{Whole, Raw}
use Rattle.cts_encode.specs.Spelled.{with_field}
use Rattle.cts_encode.specs.Spellings.{HasField}
use Rattle.cts_encode.proofs.FieldWritten.{bytes_append, bytes_drop, bytes_take, field_written}
use Rattle.cts_api.specs.Made.{CommandsAreBuilt, InjectionsAreWritten, bits_for, built_at, bytes_in, command_bytes, injected, with_content, with_contents, with_member}

-- ---- the bits of a number

bits_are : (bits x : ℕ) (z : ℤ) → x < 2 ^ bits → (pos x ≡ z) ⊎ (pos x -ℤ pos (2 ^ bits) ≡ z) → bits_for bits z ≡ x
bits_are bits x (pos n) lt (inl e) = omega (arith, ints)
bits_are bits x (pos n) lt (inr e) = absurd (omega (arith, ints))
bits_are bits x (negsuc n) lt (inl e) = absurd (omega (arith, ints))
bits_are bits x (negsuc n) lt (inr e) = omega (arith, ints)

spelled_by : (signed : Bool) (bits x : ℕ) → (pos x ≡ number_of signed bits x) ⊎ (pos x -ℤ pos (2 ^ bits) ≡ number_of signed bits x)
spelled_by false bits x = inl refl
spelled_by true bits x = elim (cases_lt x (2 ^ (bits - 1))) [
  | inl low ↦ inl (rw (lt-ltb x (2 ^ (bits - 1)) low) refl)
  | inr high ↦ inr (rw (le-ltb x (2 ^ (bits - 1)) high) refl)
]

-- ---- what is written

module _ (i : ItemData) (z : ℤ) (old new : List ℕ) (bytes : AreBytes old) (w : WritesNumber i z old new) where
  abbrev q : Place
  q = w.place

  abbrev x : ℕ
  x = field q new

  bits_is : bits_for (place_of i).bits z ≡ x
  bits_is =
      let d : PlaceData = place_of i in
      let y : ℕ = field_at d.order d.offset d.bits new in
      let z_is : number_of (is_signed i.kind) d.bits y ≡ z = w.value in
      let spelled = subst (λ (t : ℤ). (pos y ≡ t) ⊎ (pos y -ℤ pos (2 ^ d.bits) ≡ t)) z_is (spelled_by (is_signed i.kind) d.bits y) in
      bits_are d.bits y z (field_at-lt d.order d.offset d.bits new) spelled ∙ ap (λ (p : PlaceData). field_at p.order p.offset p.bits new) (sym w.there)

  made : HasField (place_data q) x old (with_field (place_data q) x old)
  made = field_written q x old w.within (field_at-lt q.order q.offset q.bits new) bytes

  number_written : with_field (place_of i) (bits_for (place_of i).bits z) old ≡ new
  number_written =
      ap (λ (n : ℕ). with_field (place_of i) n old) bits_is
      ∙ (ap (λ (p : PlaceData). with_field p x old) (sym w.there)
      ∙ one_outcome q old (with_field (place_data q) x old) new w.within (record { len = made.len; others = λ k none. made.others k (λ j lt e. none (j, lt, e)) }) w.others made.value made.bytes w.bytes)

content_written : (i : ItemData) (held : Preset) (old new : List ℕ) → AreBytes old → Writes i held old new → with_content i held old ≡ new
content_written i (Whole z) old new bytes w = number_written i z old new bytes w
content_written i (Raw raw) old new bytes w = sym w.0

bytes_left : (i : ItemData) (held : Preset) (old new : List ℕ) → Writes i held old new → AreBytes new
bytes_left i (Whole z) old new w = w.bytes
bytes_left i (Raw raw) old new w = w.1

all_written : (holds : ItemData → Preset) (items : List ItemData) (old new : List ℕ) → AreBytes old → WritesAll holds items old new → with_contents holds items old ≡ new
all_written holds [] old new bytes w = sym w
all_written holds (i ∷ items) old new bytes w =
    ap (with_contents holds items) (content_written i (holds i) old w.0 bytes w.1) ∙ all_written holds items w.0 new (bytes_left i (holds i) old w.0 w.1) w.2

zeros : (n : ℕ) → AreBytes (replicate n 0)
zeros zero k = omega arith
zeros (suc n) zero = omega arith
zeros (suc n) (suc k) = zeros n k

-- ---- commands

bytes_are : (params : List (List ℕ × Given)) (p : PacketData) (bytes : List ℕ) → WritesAll (content params) p.items (replicate p.length 0) bytes → command_bytes params p ≡ bytes
unfolding command_bytes
bytes_are params p bytes w = all_written (content params) p.items (replicate p.length 0) bytes (zeros p.length) w

pub commands_are_built : CommandsAreBuilt
commands_are_built d r b h =
    let bytes : bytes_in r (slice_get d.commands b.command) ≡ b.bytes = ap (bytes_in r) h.command.number ∙ bytes_are r.params h.command.it b.bytes h.bytes in
    ap (λ (o : Option ℕ). built_at d r (unwrap_or o 0)) h.command.first ∙ ap (λ (l : List ℕ). let x : Built = record { command = b.command; bytes = l } in x) bytes

-- ---- injections

-- what an injection is written over are bytes
pub stood_bytes : (o : Option (List ℕ)) (count : ℕ) → ((bytes : List ℕ) → o ≡ Some bytes → AreBytes bytes) → AreBytes (stood o count)
stood_bytes None count bytes = zeros count
stood_bytes (Some here) count bytes = bytes_append here (replicate (count - length here) 0) (bytes here refl) (zeros (count - length here))

pub injections_are_written : InjectionsAreWritten
unfolding injected
injections_are_written [] old new bytes w = sym w
injections_are_written (m ∷ ms) old new bytes w =
    let at = base (length old) m.0 in
    let part = w.1.0 in
    let wrote = content_written (from_base m.0) (content_given m.0 m.1) (drop at old) part (bytes_drop at old bytes) w.1.1 in
    let next : with_member m old ≡ w.0 = ap (λ (p : List ℕ). take at old ++ p) wrote ∙ sym w.1.2 in
    let left : AreBytes w.0 = subst AreBytes (sym w.1.2) (bytes_append (take at old) part (bytes_take at old bytes) (bytes_left (from_base m.0) (content_given m.0 m.1) (drop at old) part w.1.1)) in
    ap (injected ms) next ∙ injections_are_written ms w.0 new left w.2
