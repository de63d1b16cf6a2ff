-- What is written over some bytes leaves no choice for them.
use Rattle.std.proofs.Common.{◌≡◌, ℕ, ℤ, pos, ◌<◌, Bool, true, false, List, [], ◌∷◌, Option, Some, sym, ap, ◌∙◌, subst}
use Rattle.std.specs.Prelude.{slice_get, unwrap_or, replicate, unsigned_abs, if◌then◌else◌, ◌^◌}
use Rattle.cts_bits.specs.declared.place.Place.{Place}
use Rattle.cts_bits.specs.Bits.{twos_complement}
use Rattle.cts_bits.specs.Fields.{IsFieldBit, KeepsOtherBits, bit_place_at, field, field_at}
use Rattle.cts_bits.proofs.Outcomes.{one_outcome}
use Rattle.cts_bits.proofs.Runs.{field_at-lt}
use Rattle.cts_bits.proofs.Signs.{twos_complement-same}
use Rattle.cts_def.specs.declared.item_kind.Preset.{Preset}
use Rattle.cts_def.specs.declared.item_kind.Preset.TheVariants.{Whole, Raw}
use Rattle.cts_def.specs.Beginnings.{number_at}
use Rattle.cts_def.specs.Items.{ItemData}
use Rattle.cts_def.specs.Packets.{DefinitionsData, PacketData}
use Rattle.cts_def.specs.Spans.{is_signed}
use Rattle.cts_def.specs.Starts.{PlaceData, place_data}
use Rattle.cts_cmd.specs.declared.built.Built.{Built}
use Rattle.cts_cmd.specs.declared.request.Request.{Request}
use Rattle.cts_cmd.specs.Builds.{IsBuilt, Writes, WritesAll, WritesNumber, place_of}
use Rattle.cts_cmd.specs.Contents.{content}

field_bit_so : (p q : Place) → place_data p ≡ place_data q → (k : ℕ) → IsFieldBit q k → IsFieldBit p k
field_bit_so p q e k b =
    let bits : q.bits ≡ p.bits = ap (λ (d : PlaceData). d.bits) (sym e) in
    (b.0, subst (λ n. b.0 < n) bits b.1, b.2 ∙ ap (λ (d : PlaceData). bit_place_at d.order d.offset d.bits b.0) (sym e))

keeps_so : (p q : Place) (old new : List ℕ) → place_data p ≡ place_data q → KeepsOtherBits q old new → KeepsOtherBits p old new
keeps_so p q old new e s = record { len = s.len; others = λ k none. s.others k (λ b. none (field_bit_so p q e k b)) }

abbrev pub number_of : Bool → ℕ → ℕ → ℤ
number_of signed bits x = if signed then twos_complement bits x else pos x

same_number_so : (signed : Bool) (bits x y : ℕ) → x < 2 ^ bits → y < 2 ^ bits → number_of signed bits x ≡ number_of signed bits y → x ≡ y
same_number_so true bits x y hx hy e = twos_complement-same bits x y hx hy e
same_number_so false bits x y hx hy e = ap unsigned_abs e

same_field : (d : PlaceData) (signed : Bool) (one other : List ℕ) → number_at d signed one ≡ number_at d signed other → field_at d.order d.offset d.bits one ≡ field_at d.order d.offset d.bits other
same_field d signed one other e =
    same_number_so signed d.bits (field_at d.order d.offset d.bits one) (field_at d.order d.offset d.bits other) (field_at-lt d.order d.offset d.bits one) (field_at-lt d.order d.offset d.bits other) e

number_one : (i : ItemData) (z : ℤ) (old one other : List ℕ) → WritesNumber i z old one → WritesNumber i z old other → one ≡ other
number_one i z old one other a b =
    let places : place_data a.place ≡ place_data b.place = a.there ∙ sym b.there in
    let numbers : number_at (place_of i) (is_signed i.kind) one ≡ number_at (place_of i) (is_signed i.kind) other = a.value ∙ sym b.value in
    let fields = same_field (place_of i) (is_signed i.kind) one other numbers in
    let there : (bytes : List ℕ) → field a.place bytes ≡ field_at (place_of i).order (place_of i).offset (place_of i).bits bytes = λ bytes. ap (λ (d : PlaceData). field_at d.order d.offset d.bits bytes) a.there in
    one_outcome a.place old one other a.within a.others (keeps_so a.place b.place old other places b.others) (there one ∙ fields ∙ sym (there other)) a.bytes b.bytes

pub written_one : (i : ItemData) (held : Preset) (old one other : List ℕ) → Writes i held old one → Writes i held old other → one ≡ other
written_one i (Whole z) old one other a b = number_one i z old one other a b
written_one i (Raw bytes) old one other a b = a.0 ∙ sym b.0

all_one : (holds : ItemData → Preset) (items : List ItemData) (old one other : List ℕ) → WritesAll holds items old one → WritesAll holds items old other → one ≡ other
all_one holds [] old one other a b = a ∙ sym b
all_one holds (i ∷ items) old one other a b =
    let next = written_one i (holds i) old a.0 b.0 a.1 b.1 in
    all_one holds items b.0 one other (subst (λ x. WritesAll holds items x one) next a.2) b.2

some_so : {X : Type 0} (x y : X) → Some x ≡ Some y → x ≡ y
some_so x y e = ap (λ (o : Option _). unwrap_or o x) e

pub one_command : (d : DefinitionsData) (r : Request) (one other : Built) → IsBuilt d r one → IsBuilt d r other → one ≡ other
one_command d r one other a b =
    let number : one.command ≡ other.command = some_so one.command other.command (sym a.command.first ∙ b.command.first) in
    let it : a.command.it ≡ b.command.it = some_so a.command.it b.command.it (sym a.command.number ∙ ap (slice_get d.commands) number ∙ b.command.number) in
    let bytes : one.bytes ≡ other.bytes = all_one (content r.params) b.command.it.items (replicate b.command.it.length 0) one.bytes other.bytes
    (subst (λ (p : PacketData). WritesAll (content r.params) p.items (replicate p.length 0) one.bytes) it a.bytes) b.bytes in
    ap (λ (n : ℕ). let x : Built = record { command = n; bytes = one.bytes } in x) number ∙ ap (λ (bs : List ℕ). let x : Built = record { command = other.command; bytes = bs } in x) bytes
