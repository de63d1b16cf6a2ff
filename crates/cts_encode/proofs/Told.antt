-- The spelling as a function is the spelling as a relation.
use Rattle.std.proofs.Common.{◌≡◌, ℕ, zero, suc, ◌^◌, ◌≤◌, ◌<◌, Bool, true, false, ◌||◌, cond, List, [], ◌∷◌, ◌++◌, length, refl, sym, ◌∙◌, ap, subst, arith, Option, Some, None}
use Rattle.std.specs.Prelude.{◌↔◌, nat_le, nat_lt, replicate, IsTrue, Result, Ok, Err}
use Rattle.std.proofs.lemmas.Bool.Decides.{nat_tests}
use Rattle.cts_def.specs.Protocols.{BurstData, FixedData, LengthData, TerminatedData, PreidentifiedData, SpecData, Burst, Fixed, Length, Terminated, Preidentified, is_sound_spec}
use Rattle.cts_def.specs.Starts.{PlaceData}
use Rattle.cts_framing.specs.Framing.{Heading}
use Rattle.byteorder.specs.Endian.{big_bytes}
use Rattle.cts_framing.specs.Heads.{AreBytes, HeadData, head_bytes}
use Rattle.cts_framing.specs.Layouts.{has_flags, flag_bytes}
use Rattle.cts_def.specs.Most.{frame_limit}
use Rattle.cts_framing.specs.Rows.{is_over, reach}
use Rattle.cts_framing.proofs.LengthSteady.{or_tells}
use Rattle.cts_encode.specs.Spelled.{HasByteNames, IsOfBytes, SpellingsAreBytes, SpellingsAreTold, Spells, counted, frame_of, spelling_of, unless_refused, with_count, with_field}
use Rattle.cts_encode.specs.Spellings.{Encodes, HasCount, HasField, IsSpelling, count_of, counts, discard_of, ended, fills, has_no_count, head_for, head_in, holds_termination, is_large, is_missing, no_place, over_first, padded, refusal, sync_of, synced, termination_of, too_large}
use Rattle.cts_encode.specs.declared.encode_fault.EncodeFault.{EncodeFault}
use Rattle.cts_encode.specs.declared.encode_fault.EncodeFault.TheVariants.{HoldsTermination, NoPlace, LengthTooLarge, Memory}
use Rattle.cts_encode.proofs.Again.{true_and}
use Rattle.cts_encode.proofs.AgainCut.{no_refusal}
use Rattle.cts_encode.proofs.AgainPlace.{length_place_itself}
use Rattle.cts_encode.proofs.FieldWritten.{bytes_append, bytes_big, bytes_drop, field_written}
use Rattle.cts_encode.proofs.OneSpelling.{field_fits, one_spelling}
use Rattle.cts_encode.proofs.PutCounts.{over_length}

-- ---- a refusal, and none

told_none : (r : Option EncodeFault) (f : List ℕ) → (unless_refused r f ≡ None) ↔ ((fault : EncodeFault) × (r ≡ Some fault))
told_none None f = (λ e. cc, λ p. let e = p.1 in cc)
told_none (Some x) f = (λ e. (x, refl), λ p. refl)

told_some : (r : Option EncodeFault) (f frame : List ℕ) → unless_refused r f ≡ Some frame → (r ≡ None) × (f ≡ frame)
told_some None f frame e = (refl, (cc))
told_some (Some x) f frame e = cc

-- ---- the bytes of a frame

bytes_zeros : (n : ℕ) → AreBytes (replicate n 0)
bytes_zeros zero i = omega arith
bytes_zeros (suc n) zero = omega arith
bytes_zeros (suc n) (suc i) = bytes_zeros n i

bytes_either : (f : Bool) (a b : List ℕ) → AreBytes a → AreBytes b → AreBytes (cond f a b)
bytes_either true a b ha hb = ha
bytes_either false a b ha hb = hb

bytes_padded : (s : SpecData) (b : List ℕ) → AreBytes b → AreBytes (padded s b)
bytes_padded s b h = bytes_either (fills s) (replicate (discard_of s) 0 ++ b) b (bytes_append _ b (bytes_zeros (discard_of s)) h) h

pub bytes_synced : (s : SpecData) (b : List ℕ) → AreBytes (sync_of s) → AreBytes (termination_of s) → AreBytes b → AreBytes (synced s b)
bytes_synced s b hs ht h =
    let e : AreBytes (ended s b) = bytes_append (padded s b) (termination_of s) (bytes_padded s b h) ht in
    bytes_either (fills s) (over_first (sync_of s) (ended s b)) (ended s b) (bytes_append (sync_of s) _ hs (bytes_drop (length (sync_of s)) (ended s b) e)) e

-- ---- the count

not_missing : (o : Option ℕ) → is_missing o ≡ false → (k : ℕ) × (o ≡ Some k)
not_missing None h = cc
not_missing (Some k) h = (k, refl)

below : (m n : ℕ) → nat_le m n ≡ false → n < m
below m n h = grind (arith, nat_tests)

-- where a count is written there is one, and it has a spelling in its field
count_there : (l : LengthData) (h : Heading) (bytes : List ℕ) → refusal (Length l) h bytes ≡ None → l.fill ≡ true
    → (k : ℕ) × (count_of l (length (synced (Length l) bytes)) ≡ Some k) × (k < 2 ^ l.place.bits)
count_there l h bytes none fill =
    let e : List ℕ = ended (Length l) bytes in
    let r = no_refusal (holds_termination (Length l) bytes) (no_place (Length l) bytes) (too_large (Length l) h bytes) HoldsTermination NoPlace LengthTooLarge none in
    let room = or_tells (nat_lt (length e) (length l.sync)) (has_no_count l (length e)) (true_and l.fill (nat_lt (length e) (length l.sync) || has_no_count l (length e)) fill r.1) in
    let field = or_tells (nat_lt (length e) (reach l.place)) (is_missing (count_of l (length e))) room.1 in
    let count = not_missing (count_of l (length e)) field.1 in
    let wide = or_tells _ (nat_lt frame_limit (length e)) r.2 in
    let large : is_large l (count_of l (length e)) ≡ false = true_and l.fill (is_large l (count_of l (length e))) fill wide.0 in
    let fits : is_large l (Some count.0) ≡ false = subst (λ (o : Option ℕ). is_large l o ≡ false) count.1 large in
    let small = or_tells (nat_le (2 ^ l.place.bits) count.0) (is_over l.max count.0) fits in
    let is : synced (Length l) bytes ≡ over_first l.sync e = ap (λ (f : Bool). cond f (over_first l.sync e) e) fill in
    let same : length (synced (Length l) bytes) ≡ length e = ap length is ∙ over_length l.sync e room.0 in
    (count.0, ap (count_of l) same ∙ count.1, below (2 ^ l.place.bits) count.0 small.0)

has_field : (l : LengthData) (k : ℕ) (old : List ℕ) → IsTrue (is_sound_spec (Length l)) → k < 2 ^ l.place.bits → reach l.place ≤ length old → AreBytes old
    → HasField l.place k old (with_field l.place k old)
has_field l k old sound small fits bytes =
    let q = length_place_itself l sound in
    subst (λ (p : PlaceData). HasField p k old (with_field p k old)) q.1
    (field_written q.0 k old (subst (λ (p : PlaceData). reach p ≤ length old) (sym q.1) fits) (subst (λ (p : PlaceData). k < 2 ^ p.bits) (sym q.1) small) bytes)

counted_counts : (l : LengthData) (fill : Bool) (old : List ℕ)
    → (fill ≡ true → HasCount l (count_of l (length old)) old (with_count l (count_of l (length old)) old)) → counts l fill old (counted l fill (length old) old)
counted_counts l true old h = h refl
counted_counts l false old h = refl

-- ---- the frame is the spelling, and no other is

pub is_spelled : (s : SpecData) (h : Heading) (bytes : List ℕ) → IsTrue (is_sound_spec s) → AreBytes (sync_of s) → AreBytes bytes → refusal s h bytes ≡ None
    → IsSpelling s h bytes (frame_of s h bytes)
is_spelled (Burst b) h bytes sound hs hb none = refl
is_spelled (Fixed f) h bytes sound hs hb none = refl
is_spelled (Length l) h bytes sound hs hb none =
    let old : List ℕ = synced (Length l) bytes in
    counted_counts l l.fill old (λ fill.
    let count = count_there l h bytes none fill in
    subst (λ (o : Option ℕ). HasCount l o old (with_count l o old)) (sym count.1)
    (has_field l count.0 old sound count.2 (field_fits l h bytes none fill) (bytes_synced (Length l) bytes hs (λ i. omega arith) hb)))
is_spelled (Terminated t) h bytes sound hs hb none = refl
is_spelled (Preidentified p) h bytes sound hs hb none = refl

only_frame : (s : SpecData) (h : Heading) (bytes frame : List ℕ) → IsTrue (is_sound_spec s) → AreBytes (sync_of s) → AreBytes bytes → refusal s h bytes ≡ None
    → IsSpelling s h bytes frame → frame_of s h bytes ≡ frame
only_frame s h bytes frame sound hs hb none is = one_spelling s h bytes (frame_of s h bytes) frame sound none (is_spelled s h bytes sound hs hb none) is

pub told : SpellingsAreTold
told s h bytes sound hs hb = record {
  none = told_none (refusal s h bytes) (frame_of s h bytes);
  some = λ frame. (
    (
        λ e.
        let t = told_some (refusal s h bytes) (frame_of s h bytes) frame e in
        (t.0, subst (IsSpelling s h bytes) t.1 (is_spelled s h bytes sound hs hb t.0))
        ),
    (λ p. ap (λ (r : Option EncodeFault). unless_refused r (frame_of s h bytes)) p.0 ∙ ap Some (only_frame s h bytes frame sound hs hb p.0 p.1)),
  );
}

-- ---- what encoding puts

module _ (s : SpecData) (h : Heading) (bytes old new : List ℕ) (only : (frame : List ℕ) → refusal s h bytes ≡ None → IsSpelling s h bytes frame → frame_of s h bytes ≡ frame) where
  pub spells : (r : Result (Unit {0}) EncodeFault) → Encodes s h bytes old new r → Spells (spelling_of s h bytes) old new r
  spells (Ok u) e = (e.1.0, ap (λ (r : Option EncodeFault). unless_refused r (frame_of s h bytes)) e.0 ∙ ap Some (only e.1.0 e.0 e.1.2), e.1.1)
  spells (Err Memory) e = e
  spells (Err HoldsTermination) e = (ap (λ (r : Option EncodeFault). unless_refused r (frame_of s h bytes)) e.0, e.1)
  spells (Err NoPlace) e = (ap (λ (r : Option EncodeFault). unless_refused r (frame_of s h bytes)) e.0, e.1)
  spells (Err LengthTooLarge) e = (ap (λ (r : Option EncodeFault). unless_refused r (frame_of s h bytes)) e.0, e.1)

pub encoded_spells : (s : SpecData) (h : Heading) (bytes old new : List ℕ) (r : Result (Unit {0}) EncodeFault) → IsTrue (is_sound_spec s) → AreBytes (sync_of s) → AreBytes bytes
    → Encodes s h bytes old new r → Spells (spelling_of s h bytes) old new r
encoded_spells s h bytes old new r sound hs hb e = spells s h bytes old new (λ frame none is. only_frame s h bytes frame sound hs hb none is) r e

-- where no count is written the frame is told by itself
pub burst_spells : (b : BurstData) (h : Heading) (bytes old new : List ℕ) (r : Result (Unit {0}) EncodeFault) → Encodes (Burst b) h bytes old new r → Spells (spelling_of (Burst b) h bytes) old new r
burst_spells b h bytes old new r e = spells (Burst b) h bytes old new (λ frame none is. sym is) r e

pub fixed_spells : (f : FixedData) (h : Heading) (bytes old new : List ℕ) (r : Result (Unit {0}) EncodeFault) → Encodes (Fixed f) h bytes old new r → Spells (spelling_of (Fixed f) h bytes) old new r
fixed_spells f h bytes old new r e = spells (Fixed f) h bytes old new (λ frame none is. sym is) r e

pub terminated_spells : (t : TerminatedData) (h : Heading) (bytes old new : List ℕ) (r : Result (Unit {0}) EncodeFault) → Encodes (Terminated t) h bytes old new r → Spells (spelling_of (Terminated t) h bytes) old new r
terminated_spells t h bytes old new r e = spells (Terminated t) h bytes old new (λ frame none is. sym is) r e

pub preidentified_spells : (p : PreidentifiedData) (h : Heading) (bytes old new : List ℕ) (r : Result (Unit {0}) EncodeFault) → Encodes (Preidentified p) h bytes old new r
    → Spells (spelling_of (Preidentified p) h bytes) old new r
preidentified_spells p h bytes old new r e = spells (Preidentified p) h bytes old new (λ frame none is. sym is) r e

-- ---- a frame is bytes

bytes_cons : (x : ℕ) (a : List ℕ) → x < 256 → AreBytes a → AreBytes (x ∷ a)
bytes_cons x a hx ha zero = hx
bytes_cons x a hx ha (suc i) = ha i

bytes_head : (d : HeadData) → AreBytes d.target → AreBytes d.packet → length d.target < 256 → length d.packet < 256 → AreBytes (head_bytes d)
bytes_head d ht hp lt lp =
    let count : List ℕ = big_bytes 4 d.count in
    let packet : List ℕ = length d.packet ∷ (d.packet ++ count) in
    let target : List ℕ = length d.target ∷ (d.target ++ packet) in
    let packet_is : AreBytes packet = bytes_cons (length d.packet) (d.packet ++ count) lp (bytes_append d.packet count hp (bytes_big 4 d.count)) in
    let target_is : AreBytes target = bytes_cons (length d.target) (d.target ++ packet) lt (bytes_append d.target packet ht packet_is) in
    bytes_append (big_bytes 4 d.time.seconds) (big_bytes 4 d.time.micros ++ target) (bytes_big 4 d.time.seconds)
    (bytes_append (big_bytes 4 d.time.micros) target (bytes_big 4 d.time.micros) target_is)

bytes_flags : (flagged stored : Bool) → AreBytes (flag_bytes flagged stored)
bytes_flags true true = bytes_cons 128 [] (omega arith) (λ i. omega arith)
bytes_flags true false = bytes_cons 0 [] (omega arith) (λ i. omega arith)
bytes_flags false stored = λ i. omega arith

bytes_counted : (l : LengthData) (fill : Bool) (old : List ℕ) → AreBytes old → (fill ≡ true → AreBytes (with_count l (count_of l (length old)) old)) → AreBytes (counted l fill (length old) old)
bytes_counted l true old h k = k refl
bytes_counted l false old h k = h

bytes_count : (l : LengthData) (o : Option ℕ) (old new : List ℕ) → HasCount l o old new → AreBytes new
bytes_count l None old new c = absurd c
bytes_count l (Some n) old new c = c.bytes

frame_bytes : (s : SpecData) (h : Heading) (bytes : List ℕ) → IsTrue (is_sound_spec s) → IsOfBytes s → HasByteNames h → AreBytes bytes → refusal s h bytes ≡ None → AreBytes (frame_of s h bytes)
frame_bytes (Burst b) h bytes sound ho hn hb none = bytes_synced (Burst b) bytes ho.sync ho.termination hb
frame_bytes (Fixed f) h bytes sound ho hn hb none = bytes_synced (Fixed f) bytes ho.sync ho.termination hb
frame_bytes (Length l) h bytes sound ho hn hb none =
    let old : List ℕ = synced (Length l) bytes in
    let was : AreBytes old = bytes_synced (Length l) bytes ho.sync ho.termination hb in
    bytes_counted l l.fill old was (λ fill.
    let count = count_there l h bytes none fill in
    bytes_count l (count_of l (length old)) old (with_count l (count_of l (length old)) old)
    (subst (λ (o : Option ℕ). HasCount l o old (with_count l o old)) (sym count.1) (has_field l count.0 old sound count.2 (field_fits l h bytes none fill) was)))
frame_bytes (Terminated t) h bytes sound ho hn hb none = bytes_synced (Terminated t) bytes ho.sync ho.termination hb
frame_bytes (Preidentified p) h bytes sound ho hn hb none =
    let head = bytes_head (head_for h (length bytes)) hn.target hn.packet hn.short_target hn.short_packet in
    let flags = bytes_flags (has_flags p.layout) h.stored in
    bytes_append p.sync (head_in (has_flags p.layout) h (length bytes) ++ bytes) ho.sync
    (bytes_append (head_in (has_flags p.layout) h (length bytes)) bytes (bytes_append (flag_bytes (has_flags p.layout) h.stored) (head_bytes (head_for h (length bytes))) flags head) hb)

pub spelled_bytes : SpellingsAreBytes
spelled_bytes s h bytes frame sound ho hn hb e =
    let t = told_some (refusal s h bytes) (frame_of s h bytes) frame e in
    subst AreBytes t.1 (frame_bytes s h bytes sound ho hn hb t.0)
