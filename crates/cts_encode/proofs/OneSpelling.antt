-- A spelling is the only one.
use Rattle.std.proofs.Common.{◌≡◌, ℕ, ◌≤◌, Bool, true, false, ◌||◌, cond, List, length, refl, sym, ◌∙◌, ap, subst, arith, Option, Some, None}
use Rattle.std.specs.Prelude.{nat_lt, IsTrue}
use Rattle.cts_bits.specs.declared.place.Place.{Place}
use Rattle.cts_bits.specs.Fields.{KeepsOtherBits}
use Rattle.cts_bits.proofs.Outcomes.{one_outcome}
use Rattle.cts_def.specs.Protocols.{LengthData, Burst, Fixed, Length, Terminated, Preidentified, is_sound_spec}
use Rattle.cts_def.specs.Starts.{PlaceData, place_data}
use Rattle.cts_framing.specs.Framing.{Heading}
use Rattle.cts_framing.specs.Rows.{reach}
use Rattle.cts_framing.proofs.Fronts.{not_lt_tells}
use Rattle.cts_framing.proofs.LengthSteady.{or_tells}
use Rattle.cts_encode.specs.ReadBack.{OneSpelling}
use Rattle.cts_encode.specs.Spellings.{refusal, counts, holds_termination, no_place, too_large, ended, synced, over_first, count_of, is_missing, has_no_count, HasCount, HasField}
use Rattle.cts_encode.specs.declared.encode_fault.EncodeFault.TheVariants.{HoldsTermination, NoPlace, LengthTooLarge}
use Rattle.cts_encode.proofs.Again.{true_and}
use Rattle.cts_encode.proofs.AgainCut.{no_refusal}
use Rattle.cts_encode.proofs.AgainPlace.{length_place_itself}
use Rattle.cts_encode.proofs.PutCounts.{over_length}

keeps : (q : Place) (n : ℕ) (old new : List ℕ) → HasField (place_data q) n old new → KeepsOtherBits q old new
keeps q n old new f = record { len = f.len; others = λ k none. f.others k (λ j lt e. none (j, lt, e)) }

same_field : (q : Place) (n : ℕ) (old one other : List ℕ) → reach (place_data q) ≤ length old → HasField (place_data q) n old one → HasField (place_data q) n old other → one ≡ other
same_field q n old one other fits f g = one_outcome q old one other fits (keeps q n old one f) (keeps q n old other g) (f.value ∙ sym g.value) f.bytes g.bytes

one_count : (l : LengthData) (o : Option ℕ) (old one other : List ℕ) → IsTrue (is_sound_spec (Length l)) → reach l.place ≤ length old → HasCount l o old one → HasCount l o old other → one ≡ other
one_count l None old one other sound fits f g = absurd f
one_count l (Some n) old one other sound fits f g =
    let q = length_place_itself l sound in
    same_field q.0 n old one other (subst (λ (p : PlaceData). reach p ≤ length old) (sym q.1) fits)
    (subst (λ (p : PlaceData). HasField p n old one) (sym q.1) f) (subst (λ (p : PlaceData). HasField p n old other) (sym q.1) g)

one_counts : (l : LengthData) (fill : Bool) (old one other : List ℕ) → IsTrue (is_sound_spec (Length l)) → (fill ≡ true → reach l.place ≤ length old) → counts l fill old one → counts l fill old other → one ≡ other
one_counts l true old one other sound fits f g = one_count l (count_of l (length old)) old one other sound (fits refl) f g
one_counts l false old one other sound fits f g = f ∙ sym g

-- where a count is written its field lies within the frame
pub field_fits : (l : LengthData) (h : Heading) (bytes : List ℕ) → refusal (Length l) h bytes ≡ None → l.fill ≡ true → reach l.place ≤ length (synced (Length l) bytes)
field_fits l h bytes none fill =
    let e : List ℕ = ended (Length l) bytes in
    let r = no_refusal (holds_termination (Length l) bytes) (no_place (Length l) bytes) (too_large (Length l) h bytes) HoldsTermination NoPlace LengthTooLarge none in
    let room = or_tells (nat_lt (length e) (length l.sync)) (has_no_count l (length e)) (true_and l.fill (nat_lt (length e) (length l.sync) || has_no_count l (length e)) fill r.1) in
    let field = or_tells (nat_lt (length e) (reach l.place)) (is_missing (count_of l (length e))) room.1 in
    let same : length (over_first l.sync e) ≡ length e = over_length l.sync e room.0 in
    let is : synced (Length l) bytes ≡ over_first l.sync e = ap (λ (f : Bool). cond f (over_first l.sync e) e) fill in
    omega (arith, ap length is, same, not_lt_tells (length e) (reach l.place) field.0)

pub one_spelling : OneSpelling
one_spelling (Burst d) h bytes one other sound none f g = f ∙ sym g
one_spelling (Fixed d) h bytes one other sound none f g = f ∙ sym g
one_spelling (Length l) h bytes one other sound none f g = one_counts l l.fill (synced (Length l) bytes) one other sound (field_fits l h bytes none) f g
one_spelling (Terminated t) h bytes one other sound none f g = f ∙ sym g
one_spelling (Preidentified p) h bytes one other sound none f g = f ∙ sym g
