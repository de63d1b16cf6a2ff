-- What is written is read again.
use Rattle.std.proofs.Common.{◌≡◌, ℕ, zero, suc, ◌^◌, ◌+◌, ◌-◌, ◌≤◌, inl, inr, Bool, true, false, ◌&&◌, cond, List, [], ◌∷◌, ◌++◌, length, take, drop, refl, sym, ◌∙◌, ap, subst, arith, Option, Some, None, length-append, append_assoc}
use Rattle.std.specs.Prelude.{pos, nat_le, nat_lt, replicate, IsTrue}
use Rattle.std.proofs.lemmas.List.{drop_at, take_at, take-append-drop, append-nil, length-drop, length-replicate, drop-replicate, drop-append-le}
use Rattle.std.proofs.lemmas.Bool.{cases_Bool}
use Rattle.cts_def.specs.Protocols.{LengthData, TerminatedData, PreidentifiedData, SpecData, Burst, Fixed, Length, Terminated, Preidentified, is_sound_spec}
use Rattle.cts_framing.specs.Framing.{Heading, plain}
use Rattle.cts_framing.specs.Cuts.{IsCut}
use Rattle.cts_framing.specs.Patterns.{begins, first_place}
use Rattle.cts_encode.specs.ReadBack.{SpellingsAreRead, ReadsBack, FitsHeading, single, output_for}
use Rattle.cts_def.specs.Most.{frame_limit}
use Rattle.cts_framing.specs.Rows.{is_over, framing_of, length_by}
use Rattle.cts_encode.specs.Spellings.{refusal, counts, holds, holds_termination, no_place, too_large, padded, ended, synced, over_first, count_of, is_large, HasCount, HasField, IsSpelling, headed}
use Rattle.cts_encode.specs.declared.encode_fault.EncodeFault.TheVariants.{HoldsTermination, NoPlace, LengthTooLarge}
use Rattle.cts_framing.proofs.Sound.{is_sound}
use Rattle.cts_framing.specs.Heads.{AreBytes}
use Rattle.cts_framing.proofs.Reaches.{length_reaches}
use Rattle.cts_framing.proofs.RowsExact.{read_some}
use Rattle.cts_encode.proofs.AgainPlace.{length_place}
use Rattle.cts_encode.proofs.AgainCut.{cut_of, no_refusal}
use Rattle.cts_encode.proofs.AgainPreidentified.{preidentified_whole, preidentified_output}
use Rattle.cts_encode.proofs.AgainTerminated.{first_drop, first_at_end, terminated_whole, terminated_bytes}
use Rattle.cts_encode.proofs.AgainBytes.{same_front_bytes, same_back_bytes}
use Rattle.cts_encode.proofs.AgainLength.{count_by_tells, length_whole}
use Rattle.cts_framing.proofs.Fronts.{begins_front}
use Rattle.cts_framing.proofs.LengthSteady.{or_tells}

-- ---- PREIDENTIFIED

again_preidentified : (p : PreidentifiedData) (h : Heading) (b w : List ℕ) → FitsHeading h → refusal (Preidentified p) h b ≡ None → w ≡ headed p h b
    → IsCut (framing_of (Preidentified p)) w (single (output_for (Preidentified p) h b))
again_preidentified p h b w fits none is =
    let s : SpecData = Preidentified p in
    let t = no_refusal (holds_termination s b) (no_place s b) (too_large s h b) HoldsTermination NoPlace LengthTooLarge none in
    subst (λ (v : List ℕ). IsCut (framing_of s) v (single (output_for s h b))) (sym is)
    (cut_of (framing_of s) (is_sound s) (headed p h b) (output_for s h b) (preidentified_whole p h b fits t.2) (preidentified_output p h b fits t.2))

-- ---- TERMINATED

-- a pattern over the first bytes, where these are zero bytes and then others
abbrev fronted : List ℕ → ℕ → List ℕ
fronted s d = s ++ drop (length s) (replicate d 0)

over_zeros : (s : List ℕ) (d : ℕ) (b : List ℕ) → length s ≤ d → over_first s (replicate d 0 ++ b) ≡ fronted s d ++ b
over_zeros s d b h =
    ap (λ v. s ++ v) (drop-append-le (length s) (replicate d 0) b (omega (arith, h, length-replicate {A = ℕ} d 0)))
    ∙ sym (append_assoc s (drop (length s) (replicate d 0)) b)

fronted_length : (s : List ℕ) (d : ℕ) → length s ≤ d → length (fronted s d) ≡ d
fronted_length s d h = omega (arith, h, length-append s (drop (length s) (replicate d 0)), length-drop {A = ℕ} (length s) (replicate d 0), length-replicate {A = ℕ} d 0)

-- a frame of discarded bytes, the bytes and their termination
record Parted (t : TerminatedData) (b w : List ℕ) : Type 0 where
  pub front : List ℕ
  pub frame_is : w ≡ front ++ (b ++ t.read)
  pub front_is : length front ≡ t.discard
  pub begin : begins t.sync w ≡ true
  pub room : length t.sync ≤ t.discard
  pub end : first_place t.read (drop (length t.sync) w) ≡ Some (t.discard + length b - length t.sync)
  pub short : nat_lt frame_limit (length w) ≡ false

filled : (t : TerminatedData) (b w : List ℕ) → t.fill ≡ true → length t.sync ≤ t.discard → 1 ≤ length t.read → t.write ≡ t.read
    → holds_termination (Terminated t) b ≡ false → nat_lt frame_limit (length (ended (Terminated t) b)) ≡ false → w ≡ synced (Terminated t) b → Parted t b w
filled t b w fill room some same none short is =
    let z : List ℕ = replicate t.discard 0 in
    let a : List ℕ = z ++ b in
    let a_is : padded (Terminated t) b ≡ a = ap (λ f. cond f (replicate t.discard 0 ++ b) b) fill in
    let e_is : ended (Terminated t) b ≡ a ++ t.read = ap (λ v. v ++ t.write) a_is ∙ ap (λ v. a ++ v) same in
    let held : holds t.read a ≡ false = subst (λ v. holds v a ≡ false) same (subst (λ v. holds t.write v ≡ false) a_is none) in
    let end0 : first_place t.read (a ++ t.read) ≡ Some (length a) = first_at_end t.read a some held in
    let over : w ≡ over_first t.sync (a ++ t.read) = is ∙ (ap (λ f. cond f (over_first t.sync (ended (Terminated t) b)) (ended (Terminated t) b)) fill ∙ ap (over_first t.sync) e_is) in
    let zl : length z ≡ t.discard = length-replicate {A = ℕ} t.discard 0 in
    let al : length a ≡ t.discard + length b = omega (arith, zl, length-append z b) in
    let el : length (ended (Terminated t) b) ≡ length w =
    omega (arith, ap length e_is, ap length over, length-append t.sync (drop (length t.sync) (a ++ t.read)), length-drop (length t.sync) (a ++ t.read), length-append a t.read, al, room) in
    record {
      front = fronted t.sync t.discard;
      frame_is = over ∙ (ap (over_first t.sync) (append_assoc z b t.read) ∙ over_zeros t.sync t.discard (b ++ t.read) room);
      front_is = fronted_length t.sync t.discard room;
      begin = ap (begins t.sync) over ∙ begins_front t.sync (drop (length t.sync) (a ++ t.read));
      room = room;
      end = ap (λ v. first_place t.read (drop (length t.sync) v)) over
          ∙ (ap (first_place t.read) (drop_at t.sync (drop (length t.sync) (a ++ t.read)) (length t.sync) refl)
          ∙ first_drop t.read (a ++ t.read) (length t.sync) (t.discard + length b - length t.sync) (length a) end0 (omega (arith, al, room)));
      short = subst (λ n. nat_lt frame_limit n ≡ false) el short;
    }

bare : (t : TerminatedData) (b w : List ℕ) → t.fill ≡ false → t.sync ≡ [] → t.discard ≡ 0 → 1 ≤ length t.read → t.write ≡ t.read
    → holds_termination (Terminated t) b ≡ false → nat_lt frame_limit (length (ended (Terminated t) b)) ≡ false → w ≡ synced (Terminated t) b → Parted t b w
bare t b w fill nothing zero_is some same none short is =
    let a_is : padded (Terminated t) b ≡ b = ap (λ f. cond f (replicate t.discard 0 ++ b) b) fill in
    let e_is : ended (Terminated t) b ≡ b ++ t.read = ap (λ v. v ++ t.write) a_is ∙ ap (λ v. b ++ v) same in
    let held : holds t.read b ≡ false = subst (λ v. holds v b ≡ false) same (subst (λ v. holds t.write v ≡ false) a_is none) in
    let end0 : first_place t.read (b ++ t.read) ≡ Some (length b) = first_at_end t.read b some held in
    let w_is : w ≡ b ++ t.read = is ∙ (ap (λ f. cond f (over_first t.sync (ended (Terminated t) b)) (ended (Terminated t) b)) fill ∙ e_is) in
    let none_long : length t.sync ≡ 0 = ap length nothing in
    record {
      front = [];
      frame_is = w_is;
      front_is = sym zero_is;
      begin = ap (λ s. begins s w) nothing;
      room = omega (arith, none_long);
      end = ap (λ v. first_place t.read (drop (length t.sync) v)) w_is ∙ first_drop t.read (b ++ t.read) (length t.sync) (t.discard + length b - length t.sync) (length b) end0 (omega (arith, none_long, zero_is));
      short = subst (λ n. nat_lt frame_limit n ≡ false) (ap length e_is ∙ sym (ap length w_is)) short;
    }

parted : (t : TerminatedData) (b w : List ℕ) → ReadsBack (Terminated t) → 1 ≤ length t.read
    → holds_termination (Terminated t) b ≡ false → nat_lt frame_limit (length (ended (Terminated t) b)) ≡ false → w ≡ synced (Terminated t) b → Parted t b w
parted t b w back some none short is = elim back.2 [
  | inl f ↦ filled t b w f.0 f.1 some back.0 none short is
  | inr n ↦ elim (cases_Bool t.fill) [
    | inl is_filled ↦ filled t b w is_filled (omega (arith, ap length n.0)) some back.0 none short is
    | inr is_bare ↦ bare t b w is_bare n.0 n.1 some back.0 none short is
  ]
]

again_terminated : (t : TerminatedData) (h : Heading) (b w : List ℕ) → IsTrue (is_sound_spec (Terminated t)) → ReadsBack (Terminated t)
    → refusal (Terminated t) h b ≡ None → w ≡ synced (Terminated t) b → IsCut (framing_of (Terminated t)) w (single (plain b))
again_terminated t h b w rules back none is =
    let r = no_refusal (holds_termination (Terminated t) b) (no_place (Terminated t) b) (too_large (Terminated t) h b) HoldsTermination NoPlace LengthTooLarge none in
    let p = parted t b w back (read_some t rules) r.0 r.2 is in
    let some = read_some t rules in
    cut_of (framing_of (Terminated t)) (is_sound (Terminated t)) w (plain b)
    (terminated_whole t p.front b w some back.1 p.frame_is p.front_is p.begin p.room p.end p.short)
    (ap plain (terminated_bytes t p.front b w some back.1 p.frame_is p.front_is p.begin p.room p.end p.short))

-- ---- LENGTH

pub are_append : (xs ys : List ℕ) → AreBytes xs → AreBytes ys → AreBytes (xs ++ ys)
are_append [] ys h k i = k i
are_append (x ∷ xs) ys h k zero = h 0
are_append (x ∷ xs) ys h k (suc i) = are_append xs ys (λ j. h (suc j)) k i

are_zeros : (n : ℕ) → AreBytes (replicate n 0)
are_zeros zero i = omega arith
are_zeros (suc n) zero = omega arith
are_zeros (suc n) (suc i) = are_zeros n i

are_fronted : (s : List ℕ) (d : ℕ) (b : List ℕ) → AreBytes s → AreBytes b → AreBytes (fronted s d ++ b)
are_fronted s d b sb bb =
    are_append (fronted s d) b (are_append s (drop (length s) (replicate d 0)) sb (subst AreBytes (sym (drop-replicate {X = ℕ} (length s) d 0)) (are_zeros (d - length s)))) bb

pub true_and : (f b : Bool) → f ≡ true → (f && b) ≡ false → b ≡ false
true_and f b e h = rw e at h

-- the field of a frame whose first bytes are the sync pattern and zero bytes
record Laid (l : LengthData) (b base w : List ℕ) (count : ℕ) : Type 0 where
  pub base_is : base ≡ fronted l.sync l.discard ++ b
  pub field : HasField l.place count base w
  pub states : length_by l count ≡ pos (length base)
  pub over : is_over l.max count ≡ false
  pub short : nat_lt frame_limit (length base) ≡ false

counted : (l : LengthData) (b base w : List ℕ) → base ≡ fronted l.sync l.discard ++ b → (o : Option ℕ) → count_of l (length base) ≡ o → HasCount l o base w → is_large l o ≡ false → nat_lt frame_limit (length base) ≡ false
    → (count : ℕ) × Laid l b base w count
counted l b base w base_is None e f large short = absurd f
counted l b base w base_is (Some count) e f large short =
    (count, record { base_is = base_is; field = f; states = count_by_tells l.value_offset l.per_count (length base) count e; over = (or_tells (nat_le (2 ^ l.place.bits) count) (is_over l.max count) large).1; short = short })

laid : (l : LengthData) (h : Heading) (b w : List ℕ) → l.fill ≡ true → length l.sync ≤ l.discard → refusal (Length l) h b ≡ None → IsSpelling (Length l) h b w → (count : ℕ) × Laid l b (synced (Length l) b) w count
laid l h b w fill room none is =
    let z : List ℕ = replicate l.discard 0 in
    let base : List ℕ = synced (Length l) b in
    let all : List ℕ = ended (Length l) b in
    let r = no_refusal (holds_termination (Length l) b) (no_place (Length l) b) (too_large (Length l) h b) HoldsTermination NoPlace LengthTooLarge none in
    let t = or_tells (l.fill && is_large l (count_of l (length all))) (nat_lt frame_limit (length all)) r.2 in
    let large : is_large l (count_of l (length all)) ≡ false = true_and l.fill (is_large l (count_of l (length all))) fill t.0 in
    let all_is : all ≡ z ++ b = ap (λ v. v ++ []) (ap (λ f. cond f (replicate l.discard 0 ++ b) b) fill) ∙ append-nil (z ++ b) in
    let base_is : base ≡ fronted l.sync l.discard ++ b =
    ap (λ f. cond f (over_first l.sync all) all) fill ∙ (ap (over_first l.sync) all_is ∙ over_zeros l.sync l.discard b room) in
    let same : length all ≡ length base =
    omega (arith, ap length all_is, ap length base_is, length-append z b, length-append (fronted l.sync l.discard) b, fronted_length l.sync l.discard room, length-replicate {A = ℕ} l.discard 0) in
    counted l b base w base_is (count_of l (length base)) refl (subst (λ f. counts l f base w) fill is)
    (subst (λ n. is_large l (count_of l n) ≡ false) same large) (subst (λ n. nat_lt frame_limit n ≡ false) same t.1)

again_length : (l : LengthData) (h : Heading) (b w : List ℕ) → IsTrue (is_sound_spec (Length l)) → ReadsBack (Length l) → AreBytes l.sync → AreBytes b → AreBytes w
    → refusal (Length l) h b ≡ None → IsSpelling (Length l) h b w → IsCut (framing_of (Length l)) w (single (plain b))
again_length l h b w rules back sb bb wb none is =
    let place = length_place l rules in
    let reaches = back.2 in
    let low = back.1 in
    let room : length l.sync ≤ l.discard = omega (arith, low, reaches) in
    let base : List ℕ = synced (Length l) b in
    let q = laid l h b w back.0 room none is in
    let k = q.1 in
    let front : List ℕ = fronted l.sync l.discard in
    let fl : length front ≡ l.discard = fronted_length l.sync l.discard room in
    let bl : length base ≡ l.discard + length b = omega (arith, ap length k.base_is, length-append front b, fl) in
    let wl : length w ≡ length base = k.field.len in
    let ob : AreBytes base = subst AreBytes (sym k.base_is) (are_fronted l.sync l.discard b sb bb) in
    let first : take (length l.sync) w ≡ l.sync =
    same_front_bytes l.place q.0 base w place k.field ob wb (length l.sync) low (omega (arith, bl, room))
    ∙ (ap (take (length l.sync)) (k.base_is ∙ append_assoc l.sync (drop (length l.sync) (replicate l.discard 0)) b) ∙ take_at l.sync (drop (length l.sync) (replicate l.discard 0) ++ b) (length l.sync) refl) in
    let begin : begins l.sync w ≡ true =
    ap (begins l.sync) (sym (take-append-drop (length l.sync) w) ∙ ap (λ v. v ++ drop (length l.sync) w) first) ∙ begins_front l.sync (drop (length l.sync) w) in
    let last : drop l.discard w ≡ b =
    same_back_bytes l.place q.0 base w place k.field ob wb l.discard reaches ∙ (ap (drop l.discard) k.base_is ∙ drop_at front b l.discard fl) in
    cut_of (framing_of (Length l)) (is_sound (Length l)) w (plain b)
    (length_whole l q.0 base w k.field (k.states ∙ ap pos (sym wl)) k.over (subst (λ n. nat_lt frame_limit n ≡ false) (sym wl) k.short) (omega (arith, wl, bl, reaches)) (omega (arith, wl, bl, room)) (omega (arith, wl, bl, reaches, length_reaches l rules)) begin)
    (ap plain last)

pub spellings_are_read : SpellingsAreRead
spellings_are_read (Burst b) h bytes w sound back fits sb bb fb none is = absurd back
spellings_are_read (Fixed f) h bytes w sound back fits sb bb fb none is = absurd back
spellings_are_read (Length l) h bytes w sound back fits sb bb fb none is = again_length l h bytes w sound back sb bb fb none is
spellings_are_read (Terminated t) h bytes w sound back fits sb bb fb none is = again_terminated t h bytes w sound back none is
spellings_are_read (Preidentified p) h bytes w sound back fits sb bb fb none is = again_preidentified p h bytes w fits none is
