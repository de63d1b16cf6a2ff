-- The errors of framings stand exactly where the descriptions have them.
use Rattle.std.proofs.Common.{◌≡◌, ℕ, ◌+◌, ◌-◌, ◌≤◌, ◌<◌, ◌⊎◌, inl, inr, Bool, true, false, ◌&&◌, ◌||◌, cond, List, [], ◌∷◌, ◌++◌, length, take, drop, refl, sym, ◌∙◌, ap, subst, arith, Option, Some, None, length-append, append_assoc}
use Rattle.std.specs.Prelude.{ℤ, pos, negsuc, nat_le, nat_lt, int_lt, ◌<ℤ◌, unsigned_abs, option_map, ◌↔◌, not, ◌==◌}
use Rattle.std.specs.Prelude.{T}
use Rattle.std.specs.Int.Signed.{lt_z_yes}
use native.Mathlib.Decide.{dec_le}
use Rattle.std.proofs.Math.Seq.{take-append-add}
use Rattle.std.proofs.lemmas.Int.{ints}
use Rattle.std.proofs.lemmas.List.{take-append-drop, length-take-le, drop_at, drop-append-le, length-drop}
use Rattle.std.proofs.lemmas.Bool.Decides.{nat_tests}
use Rattle.cts_def.specs.Protocols.{BurstData, FixedData, LengthData, TerminatedData, PreidentifiedData, Burst, Fixed, Length, Terminated, Preidentified}
use Rattle.cts_def.specs.Starts.{StartData}
use Rattle.cts_def.specs.declared.bad_cause.BadCause.{BadCause}
use Rattle.cts_def.specs.declared.bad_cause.BadCause.TheVariants.{Short, OverMax, TooLong, UnknownStart, Flags}
use Rattle.cts_framing.specs.Errors.{IsOver, IsBurstError, IsShort, FieldCause, IsLengthError, IsTerminatedError, StartCause, IsFixedError, CountCause, IsFlagsError, IsCountError, IsPreidentifiedError}
use Rattle.cts_framing.specs.Heads.{AreBytes, HeadData}
use Rattle.cts_framing.specs.Layouts.{has_flags, are_flags, has_wrong_flags, flags_at, stored_at, has_laid, laid_of, laid_end, laid_head}
use Rattle.cts_framing.specs.Patterns.{begins, first_place}
use Rattle.cts_framing.specs.RowLaws.{ErrorsAreExact}
use Rattle.cts_def.specs.Most.{frame_limit}
use Rattle.cts_framing.specs.Rows.{long_within, is_over, reach, field, length_by, is_short, field_states, length_states, end_of_frame, end_states, terminated_states, first_start, decided_at, start_states, fixed_states, burst_error, count_states, head_states, preidentified_states}
use Rattle.cts_framing.specs.Stating.{Stated, Open, Long, Wrong}
use Rattle.cts_framing.proofs.Fronts.{and_tells, le_tells, le_test, lt_tells, lt_test, not_lt_tells, not_lt_test, begins_tells}
use Rattle.cts_framing.proofs.HeadWhole.{are_drop}
use Rattle.cts_framing.proofs.Laid.{laid_length, laid_end_again, laid_again, has_laid_again, flags_again, laid_fits, laid_whole}
use Rattle.cts_framing.proofs.Leftmost.{begins_test, first_tells, first_none}
use Rattle.cts_framing.proofs.TerminatedSteady.{end_tells}
use Rattle.cts_framing.proofs.RowsExact.{over_tells, over_test, begins_split, read_some}
use Rattle.cts_framing.proofs.Reaches.{length_reaches}
use Rattle.cts_framing.proofs.Starts.{FixedRules, fixed_rules, start_decided}
use Rattle.cts_framing.proofs.Steady.{error_tells, WrongTells, fault_tells, fault_test}

is_over_tells : (o : Option ℕ) (n : ℕ) → is_over o n ≡ true → IsOver o n
is_over_tells None n h = cc
is_over_tells (Some max) n h = lt_tells max n h

is_over_test : (o : Option ℕ) (n : ℕ) → IsOver o n → is_over o n ≡ true
is_over_test None n h = absurd h
is_over_test (Some max) n h = lt_test max n h

same_cause : (c d : BadCause) → Wrong c ≡ Wrong d → c ≡ d
same_cause c d h = cc

guard_wrong : (b : Bool) (s : Stated) (c : BadCause) → cond b Open s ≡ Wrong c → (b ≡ false) × (s ≡ Wrong c)
guard_wrong true s c h = cc
guard_wrong false s c h = (refl, h)

-- a frame that is too long
long_wrong : (b : Bool) (n : ℕ) (c : BadCause) → cond b (Long n) (Wrong TooLong) ≡ Wrong c → (b ≡ false) × (c ≡ TooLong)
long_wrong true n c h = cc
long_wrong false n c h = (refl, sym (same_cause TooLong c h))

not_within : (m n : ℕ) → nat_le m n ≡ false → n < m
not_within m n h = grind (arith, nat_tests)

not_within_test : (m n : ℕ) → n < m → nat_le m n ≡ false
not_within_test m n h = grind (arith, nat_tests)

too_long_tells : (n : ℕ) (c : BadCause) → long_within n ≡ Wrong c → (c ≡ TooLong) × (frame_limit < n)
too_long_tells n c h = let t = long_wrong (nat_le n frame_limit) n c h in (t.1, not_within n frame_limit t.0)

too_long_test : (n : ℕ) (c : BadCause) → c ≡ TooLong → frame_limit < n → long_within n ≡ Wrong c
too_long_test n c e h = rw (not_within_test n frame_limit h) (ap Wrong (sym e))

-- ---- BURST

pub burst_exact : (b : BurstData) (u : List ℕ) (c : BadCause) → (burst_error b u ≡ Some c) ↔ IsBurstError b u c
burst_exact b u c = (
  λ h.
      let t = error_tells (begins b.sync u && nat_lt frame_limit (length u)) (Some TooLong) c h in
      let a = and_tells (begins b.sync u) (nat_lt frame_limit (length u)) t.0 in
      record { begin = begins_tells b.sync u a.0; long = lt_tells frame_limit (length u) a.1; cause = let e = t.1 in cc },
  λ k. rw (begins_test b.sync u k.begin, lt_test frame_limit (length u) k.long) (ap Some (sym k.cause)),
)

-- ---- LENGTH

below : (x y : ℤ) → int_lt x y ≡ true → x <ℤ y
below x y h = lt_z_yes (subst T (sym h) tt)

is_true : (b : Bool) → T b → b ≡ true
is_true true h = refl
is_true false h = absurd h

below_test : (x y : ℤ) → x <ℤ y → int_lt x y ≡ true
below_test x y h = is_true (int_lt x y) h.lt

or_cases : (a b : Bool) → (a || b) ≡ true → (a ≡ true) ⊎ (b ≡ true)
or_cases true b h = inl refl
or_cases false b h = inr h

or_test : (a b : Bool) → (a ≡ true) ⊎ (b ≡ true) → (a || b) ≡ true
or_test true b h = refl
or_test false b (inl h) = cc
or_test false b (inr h) = h

short_tells : (l : LengthData) (z : ℤ) → is_short l z ≡ true → IsShort l z
short_tells l z h = elim (or_cases (int_lt z (pos (reach l.place))) (int_lt z (pos (length l.sync))) h) [
  | inl a ↦ inl (below z (pos (reach l.place)) a)
  | inr a ↦ inr (below z (pos (length l.sync)) a)
]

short_test : (l : LengthData) (z : ℤ) → IsShort l z → is_short l z ≡ true
short_test l z (inl a) = or_test (int_lt z (pos (reach l.place))) (int_lt z (pos (length l.sync))) (inl (below_test z (pos (reach l.place)) a))
short_test l z (inr a) = or_test (int_lt z (pos (reach l.place))) (int_lt z (pos (length l.sync))) (inr (below_test z (pos (length l.sync)) a))

not_short_tells : (l : LengthData) (z : ℤ) → is_short l z ≡ false → IsShort l z → ⊥
not_short_tells l z h s = let yes = short_test l z s in let never : true ≡ false = sym yes ∙ h in absurd (cc)

not_short_by : (l : LengthData) (z : ℤ) (b : Bool) → is_short l z ≡ b → (IsShort l z → ⊥) → b ≡ false
not_short_by l z true e h = absurd (h (short_tells l z e))
not_short_by l z false e h = refl

-- a length that is not short is a number of bytes
bytes_of : (r : ℕ) (z : ℤ) → int_lt z (pos r) ≡ false → z ≡ pos (unsigned_abs z)
bytes_of r (pos n) h = refl
bytes_of r (negsuc n) h = cc

or_false : (a b : Bool) → (a || b) ≡ false → a ≡ false
or_false true b h = cc
or_false false b h = refl

not_short_bytes : (l : LengthData) (z : ℤ) → is_short l z ≡ false → z ≡ pos (unsigned_abs z)
not_short_bytes l z h = bytes_of (reach l.place) z (or_false (int_lt z (pos (reach l.place))) (int_lt z (pos (length l.sync))) h)

field_to : (l : LengthData) (n : ℕ) (c : BadCause) (b1 b2 : Bool) → is_over l.max n ≡ b1 → is_short l (length_by l n) ≡ b2
    → cond b1 (Wrong (OverMax n)) (cond b2 (Wrong (Short (length_by l n))) (long_within (unsigned_abs (length_by l n)))) ≡ Wrong c → FieldCause l n c
field_to l n c true b2 e1 e2 h = subst (FieldCause l n) (same_cause (OverMax n) c h) (refl, is_over_tells l.max n e1)
field_to l n c false true e1 e2 h = subst (FieldCause l n) (same_cause (Short (length_by l n)) c h) (refl, over_tells l.max n e1, short_tells l (length_by l n) e2)
field_to l n c false false e1 e2 h =
    let z : ℤ = length_by l n in
    let t = too_long_tells (unsigned_abs z) c h in
    let is = not_short_bytes l z e2 in
    let long : pos frame_limit <ℤ z = subst (λ v. pos frame_limit <ℤ v) (sym is) (omega (arith, ints, t.1)) in
    subst (FieldCause l n) (sym t.0) (over_tells l.max n e1, not_short_tells l z e2, long)

field_back : (l : LengthData) (n : ℕ) (c : BadCause) → FieldCause l n c → field_states l n ≡ Wrong c
field_back l n (OverMax k) h = rw (is_over_test l.max n h.1) (ap (λ m. Wrong (OverMax m)) (sym h.0))
field_back l n (Short z) h = rw (over_test l.max n h.1, short_test l (length_by l n) (subst (IsShort l) h.0 h.2)) (ap (λ v. Wrong (Short v)) (sym h.0))
field_back l n TooLong h =
    let z : ℤ = length_by l n in
    let short = not_short_by l z (is_short l z) refl h.1 in
    let is = not_short_bytes l z short in
    let long : pos frame_limit <ℤ pos (unsigned_abs z) = subst (λ v. pos frame_limit <ℤ v) is h.2 in
    rw (over_test l.max n h.0, short) (too_long_test (unsigned_abs z) TooLong refl (omega (arith, ints, long)))
field_back l n UnknownStart h = absurd h
field_back l n (Flags k) h = absurd h

length_to : (l : LengthData) (u : List ℕ) (c : BadCause) → WrongTells l.sync (length_states l) u c → IsLengthError l u c
length_to l u c t =
    let n : ℕ = field l.place u in
    let g = guard_wrong (nat_lt (length u) (reach l.place)) (field_states l n) c t.states_are in
    record { begin = begins_tells l.sync u t.begin; reaches = not_lt_tells (length u) (reach l.place) g.0; cause = field_to l n c (is_over l.max n) (is_short l (length_by l n)) refl refl g.1 }

length_back : (l : LengthData) → 1 ≤ reach l.place → (u : List ℕ) (c : BadCause) → IsLengthError l u c → WrongTells l.sync (length_states l) u c
length_back l some u c k = record {
  some = omega (arith, some, k.reaches);
  begin = begins_test l.sync u k.begin;
  states_are = rw (not_lt_test (length u) (reach l.place) k.reaches) (field_back l (field l.place u) c k.cause);
}

-- ---- TERMINATED

end_wrong : (o : Option ℕ) (b : Bool) (c : BadCause) → end_states o b ≡ Wrong c → (o ≡ None) × (b ≡ true) × (c ≡ TooLong)
end_wrong (Some n) b c h = cc
end_wrong None true c h = (refl, refl, sym (same_cause TooLong c h))
end_wrong None false c h = cc

-- a front that has room in the first bytes
pub front_taken : (m : ℕ) (front rest : List ℕ) → length front ≤ m → take m (front ++ rest) ≡ front ++ take (m - length front) rest
front_taken m front rest h =
    let e : length front + (m - length front) ≡ m = omega (arith, h) in
    ap (λ k. take k (front ++ rest)) (sym e) ∙ take-append-add front rest (m - length front)

module _ (t : TerminatedData) (u : List ℕ) where
  -- a termination that ends within a frame's bytes is found in them
  found_within : (body rest : List ℕ) → u ≡ t.sync ++ (body ++ (t.read ++ rest)) → length t.sync + length body + length t.read ≤ frame_limit → first_place t.read (drop (length t.sync) (take frame_limit u)) ≡ None → ⊥
  found_within body rest e few none =
      let front : List ℕ = t.sync ++ (body ++ t.read) in
      let len : length front ≡ length t.sync + length body + length t.read = omega (arith, length-append t.sync (body ++ t.read), length-append body t.read) in
      let is : u ≡ front ++ rest = e ∙ (ap (λ v. t.sync ++ v) (sym (append_assoc body t.read rest)) ∙ sym (append_assoc t.sync (body ++ t.read) rest)) in
      let left : List ℕ = take (frame_limit - length front) rest in
      let taken : take frame_limit u ≡ t.sync ++ ((body ++ t.read) ++ left) = ap (take frame_limit) is ∙ (front_taken frame_limit front rest (omega (arith, len, few)) ∙ append_assoc t.sync (body ++ t.read) left) in
      let later : drop (length t.sync) (take frame_limit u) ≡ body ++ (t.read ++ left) =
      ap (drop (length t.sync)) taken ∙ (drop_at t.sync ((body ++ t.read) ++ left) (length t.sync) refl ∙ append_assoc body t.read left) in
      first_none t.read (drop (length t.sync) (take frame_limit u)) none body (left, later)

  no_end : (o : Option ℕ) → end_of_frame t (take frame_limit u) ≡ o → o ≡ None → first_place t.read (drop (length t.sync) (take frame_limit u)) ≡ None
  no_end o e h = none_of (first_place t.read (drop (length t.sync) (take frame_limit u))) (e ∙ h)
    where
      none_of : (p : Option ℕ) → option_map (λ k. length t.sync + k + length t.read) p ≡ None → p ≡ None
      none_of None k = refl
      none_of (Some n) k = cc

  terminated_to : (c : BadCause) → WrongTells t.sync (terminated_states t) u c → IsTerminatedError t u c
  terminated_to c w =
      let e = end_wrong (end_of_frame t (take frame_limit u)) (nat_le frame_limit (length u)) c w.states_are in
      let none = no_end (end_of_frame t (take frame_limit u)) refl e.0 in
      record {
        begin = begins_tells t.sync u w.begin;
        full = le_tells frame_limit (length u) e.1;
        none = λ body rest is. elim (dec_le (length t.sync + length body + length t.read) frame_limit) [
          | yes y ↦ absurd (found_within body rest is y none)
          | no n ↦ omega (arith, n)
        ];
        cause = e.2;
      }

  none_within : 1 ≤ length t.read → (c : BadCause) → IsTerminatedError t u c → (o : Option ℕ) → end_of_frame t (take frame_limit u) ≡ o → o ≡ None
  none_within some c k None e = refl
  none_within some c k (Some n) e =
      let d = end_tells (length t.sync) t.read (take frame_limit u) n e in
      let len : length (take frame_limit u) ≡ frame_limit = length-take-le frame_limit u k.full in
      let f = first_tells t.read (drop (length t.sync) (take frame_limit u)) d.place d.first in
      let o = f.leftmost.occurs in
      let room = length-drop (length t.sync) (take frame_limit u) in
      let front : drop (length t.sync) (take frame_limit u ++ drop frame_limit u) ≡ drop (length t.sync) (take frame_limit u) ++ drop frame_limit u = drop-append-le (length t.sync) (take frame_limit u) (drop frame_limit u) (omega (arith, d.fits, some, room)) in
      let all : drop (length t.sync) u ≡ f.before ++ (t.read ++ (o.0 ++ drop frame_limit u)) =
      ap (drop (length t.sync)) (sym (take-append-drop frame_limit u)) ∙ (front ∙ (ap (λ v. v ++ drop frame_limit u) o.1
      ∙ (append_assoc f.before (t.read ++ o.0) (drop frame_limit u) ∙ ap (λ v. f.before ++ v) (append_assoc t.read o.0 (drop frame_limit u))))) in
      let far = k.none f.before (o.0 ++ drop frame_limit u) (begins_split t.sync u (begins_test t.sync u k.begin) ∙ ap (λ v. t.sync ++ v) all) in
      absurd (omega (arith, far, f.length_is, d.fits, len, room, some))

  terminated_back : 1 ≤ length t.read → (c : BadCause) → IsTerminatedError t u c → WrongTells t.sync (terminated_states t) u c
  terminated_back some c k = record {
    some = omega (arith, k.full);
    begin = begins_test t.sync u k.begin;
    states_are = rw (none_within some c k (end_of_frame t (take frame_limit u)) refl, le_test frame_limit (length u) k.full) (ap Wrong (sym k.cause));
  }

-- ---- FIXED

start_to : (f : FixedData) (o : Option StartData) (c : BadCause) → start_states f o ≡ Wrong c → StartCause f o c
start_to f (Some s) c h = too_long_tells (f.discard + s.length) c h
start_to f None c h = none_to f.raise refl h
  where
    none_to : (b : Bool) → f.raise ≡ b → cond b (Wrong UnknownStart) (long_within (decided_at f)) ≡ Wrong c → StartCause f None c
    none_to true e k = inl (sym (same_cause UnknownStart c k), e)
    none_to false e k = let t = too_long_tells (decided_at f) c k in inr (t.0, e, t.1)

start_back : (f : FixedData) (o : Option StartData) (c : BadCause) → StartCause f o c → start_states f o ≡ Wrong c
start_back f (Some s) c h = too_long_test (f.discard + s.length) c h.0 h.1
start_back f None c (inl h) = rw h.1 (ap Wrong (sym h.0))
start_back f None c (inr h) = rw h.1 (too_long_test (decided_at f) c h.0 h.2)

fixed_to : (f : FixedData) → FixedRules f → (u : List ℕ) (c : BadCause) → WrongTells f.sync (fixed_states f) u c → IsFixedError f u c
fixed_to f r u c t =
    let o : Option StartData = first_start f (take (decided_at f) u) in
    let g = guard_wrong (nat_lt (length u) (decided_at f)) (start_states f o) c t.states_are in
    let enough = not_lt_tells (length u) (decided_at f) g.0 in
    record { begin = begins_tells f.sync u t.begin; decided = enough; cause = subst (λ p. StartCause f p c) (start_decided f r u enough) (start_to f o c g.1) }

fixed_back : (f : FixedData) → FixedRules f → (u : List ℕ) (c : BadCause) → IsFixedError f u c → WrongTells f.sync (fixed_states f) u c
fixed_back f r u c k = record {
  some = omega (arith, k.decided, r.some);
  begin = begins_test f.sync u k.begin;
  states_are = rw (not_lt_test (length u) (decided_at f) k.decided, start_decided f r u k.decided) (start_back f (first_start f u) c k.cause);
}

-- ---- PREIDENTIFIED

count_to : (p : PreidentifiedData) (end count : ℕ) (c : BadCause) (b : Bool) → is_over p.max count ≡ b → cond b (Wrong (OverMax count)) (long_within (length p.sync + end + count)) ≡ Wrong c → CountCause p count (length p.sync + end + count) c
count_to p end count c true e h = subst (CountCause p count (length p.sync + end + count)) (same_cause (OverMax count) c h) (refl, is_over_tells p.max count e)
count_to p end count c false e h =
    let t = too_long_tells (length p.sync + end + count) c h in
    subst (CountCause p count (length p.sync + end + count)) (sym t.0) (over_tells p.max count e, t.1)

count_back : (p : PreidentifiedData) (end count : ℕ) (c : BadCause) → CountCause p count (length p.sync + end + count) c → count_states p end count ≡ Wrong c
count_back p end count (OverMax k) h = rw (is_over_test p.max count h.1) (ap (λ m. Wrong (OverMax m)) (sym h.0))
count_back p end count TooLong h = rw (over_test p.max count h.0) (too_long_test (length p.sync + end + count) TooLong refl h.1)
count_back p end count (Short z) h = absurd h
count_back p end count UnknownStart h = absurd h
count_back p end count (Flags k) h = absurd h

head_wrong : (b : Bool) (s : Stated) (c : BadCause) → cond b s Open ≡ Wrong c → (b ≡ true) × (s ≡ Wrong c)
head_wrong true s c h = (refl, h)
head_wrong false s c h = cc

-- flags that are wrong, or a head with a wrong count
wrong_by : (w t : Bool) (f : ℕ) (s : Stated) (c : BadCause) → cond w (Wrong (Flags f)) (cond t s Open) ≡ Wrong c
    → ((w ≡ true) × (c ≡ Flags f)) ⊎ ((w ≡ false) × (t ≡ true) × (s ≡ Wrong c))
wrong_by true t f s c h = inl (refl, sym (same_cause (Flags f) c h))
wrong_by false t f s c h = let g = head_wrong t s c h in inr (refl, g.0, g.1)

not_flags : (f : ℕ) → not (are_flags f) ≡ true → (f ≡ 0 → ⊥) × (f ≡ 128 → ⊥)
not_flags f h = (
  λ e. let never : false ≡ true = sym (ap (λ n. not (are_flags n)) e) ∙ h in cc never,
  λ e. let never : false ≡ true = sym (ap (λ n. not (are_flags n)) e) ∙ h in cc never,
)

wrong_test : (f : ℕ) → (f ≡ 0 → ⊥) → (f ≡ 128 → ⊥) → not (are_flags f) ≡ true
wrong_test f h k = grind (arith, nat_tests)

wrong_tell : (b : Bool) (v : List ℕ) → has_wrong_flags b v ≡ true → (b ≡ true) × (v ≡ flags_at b v ∷ drop 1 v) × (flags_at b v ≡ 0 → ⊥) × (flags_at b v ≡ 128 → ⊥)
wrong_tell true [] h = cc h
wrong_tell true (f ∷ v) h = let n = not_flags f (and_tells (nat_le 1 (length (f ∷ v))) (not (are_flags f)) h).1 in (refl, refl, n.0, n.1)
wrong_tell false v h = cc h

preidentified_to : (p : PreidentifiedData) (u : List ℕ) (c : BadCause) → AreBytes u → WrongTells p.sync (preidentified_states p) u c → IsPreidentifiedError p u c
preidentified_to p u c ub t =
    let v : List ℕ = drop (length p.sync) u in
    let b : Bool = has_flags p.layout in
    elim (wrong_by (has_wrong_flags b v) (has_laid b v) (flags_at b v) (count_states p (laid_end b v) (laid_of b v).count) c t.states_are) [
      | inl g ↦
          let f = wrong_tell b v g.0 in
          inl (record {
            flags = flags_at b v;
            rest = drop 1 v;
            flagged = f.0;
            begin = begins_split p.sync u t.begin ∙ ap (λ y. p.sync ++ y) f.1;
            some = f.2;
            unstored = f.3;
            cause = g.1;
          })
      | inr g ↦
          let vb : AreBytes v = are_drop (length p.sync) u ub in
          let whole = laid_whole b v vb g.0 g.1 in
          let end_is : laid_end b v ≡ length (laid_head b (stored_at b v) (laid_of b v)) = ap (laid_end b) whole ∙ laid_end_again b (stored_at b v) (laid_of b v) (drop (laid_end b v) v) in
          inr (record {
            stored = stored_at b v;
            head = laid_of b v;
            rest = drop (laid_end b v) v;
            fits = laid_fits b v vb g.1;
            begin = begins_split p.sync u t.begin ∙ ap (λ y. p.sync ++ y) whole;
            cause = subst (λ e. CountCause p (laid_of b v).count (length p.sync + e + (laid_of b v).count) c) end_is (count_to p (laid_end b v) (laid_of b v).count c (is_over p.max (laid_of b v).count) refl g.2);
          })
    ]

preidentified_back : (p : PreidentifiedData) (u : List ℕ) (c : BadCause) → IsPreidentifiedError p u c → WrongTells p.sync (preidentified_states p) u c
preidentified_back p u c (inl k) =
    let v : List ℕ = k.flags ∷ k.rest in
    let later : drop (length p.sync) u ≡ v = ap (drop (length p.sync)) k.begin ∙ drop_at p.sync v (length p.sync) refl in
    record {
      some = omega (arith, ap length k.begin, length-append p.sync v);
      begin = begins_test p.sync u (v, k.begin);
      states_are = ap (head_states p (has_flags p.layout)) later ∙ (ap (λ b. head_states p b v) k.flagged ∙ (rw (le_test 1 (length (k.flags ∷ k.rest)) (omega arith), wrong_test k.flags k.some k.unstored) refl ∙ ap Wrong (sym k.cause)));
    }
preidentified_back p u c (inr k) =
    let b : Bool = has_flags p.layout in
    let h : List ℕ = laid_head b k.stored k.head in
    let v : List ℕ = h ++ k.rest in
    let later : drop (length p.sync) u ≡ v = ap (drop (length p.sync)) k.begin ∙ drop_at p.sync v (length p.sync) refl in
    let count : (laid_of b v).count ≡ k.head.count = ap (λ (d : HeadData). d.count) (laid_again b k.stored k.head k.rest k.fits) in
    record {
      some = omega (arith, ap length k.begin, length-append p.sync v, length-append h k.rest, laid_length b k.stored k.head);
      begin = begins_test p.sync u (v, k.begin);
      states_are =
          ap (head_states p b) later
          ∙ rw (flags_again b k.stored k.head k.rest, has_laid_again b k.stored k.head k.rest, laid_end_again b k.stored k.head k.rest, count) (count_back p (length h) k.head.count c k.cause);
    }

-- ---- all protocols

pub errors_are_exact : ErrorsAreExact
errors_are_exact (Burst b) u c s y = burst_exact b u c
errors_are_exact (Fixed f) u c s y = (
  λ h. fixed_to f (fixed_rules f s) u c (fault_tells f.sync (fixed_states f) u c h),
  λ k. fault_test f.sync (fixed_states f) u c (fixed_back f (fixed_rules f s) u c k),
)
errors_are_exact (Length l) u c s y = (λ h. length_to l u c (fault_tells l.sync (length_states l) u c h), λ k. fault_test l.sync (length_states l) u c (length_back l (length_reaches l s) u c k))
errors_are_exact (Terminated t) u c s y = (
  λ h. terminated_to t u c (fault_tells t.sync (terminated_states t) u c h),
  λ k. fault_test t.sync (terminated_states t) u c (terminated_back t u (read_some t s) c k),
)
errors_are_exact (Preidentified p) u c s y = (
  λ h. preidentified_to p u c y (fault_tells p.sync (preidentified_states p) u c h),
  λ k. fault_test p.sync (preidentified_states p) u c (preidentified_back p u c k),
)
