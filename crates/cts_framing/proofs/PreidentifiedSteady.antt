-- What frames state that begin with a head.
use Rattle.std.proofs.Common.{◌≡◌, ℕ, ◌+◌, ◌≤◌, Bool, true, false, cond, List, ◌++◌, length, drop, refl, ◌∙◌, ap, arith}
use Rattle.std.specs.Prelude.{nat_le, not}
use Rattle.std.proofs.lemmas.List.{drop-append-le, length-drop}
use Rattle.cts_def.specs.Protocols.{PreidentifiedData}
use Rattle.cts_def.specs.declared.bad_cause.BadCause.TheVariants.{OverMax, Flags}
use Rattle.cts_framing.specs.Heads.{HeadData}
use Rattle.cts_framing.specs.Layouts.{has_flags, has_wrong_flags, are_flags, flags_at, has_laid, laid_of, laid_end}
use Rattle.cts_framing.specs.Stating.{Stated, Open, Long, Wrong, is_open, IsSteady}
use Rattle.cts_def.specs.Most.{frame_limit}
use Rattle.cts_framing.specs.Rows.{is_over, count_states, head_states, preidentified_states, long_within}
use Rattle.cts_framing.proofs.Fronts.{and_tells, le_tells}
use Rattle.cts_framing.proofs.LengthSteady.{wrong_or_long, within_tells}
use Rattle.cts_framing.proofs.Laid.{flags_front, wrong_front, has_laid_front, laid_of_front, laid_end_front, laid_some}

pub head_long : (b : Bool) (s : Stated) (n : ℕ) → cond b s Open ≡ Long n → (b ≡ true) × (s ≡ Long n)
head_long true s n h = (refl, h)
head_long false s n h = cc

-- what a head says of which a frame's length is stated
pub record CountTells (p : PreidentifiedData) (end count n : ℕ) : Type 0 where
  pub max : is_over p.max count ≡ false
  pub length_is : length p.sync + end + count ≡ n
  pub within : n ≤ frame_limit

pub count_tells : (p : PreidentifiedData) (end count n : ℕ) → count_states p end count ≡ Long n → CountTells p end count n
count_tells p end count n h =
    let over = wrong_or_long (is_over p.max count) (OverMax count) (long_within (length p.sync + end + count)) n h in
    let within = within_tells (length p.sync + end + count) n over.1 in
    record { max = over.0; length_is = within.0; within = within.1 }

-- a frame's length is stated where its flags are right and its head is there
pub by_flags : (wrong there : Bool) (f : ℕ) (s : Stated) (n : ℕ) → cond wrong (Wrong (Flags f)) (cond there s Open) ≡ Long n → (wrong ≡ false) × (there ≡ true) × (s ≡ Long n)
by_flags true there f s n h = cc
by_flags false there f s n h = let g = head_long there s n h in (refl, g.0, g.1)

pub head_tells : (p : PreidentifiedData) (b : Bool) (v : List ℕ) (n : ℕ) → head_states p b v ≡ Long n → CountTells p (laid_end b v) (laid_of b v).count n
head_tells p b v n h = count_tells p (laid_end b v) (laid_of b v).count n (by_flags (has_wrong_flags b v) (has_laid b v) (flags_at b v) (count_states p (laid_end b v) (laid_of b v).count) n h).2

-- something is stated only where a byte is there
pub wrong_some : (b : Bool) (v : List ℕ) → has_wrong_flags b v ≡ true → 1 ≤ length v
wrong_some true v h = le_tells 1 (length v) (and_tells (nat_le 1 (length v)) (not (are_flags (flags_at true v))) h).0
wrong_some false v h = cc h

-- what is stated stays when more bytes come
stays : (p : PreidentifiedData) (b : Bool) (v y : List ℕ) (w t : Bool) → has_wrong_flags b v ≡ w → has_laid b v ≡ t → is_open (head_states p b v) ≡ false
    → (1 ≤ length v) × (head_states p b (v ++ y) ≡ head_states p b v)
stays p b v y true t e f h =
    let some = wrong_some b v e in
    (some, rw (wrong_front b v y some, e) (ap (λ n. Wrong (Flags n)) (flags_front b v y some)))
stays p b v y false true e f h =
    let some : 1 ≤ length v = omega (arith, laid_some b v f) in
    let count : (laid_of b (v ++ y)).count ≡ (laid_of b v).count = ap (λ (d : HeadData). d.count) (laid_of_front b v y f) in
    (some, rw (wrong_front b v y some, e, has_laid_front b v y f, f, laid_end_front b v y f, count) refl)
stays p b v y false false e f h = cc (rw (e, f) at h)

pub preidentified_steady : (p : PreidentifiedData) → IsSteady (preidentified_states p)
preidentified_steady p u y h =
    let v = drop (length p.sync) u in
    let b = has_flags p.layout in
    let s = stays p b v y (has_wrong_flags b v) (has_laid b v) refl refl h in
    let front : drop (length p.sync) (u ++ y) ≡ v ++ y = drop-append-le (length p.sync) u y (omega (arith, s.0, length-drop (length p.sync) u)) in
    ap (head_states p b) front ∙ s.1
