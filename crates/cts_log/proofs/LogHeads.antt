-- Heads of log files.
use Rattle.std.proofs.Common.{◌≡◌, ℕ, ◌≤◌, Bool, true, false, List, ◌∷◌, ◌++◌, length, take, drop, refl, sym, ◌∙◌, ap, subst, arith, append_assoc, length-append, drop-cons, Some, None, Option}
use Rattle.std.specs.Prelude.{◌&&◌, ◌==◌, nat_le, is_some, slice_index, slice_range}
use Rattle.std.specs.List.{list_all}
use Rattle.std.proofs.lemmas.List.{drop_at, take_at, get_or_at, length-drop, length-take-le}
use Rattle.std.proofs.lemmas.List.Folds.{drop_split}
use Rattle.std.proofs.lemmas.List.Sums.{AllPass-from_list_all, list_all-from_AllPass}
use Rattle.hex.specs.Hex.{encode_lower, is_hex_digit, lower_digits}
use Rattle.hex.proofs.HexLemmas.{decode_of-encode_lower, decode_of-ok, length-encode_with}
use Rattle.cts_framing.specs.Patterns.{begins}
use Rattle.cts_framing.proofs.Fronts.{and_tells, begins_front, begins_tells, le_tells, le_test, same_tells, same_test}
use Rattle.cts_log.specs.Files.{IsLogHead, first_of, flagged_of, has_log_head, host, kind_by, kind_of, log_head_len, marker}
use Rattle.cts_log.specs.Laws.{HeadsAreExact, HeadsAreWritten}
use Rattle.cts_log.specs.declared.kind.LogKind.{LogKind}
use Rattle.cts_log.specs.declared.kind.LogKind.TheVariants.{Tlm, Cmd}

pub marker_len : (kind : LogKind) (fl : Bool) → length (marker kind fl) ≡ 12
marker_len Tlm true = refl
marker_len Tlm false = refl
marker_len Cmd true = refl
marker_len Cmd false = refl

-- the parts of a head, and what comes after it
abbrev laid : LogKind → Bool → List ℕ → List ℕ → List ℕ → List ℕ
laid kind fl digits host_field x = marker kind fl ++ (digits ++ 95 ∷ (host_field ++ x))

laid_is : (kind : LogKind) (fl : Bool) (digits host_field x : List ℕ) → (marker kind fl ++ (digits ++ 95 ∷ host_field)) ++ x ≡ laid kind fl digits host_field x
laid_is kind fl digits host_field x = append_assoc (marker kind fl) (digits ++ 95 ∷ host_field) x ∙ ap (λ v. marker kind fl ++ v) (append_assoc digits (95 ∷ host_field) x)

pub head_len : (kind : LogKind) (fl : Bool) (head : List ℕ) → IsLogHead kind fl head → length head ≡ 128
head_len kind fl head h =
    ap length h.head_is
    ∙ omega (arith, length-append (marker kind fl) (h.digits ++ 95 ∷ h.host_field), length-append h.digits (95 ∷ h.host_field), marker_len kind fl, h.digits_len, h.host_len)

-- ---- a head is found by its test

module _ (kind : LogKind) (fl : Bool) (file head x : List ℕ) (h : IsLogHead kind fl head) (e : file ≡ head ++ x) where
  parts : file ≡ laid kind fl h.digits h.host_field x
  parts = e ∙ (ap (λ v. v ++ x) h.head_is ∙ laid_is kind fl h.digits h.host_field x)

  long : 128 ≤ length file
  long = let l = ap length e in omega (arith, l, length-append head x, head_len kind fl head h)

  marked : begins (marker kind fl) file ≡ true
  marked = ap (begins (marker kind fl)) parts ∙ begins_front (marker kind fl) (h.digits ++ 95 ∷ (h.host_field ++ x))

  after_marker : drop 12 file ≡ h.digits ++ 95 ∷ (h.host_field ++ x)
  after_marker = ap (drop 12) parts ∙ drop_at (marker kind fl) (h.digits ++ 95 ∷ (h.host_field ++ x)) 12 (marker_len kind fl)

  digits_there : slice_range file 12 44 ≡ h.digits
  digits_there = ap (take 32) after_marker ∙ take_at h.digits (95 ∷ (h.host_field ++ x)) 32 h.digits_len

  joined : file ≡ (marker kind fl ++ h.digits) ++ 95 ∷ (h.host_field ++ x)
  joined = parts ∙ sym (append_assoc (marker kind fl) h.digits (95 ∷ (h.host_field ++ x)))

  byte_there : slice_index file 44 ≡ 95
  byte_there =
      ap (λ v. slice_index v 44) joined
      ∙ get_or_at (marker kind fl ++ h.digits) 95 (h.host_field ++ x) 0 44 (omega (arith, length-append (marker kind fl) h.digits, marker_len kind fl, h.digits_len))

  pub head_test : has_log_head kind fl file ≡ true
  head_test =
      let digits : list_all is_hex_digit (slice_range file 12 44) ≡ true = ap (list_all is_hex_digit) digits_there ∙ list_all-from_AllPass is_hex_digit h.digits h.are_digits in
      rw (le_test 128 (length file) long, marked, digits, same_test (slice_index file 44) 95 byte_there) refl

-- ---- and its test tells of one

module _ (kind : LogKind) (fl : Bool) (file : List ℕ) (t : has_log_head kind fl file ≡ true) where
  first : (nat_le log_head_len (length file) ≡ true) × ((begins (marker kind fl) file && (list_all is_hex_digit (slice_range file 12 44) && slice_index file 44 == 95)) ≡ true)
  first = and_tells (nat_le log_head_len (length file)) (begins (marker kind fl) file && (list_all is_hex_digit (slice_range file 12 44) && slice_index file 44 == 95)) t

  second : (begins (marker kind fl) file ≡ true) × ((list_all is_hex_digit (slice_range file 12 44) && slice_index file 44 == 95) ≡ true)
  second = and_tells (begins (marker kind fl) file) (list_all is_hex_digit (slice_range file 12 44) && slice_index file 44 == 95) first.1

  third : (list_all is_hex_digit (slice_range file 12 44) ≡ true) × ((slice_index file 44 == 95) ≡ true)
  third = and_tells (list_all is_hex_digit (slice_range file 12 44)) (slice_index file 44 == 95) second.1

  pub long_enough : 128 ≤ length file
  long_enough = le_tells 128 (length file) first.0

  after : file ≡ marker kind fl ++ drop 12 file
  after =
      let b = begins_tells (marker kind fl) file second.0 in
      b.1 ∙ ap (λ v. marker kind fl ++ v) (sym (ap (drop 12) b.1 ∙ drop_at (marker kind fl) b.0 12 (marker_len kind fl)))

  byte_after : drop 44 file ≡ 95 ∷ drop 45 file
  byte_after = drop-cons file 44 0 (omega (arith, long_enough)) ∙ ap (λ n. n ∷ drop 45 file) (same_tells (slice_index file 44) 95 third.1)

  split : file ≡ laid kind fl (slice_range file 12 44) (slice_range file 45 128) (drop 128 file)
  split =
      after
      ∙ ap (λ v. marker kind fl ++ v) (drop_split file 12 44 (omega arith)
      ∙ ap (λ v. slice_range file 12 44 ++ v) (byte_after ∙ ap (λ v. 95 ∷ v) (drop_split file 45 128 (omega arith))))

  pub head_tells : (head : List ℕ) × IsLogHead kind fl head × (file ≡ head ++ drop 128 file)
  head_tells = (
    marker kind fl ++ (slice_range file 12 44 ++ 95 ∷ slice_range file 45 128),
    record {
      digits = slice_range file 12 44;
      host_field = slice_range file 45 128;
      head_is = refl;
      digits_len = length-take-le 32 (drop 12 file) (omega (arith, long_enough, length-drop 12 file));
      are_digits = AllPass-from_list_all is_hex_digit (slice_range file 12 44) third.0;
      host_len = length-take-le 83 (drop 45 file) (omega (arith, long_enough, length-drop 45 file));
    },
    split ∙ sym (laid_is kind fl (slice_range file 12 44) (slice_range file 45 128) (drop 128 file)),
  )

-- ---- the markers exclude one another

pub one_mark : (kind other : LogKind) (fl too : Bool) (x y : List ℕ) → marker kind fl ++ x ≡ marker other too ++ y → (kind ≡ other) × (fl ≡ too)
one_mark Tlm Tlm true true x y e = (refl, refl)
one_mark Tlm Tlm false false x y e = (refl, refl)
one_mark Cmd Cmd true true x y e = (refl, refl)
one_mark Cmd Cmd false false x y e = (refl, refl)
one_mark Tlm Cmd true true x y e = let b : 84 ≡ 67 = ap (λ v. slice_index v 8) e in absurd (omega (arith, b))
one_mark Tlm Cmd true false x y e = let b : 84 ≡ 67 = ap (λ v. slice_index v 8) e in absurd (omega (arith, b))
one_mark Tlm Cmd false true x y e = let b : 84 ≡ 67 = ap (λ v. slice_index v 8) e in absurd (omega (arith, b))
one_mark Tlm Cmd false false x y e = let b : 84 ≡ 67 = ap (λ v. slice_index v 8) e in absurd (omega (arith, b))
one_mark Cmd Tlm true true x y e = let b : 67 ≡ 84 = ap (λ v. slice_index v 8) e in absurd (omega (arith, b))
one_mark Cmd Tlm true false x y e = let b : 67 ≡ 84 = ap (λ v. slice_index v 8) e in absurd (omega (arith, b))
one_mark Cmd Tlm false true x y e = let b : 67 ≡ 84 = ap (λ v. slice_index v 8) e in absurd (omega (arith, b))
one_mark Cmd Tlm false false x y e = let b : 67 ≡ 84 = ap (λ v. slice_index v 8) e in absurd (omega (arith, b))
one_mark Tlm Tlm true false x y e = let b : 52 ≡ 50 = ap (λ v. slice_index v 6) e in absurd (omega (arith, b))
one_mark Tlm Tlm false true x y e = let b : 50 ≡ 52 = ap (λ v. slice_index v 6) e in absurd (omega (arith, b))
one_mark Cmd Cmd true false x y e = let b : 52 ≡ 50 = ap (λ v. slice_index v 6) e in absurd (omega (arith, b))
one_mark Cmd Cmd false true x y e = let b : 50 ≡ 52 = ap (λ v. slice_index v 6) e in absurd (omega (arith, b))

pub one_head : (kind other : LogKind) (fl too : Bool) (head front x y : List ℕ) → IsLogHead kind fl head → IsLogHead other too front → head ++ x ≡ front ++ y → (kind ≡ other) × (fl ≡ too)
one_head kind other fl too head front x y h f e =
    one_mark kind other fl too (h.digits ++ 95 ∷ (h.host_field ++ x)) (f.digits ++ 95 ∷ (f.host_field ++ y))
    (sym (ap (λ v. v ++ x) h.head_is ∙ laid_is kind fl h.digits h.host_field x) ∙ (e ∙ (ap (λ v. v ++ y) f.head_is ∙ laid_is other too f.digits f.host_field y)))

-- two tests that hold are of one kind and of one layout
both_tests : (file : List ℕ) (kind other : LogKind) (fl too : Bool) → has_log_head kind fl file ≡ true → has_log_head other too file ≡ true → (kind ≡ other) × (fl ≡ too)
both_tests file kind other fl too s t =
    let a = head_tells kind fl file s in
    let b = head_tells other too file t in
    one_head kind other fl too a.0 b.0 (drop 128 file) (drop 128 file) a.1 b.1 (sym a.2 ∙ b.2)

-- which test holds
kind_tells : (file : List ℕ) (fl : Bool) (kind : LogKind) (t c : Bool) → has_log_head Tlm fl file ≡ t → has_log_head Cmd fl file ≡ c → kind_by fl file ≡ Some kind → has_log_head kind fl file ≡ true
kind_tells file fl Tlm true c et ec e = et
kind_tells file fl Tlm false true et ec e = cc (rw (et, ec) at e)
kind_tells file fl Tlm false false et ec e = cc (rw (et, ec) at e)
kind_tells file fl Cmd true c et ec e = cc (rw et at e)
kind_tells file fl Cmd false true et ec e = ec
kind_tells file fl Cmd false false et ec e = cc (rw (et, ec) at e)

kind_told : (file : List ℕ) (fl : Bool) (kind : LogKind) → kind_by fl file ≡ Some kind → has_log_head kind fl file ≡ true
kind_told file fl kind e = kind_tells file fl kind (has_log_head Tlm fl file) (has_log_head Cmd fl file) refl refl e

kind_by_test : (file : List ℕ) (fl : Bool) (kind : LogKind) (t : Bool) → has_log_head Tlm fl file ≡ t → has_log_head kind fl file ≡ true → kind_by fl file ≡ Some kind
kind_by_test file fl Tlm t et h = rw h refl
kind_by_test file fl Cmd false et h = rw (et, h) refl
kind_by_test file fl Cmd true et h = let same : Tlm ≡ Cmd = (both_tests file Tlm Cmd fl fl et h).0 in cc same

kind_test : (file : List ℕ) (fl : Bool) (kind : LogKind) → has_log_head kind fl file ≡ true → kind_by fl file ≡ Some kind
kind_test file fl kind h = kind_by_test file fl kind (has_log_head Tlm fl file) refl h

-- one layout alone
other_none : (file : List ℕ) (fl too : Bool) (kind : LogKind) (o : Option LogKind) → (fl ≡ too → ⊥) → has_log_head kind fl file ≡ true → kind_by too file ≡ o → o ≡ None
other_none file fl too kind None n h e = refl
other_none file fl too kind (Some other) n h e = absurd (n (both_tests file kind other fl too h (kind_told file too other e)).1)

plain_or : (file : List ℕ) (kind : LogKind) (p m : Option LogKind) → kind_by false file ≡ p → kind_by true file ≡ m → first_of p m ≡ Some kind
    → (head : List ℕ) × IsLogHead kind (is_some m) head × (file ≡ head ++ drop 128 file)
plain_or file kind (Some k) None ep em e = let same : k ≡ kind = cc e in head_tells kind false file (kind_told file false kind (ep ∙ ap Some same))
plain_or file kind (Some k) (Some m) ep em e =
    let never = (both_tests file k m false true (kind_told file false k ep) (kind_told file true m em)).1 in cc never
plain_or file kind None (Some m) ep em e = head_tells kind true file (kind_told file true kind (em ∙ e))
plain_or file kind None None ep em e = cc e

found : (file : List ℕ) (kind : LogKind) (fl : Bool) → has_log_head kind fl file ≡ true → (kind_of file ≡ Some kind) × (flagged_of file ≡ fl)
found file kind true h =
    let none : kind_by false file ≡ None = other_none file true false kind (kind_by false file) (λ e. cc e) h refl in
    let some : kind_by true file ≡ Some kind = kind_test file true kind h in
    (ap (λ o. first_of o (kind_by true file)) none ∙ some, ap is_some some)
found file kind false h =
    let none : kind_by true file ≡ None = other_none file false true kind (kind_by true file) (λ e. cc e) h refl in
    let some : kind_by false file ≡ Some kind = kind_test file false kind h in
    (ap (λ o. first_of o (kind_by true file)) some, ap is_some none)

pub heads_are_exact : HeadsAreExact
heads_are_exact file kind fl = (
  λ e. let t = plain_or file kind (kind_by false file) (kind_by true file) refl refl e.0 in (t.0, drop 128 file, subst (λ (b : Bool). IsLogHead kind b t.0) e.1 t.1, t.2),
  λ t. found file kind fl (head_test kind fl file t.0 t.1 t.2 t.3),
)

pub heads_are_written : HeadsAreWritten
heads_are_written kind fl digest l b = record {
  digits = encode_lower digest;
  host_field = host;
  head_is = refl;
  digits_len = omega (arith, l, length-encode_with lower_digits digest);
  are_digits = (decode_of-ok (encode_lower digest) digest (decode_of-encode_lower digest b)).1;
  host_len = refl;
}
