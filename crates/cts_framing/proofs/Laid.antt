-- Heads with flags and without: what is said of heads without flags holds of what stands after the flags.
use Rattle.std.proofs.Common.{◌≡◌, ℕ, suc, ◌+◌, ◌≤◌, Bool, true, false, ◌&&◌, ◌||◌, cond, List, [], ◌∷◌, ◌++◌, length, take, drop, refl, sym, ◌∙◌, ap, arith, append_assoc, length-append, length-drop}
use Rattle.std.proofs.Math.Bool.{and-false}
use Rattle.std.specs.Prelude.{nat_le, not, ◌==◌, slice_index}
use Rattle.std.proofs.lemmas.List.{drop-append-le, get_or_append_left}
use Rattle.std.proofs.lemmas.Bool.Decides.{nat_tests}
use Rattle.cts_framing.specs.Heads.{AreBytes, HeadData, FitsHead, head_bytes, has_head, head_of, head_end}
use Rattle.cts_framing.specs.Layouts.{flags_of, flag_bytes, laid_head, flag_len, flags_at, are_flags, has_wrong_flags, stored_at, after_flags, has_laid, laid_of, laid_end}
use Rattle.cts_framing.proofs.Fronts.{le_tells, le_test, same_tells}
use Rattle.cts_framing.proofs.HeadAgain.{head_length, end_again, head_again}
use Rattle.cts_framing.proofs.HeadFronts.{has_head_front, head_of_front, packet_end_front, head_end_back}
use Rattle.cts_framing.proofs.HeadWhole.{are_drop, fits_of, head_whole}

-- ---- a head that was written is read again

pub laid_length : (b s : Bool) (d : HeadData) → length (laid_head b s d) ≡ flag_len b + (14 + length d.target + length d.packet)
laid_length true s d = omega (arith, head_length d)
laid_length false s d = omega (arith, head_length d)

pub laid_end_again : (b s : Bool) (d : HeadData) (x : List ℕ) → laid_end b (laid_head b s d ++ x) ≡ length (laid_head b s d)
laid_end_again true s d x = ap suc (end_again d x)
laid_end_again false s d x = end_again d x

pub laid_again : (b s : Bool) (d : HeadData) (x : List ℕ) → FitsHead d → laid_of b (laid_head b s d ++ x) ≡ d
laid_again true s d x f = head_again d x f
laid_again false s d x f = head_again d x f

pub has_laid_again : (b s : Bool) (d : HeadData) (x : List ℕ) → has_laid b (laid_head b s d ++ x) ≡ true
has_laid_again true s d x = le_test (head_end (head_bytes d ++ x)) (length (head_bytes d ++ x)) (omega (arith, end_again d x, length-append (head_bytes d) x))
has_laid_again false s d x = le_test (head_end (head_bytes d ++ x)) (length (head_bytes d ++ x)) (omega (arith, end_again d x, length-append (head_bytes d) x))

pub stored_again : (b s : Bool) (d : HeadData) (x : List ℕ) → stored_at b (laid_head b s d ++ x) ≡ (b && s)
stored_again true true d x = refl
stored_again true false d x = refl
stored_again false s d x = refl

pub flags_again : (b s : Bool) (d : HeadData) (x : List ℕ) → has_wrong_flags b (laid_head b s d ++ x) ≡ false
flags_again true true d x = and-false (nat_le 1 (length (laid_head true true d ++ x)))
flags_again true false d x = and-false (nat_le 1 (length (laid_head true false d ++ x)))
flags_again false s d x = refl

-- ---- bytes that hold a whole head are a head and what follows

flags_whole : (f : ℕ) → not (are_flags f) ≡ false → flags_of (f == 128) ≡ f
flags_whole f h = grind (arith, nat_tests)

after_bytes : (b : Bool) (u : List ℕ) → AreBytes u → AreBytes (after_flags b u)
after_bytes b u h = are_drop (flag_len b) u h

pub laid_fits : (b : Bool) (u : List ℕ) → AreBytes u → has_laid b u ≡ true → FitsHead (laid_of b u)
laid_fits b u h t = fits_of (after_flags b u) (after_bytes b u h) (le_tells (head_end (after_flags b u)) (length (after_flags b u)) t)

pub laid_whole : (b : Bool) (u : List ℕ) → AreBytes u → has_wrong_flags b u ≡ false → has_laid b u ≡ true → u ≡ laid_head b (stored_at b u) (laid_of b u) ++ drop (laid_end b u) u
laid_whole true [] h w t = cc t
laid_whole true (f ∷ v) h w t =
    let ends = le_tells (head_end v) (length v) t in
    let whole : v ≡ head_bytes (head_of v) ++ drop (head_end v) v = head_whole v (are_drop 1 (f ∷ v) h) ends in
    let right : not (are_flags f) ≡ false = rw (le_test 1 (length (f ∷ v)) (omega arith)) at w in
    let flags : f ≡ flags_of (f == 128) = sym (flags_whole f right) in
    λ i. flags i ∷ whole i
laid_whole false u h w t = head_whole u h (le_tells (head_end u) (length u) t)

-- ---- what the first bytes decide stays when more bytes come

pub flags_front : (b : Bool) (v y : List ℕ) → 1 ≤ length v → flags_at b (v ++ y) ≡ flags_at b v
flags_front true v y h = get_or_append_left v y 0 0 (omega (arith, h))
flags_front false v y h = refl

pub after_front : (b : Bool) (v y : List ℕ) → 1 ≤ length v → after_flags b (v ++ y) ≡ after_flags b v ++ y
after_front true v y h = drop-append-le 1 v y h
after_front false v y h = refl

pub wrong_front : (b : Bool) (v y : List ℕ) → 1 ≤ length v → has_wrong_flags b (v ++ y) ≡ has_wrong_flags b v
wrong_front true v y h =
    let there : nat_le 1 (length (v ++ y)) ≡ nat_le 1 (length v) = le_test 1 (length (v ++ y)) (omega (arith, h, length-append v y)) ∙ sym (le_test 1 (length v) h) in
    λ i. there i && not (are_flags (flags_front true v y h i))
wrong_front false v y h = refl

pub laid_some : (b : Bool) (v : List ℕ) → has_laid b v ≡ true → 14 + flag_len b ≤ length v
laid_some b v t = omega (arith, le_tells (head_end (after_flags b v)) (length (after_flags b v)) t, length-drop (flag_len b) v)

pub laid_room : (b : Bool) (v : List ℕ) → has_laid b v ≡ true → laid_end b v ≤ length v
laid_room true v t = omega (arith, le_tells (head_end (drop 1 v)) (length (drop 1 v)) t, length-drop 1 v)
laid_room false v t = le_tells (head_end v) (length v) t

pub laid_end_is : (b : Bool) (v : List ℕ) → laid_end b v ≡ flag_len b + head_end (after_flags b v)
laid_end_is true v = omega arith
laid_end_is false v = omega arith

pub has_laid_front : (b : Bool) (v y : List ℕ) → has_laid b v ≡ true → has_laid b (v ++ y) ≡ true
has_laid_front b v y t = ap has_head (after_front b v y (omega (arith, laid_some b v t))) ∙ has_head_front (after_flags b v) y t

pub laid_of_front : (b : Bool) (v y : List ℕ) → has_laid b v ≡ true → laid_of b (v ++ y) ≡ laid_of b v
laid_of_front b v y t =
    ap head_of (after_front b v y (omega (arith, laid_some b v t))) ∙ head_of_front (after_flags b v) y (le_tells (head_end (after_flags b v)) (length (after_flags b v)) t)

pub laid_end_front : (b : Bool) (v y : List ℕ) → has_laid b v ≡ true → laid_end b (v ++ y) ≡ laid_end b v
laid_end_front b v y t =
    let p = packet_end_front (after_flags b v) y (le_tells (head_end (after_flags b v)) (length (after_flags b v)) t) in
    laid_end_is b (v ++ y) ∙ (ap (λ u. flag_len b + head_end u) (after_front b v y (omega (arith, laid_some b v t))) ∙ (ap (λ n. flag_len b + (n + 4)) p ∙ sym (laid_end_is b v)))

-- a head that ends within some bytes is told by them
pub laid_end_back : (b : Bool) (v y : List ℕ) → laid_end b (v ++ y) ≤ length v → laid_end b v ≡ laid_end b (v ++ y)
laid_end_back true [] y h = absurd (omega (arith, h))
laid_end_back true (f ∷ v) y h = ap suc (head_end_back v y (omega (arith, h)))
laid_end_back false v y h = head_end_back v y h

pub has_laid_back : (b : Bool) (v y : List ℕ) → laid_end b (v ++ y) ≤ length v → has_laid b v ≡ true
has_laid_back true [] y h = absurd (omega (arith, h))
has_laid_back true (f ∷ v) y h = le_test (head_end v) (length v) (omega (arith, h, head_end_back v y (omega (arith, h))))
has_laid_back false v y h = le_test (head_end v) (length v) (omega (arith, h, head_end_back v y h))
