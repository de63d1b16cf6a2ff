-- Lists of bytes, and numbers spelled in bytes.
use Rattle.std.proofs.Common.{◌≡◌, ℕ, zero, suc, ◌/◌, ◌%◌, ◌^◌, ◌<◌, Bool, true, false, List, [], ◌∷◌, ◌++◌, Option, Some, None, Ok, Err, Result, length, take, drop, refl, ap, ◌∙◌, arith}
use Rattle.std.specs.Prelude.{nat_lt, replicate, if◌then◌else◌}
use Rattle.std.specs.Int.Digits.{AllBelowBase, number_from_digits}
use Rattle.std.specs.List.{list_all}
use Rattle.std.proofs.Math.Nat.{pow-suc, pow-zero}
use Rattle.std.proofs.lemmas.Bool.{and_parts}
use Rattle.std.proofs.lemmas.Bool.Decides.{nat_tests}
use Rattle.std.proofs.lemmas.Int.Digits.{number_push}
use Rattle.std.proofs.lemmas.List.{length_push, reverse-reverse}
use Rattle.hex.specs.Hex.{decode_of}
use Rattle.hex.specs.declared.FromHexError.{FromHexError}
use Rattle.hex.proofs.HexLemmas.{decode_of-ok}
use Rattle.cts_bits.specs.declared.order.Order.{Order}
use Rattle.cts_bits.specs.declared.order.Order.TheVariants.{Big, Little}
use Rattle.cts_bits.specs.Windows.{in_order, number_in}
use Rattle.cts_bits.proofs.Turns.{in_order-below, length-in_order}
use Rattle.cts_def.specs.declared.item_kind.ItemKind.{ItemKind}
use Rattle.cts_def.specs.declared.item_kind.ItemKind.TheVariants.{Uint, Int, Str, Block}
use Rattle.cts_def.specs.Characters.{characters, is_marked, or_characters, text_bytes}
use Rattle.cts_def.proofs.Utf8.{characters_are_utf8}
use Rattle.cts_cmd.specs.Builds.{AreBytes}

-- ---- lists of bytes

pub bytes_none : AreBytes []
bytes_none k = omega arith

pub bytes_one : (b : ℕ) (xs : List ℕ) → b < 256 → AreBytes xs → AreBytes (b ∷ xs)
bytes_one b xs h all zero = h
bytes_one b xs h all (suc k) = all k

pub bytes_both : (xs ys : List ℕ) → AreBytes xs → AreBytes ys → AreBytes (xs ++ ys)
bytes_both [] ys a b = b
bytes_both (x ∷ xs) ys a b = bytes_one x (xs ++ ys) (a 0) (bytes_both xs ys (λ k. a (suc k)) b)

pub bytes_take : (n : ℕ) (xs : List ℕ) → AreBytes xs → AreBytes (take n xs)
bytes_take zero xs a = bytes_none
bytes_take (suc n) [] a = bytes_none
bytes_take (suc n) (x ∷ xs) a = bytes_one x (take n xs) (a 0) (bytes_take n xs (λ k. a (suc k)))

pub bytes_drop : (n : ℕ) (xs : List ℕ) → AreBytes xs → AreBytes (drop n xs)
bytes_drop zero xs a = a
bytes_drop (suc n) [] a = bytes_none
bytes_drop (suc n) (x ∷ xs) a = bytes_drop n xs (λ k. a (suc k))

pub bytes_zeros : (n : ℕ) → AreBytes (replicate n 0)
bytes_zeros zero = bytes_none
bytes_zeros (suc n) = bytes_one 0 (replicate n 0) (omega arith) (bytes_zeros n)

bytes_below : (xs : List ℕ) → AllBelowBase 256 xs → AreBytes xs
bytes_below [] h = bytes_none
bytes_below (x ∷ xs) h = bytes_one x xs h.0 (bytes_below xs h.1)

pub bytes_tested : (xs : List ℕ) → list_all (λ (b : ℕ). nat_lt b 256) xs ≡ true → AreBytes xs
bytes_tested [] h = bytes_none
bytes_tested (x ∷ xs) h =
    let parts = and_parts (nat_lt x 256) (list_all (λ (b : ℕ). nat_lt b 256) xs) h in
    bytes_one x xs (below x parts.0) (bytes_tested xs parts.1)
  where
    below : (x : ℕ) → nat_lt x 256 ≡ true → x < 256
    below x e = grind (arith, nat_tests)

-- ---- the bytes of texts

-- what is read is bytes, where it is read
abbrev pub AreSomeBytes : Option (List ℕ) → Type 0
AreSomeBytes None = Unit {0}
AreSomeBytes (Some bytes) = AreBytes bytes

of_characters : (text : List ℕ) (o : Option (List ℕ)) → characters text ≡ o → AreSomeBytes o
of_characters text None e = tt
of_characters text (Some bytes) e = bytes_tested bytes ((characters_are_utf8 text bytes).0 e).1

of_digits : (word digits : List ℕ) (r : Result (List ℕ) FromHexError) → decode_of digits ≡ r → AreSomeBytes (or_characters word r)
of_digits word digits (Ok bytes) e = (decode_of-ok digits bytes e).3
of_digits word digits (Err x) e = of_characters word (characters word) refl

of_block : (word : List ℕ) (marked : Bool) → AreSomeBytes (if marked then or_characters word (decode_of (drop 2 word)) else characters word)
of_block word true = of_digits word (drop 2 word) (decode_of (drop 2 word)) refl
of_block word false = of_characters word (characters word) refl

pub text_is_bytes : (kind : ItemKind) (word : List ℕ) → AreSomeBytes (text_bytes kind word)
text_is_bytes Uint word = of_characters word (characters word) refl
text_is_bytes Int word = of_characters word (characters word) refl
text_is_bytes Str word = of_characters word (characters word) refl
text_is_bytes Block word = of_block word (is_marked word)

-- ---- numbers spelled in bytes

-- n bytes that spell the number, the most significant first
spelling : ℕ → ℕ → List ℕ
spelling zero x = []
spelling (suc n) x = spelling n (x / 256) ++ (x % 256) ∷ []

length-spelling : (n x : ℕ) → length (spelling n x) ≡ n
unfolding spelling
length-spelling zero x = refl
length-spelling (suc n) x = omega (arith, length_push (spelling n (x / 256)) (x % 256), length-spelling n (x / 256))

spelling-bytes : (n x : ℕ) → AreBytes (spelling n x)
unfolding spelling
spelling-bytes zero x = bytes_none
spelling-bytes (suc n) x = bytes_both (spelling n (x / 256)) ((x % 256) ∷ []) (spelling-bytes n (x / 256)) (bytes_one (x % 256) [] (omega arith) bytes_none)

number-spelling : (n x : ℕ) → x < 256 ^ n → number_from_digits 256 (spelling n x) ≡ x
unfolding spelling
number-spelling zero x h = omega (arith, h, pow-zero 256)
number-spelling (suc n) x h =
    let front = number-spelling n (x / 256) (omega (arith, h, pow-suc 256 n)) in
    omega (arith, number_push 256 (spelling n (x / 256)) (x % 256), front)

twice_turned : (o : Order) (xs : List ℕ) → in_order o (in_order o xs) ≡ xs
twice_turned Big xs = refl
twice_turned Little xs = reverse-reverse xs

-- A list of n bytes that make the number in an order.
pub record MakeNumber (o : Order) (n x : ℕ) : Type 0 where
  pub them : List ℕ
  pub count : length them ≡ n
  pub bytes : AreBytes them
  pub number : number_in o them ≡ x

number-turned : (o : Order) (xs : List ℕ) → number_in o (in_order o xs) ≡ number_from_digits 256 xs
unfolding number_in
number-turned o xs = ap (number_from_digits 256) (twice_turned o xs)

pub make_number : (o : Order) (n x : ℕ) → x < 256 ^ n → MakeNumber o n x
make_number o n x h = record {
  them = in_order o (spelling n x);
  count = length-in_order o (spelling n x) ∙ length-spelling n x;
  bytes = bytes_below (in_order o (spelling n x)) (in_order-below o (spelling n x) (spelling-bytes n x));
  number = number-turned o (spelling n x) ∙ number-spelling n x h;
}
