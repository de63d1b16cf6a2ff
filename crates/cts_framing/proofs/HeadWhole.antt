-- Bytes that hold a whole head are a head and what follows.
use Rattle.std.proofs.Common.{◌≡◌, ℕ, suc, ◌+◌, ◌-◌, ◌*◌, ◌/◌, ◌%◌, ◌≤◌, ◌<◌, List, [], ◌∷◌, ◌++◌, length, take, drop, sym, ◌∙◌, ap, arith, drop-cons}
use Rattle.std.specs.Prelude.{slice_index, slice_range}
use Rattle.std.proofs.lemmas.List.{take-append-drop, length-drop, length-take-le, get_or-drop, drop-drop}
use Rattle.std.proofs.lemmas.List.Folds.{drop_split}
use Rattle.byteorder.specs.Endian.{big_bytes, big_number}
use Rattle.byteorder.specs.Numbers.{big_from-lt}
use Rattle.cts_framing.specs.Heads.{AreBytes, FitsHead, head_bytes, target_end, packet_end, head_end, head_of}
use Rattle.cts_framing.proofs.HeadAgain.{laid_is}

-- four bytes are those of their number
four : (a b c d : ℕ) (x : List ℕ) → a < 256 → b < 256 → c < 256 → d < 256 → big_bytes 4 (big_number 4 (a ∷ b ∷ c ∷ d ∷ x)) ≡ a ∷ b ∷ c ∷ d ∷ []
four a b c d x ha hb hc hd =
    let p : (a * 16777216 + (b * 65536 + (c * 256 + (d * 1 + 0)))) / 16777216 % 256 ≡ a = omega (arith, ha, hb, hc, hd) in
    let q : (a * 16777216 + (b * 65536 + (c * 256 + (d * 1 + 0)))) / 65536 % 256 ≡ b = omega (arith, ha, hb, hc, hd) in
    let r : (a * 16777216 + (b * 65536 + (c * 256 + (d * 1 + 0)))) / 256 % 256 ≡ c = omega (arith, ha, hb, hc, hd) in
    let s : (a * 16777216 + (b * 65536 + (c * 256 + (d * 1 + 0)))) % 256 ≡ d = omega (arith, ha, hb, hc, hd) in
    λ i. p i ∷ q i ∷ r i ∷ s i ∷ []

number_bytes : (u : List ℕ) → AreBytes u → 4 ≤ length u → big_bytes 4 (big_number 4 u) ≡ take 4 u
number_bytes [] h l = absurd (omega (arith, l))
number_bytes (a ∷ []) h l = absurd (omega (arith, l))
number_bytes (a ∷ b ∷ []) h l = absurd (omega (arith, l))
number_bytes (a ∷ b ∷ c ∷ []) h l = absurd (omega (arith, l))
number_bytes (a ∷ b ∷ c ∷ d ∷ x) h l = four a b c d x (h 0) (h 1) (h 2) (h 3)

pub are_drop : (n : ℕ) (u : List ℕ) → AreBytes u → AreBytes (drop n u)
are_drop n u h i = rw (get_or-drop n u i 0) (h (n + i))

-- four bytes at a place, and what follows
four_at : (p : ℕ) (u : List ℕ) → AreBytes u → p + 4 ≤ length u → drop p u ≡ big_bytes 4 (big_number 4 (drop p u)) ++ drop (p + 4) u
four_at p u h l =
    sym (take-append-drop 4 (drop p u))
    ∙ (ap (λ v. v ++ drop 4 (drop p u)) (sym (number_bytes (drop p u) (are_drop p u h) (omega (arith, l, length-drop p u)))) ∙ ap (λ v. big_bytes 4 (big_number 4 (drop p u)) ++ v) (drop-drop 4 p u))

byte_at : (p : ℕ) (u : List ℕ) → p < length u → drop p u ≡ slice_index u p ∷ drop (p + 1) u
byte_at p u l = let e : suc p ≡ p + 1 = omega arith in drop-cons u p 0 l ∙ ap (λ n. slice_index u p ∷ drop n u) e

module _ (u : List ℕ) (h : AreBytes u) (l : head_end u ≤ length u) where
  target_length : length (slice_range u 9 (target_end u)) ≡ slice_index u 8
  target_length = omega (arith, length-take-le (target_end u - 9) (drop 9 u) (omega (arith, l, length-drop 9 u)))

  packet_length : length (slice_range u (target_end u + 1) (packet_end u)) ≡ slice_index u (target_end u)
  packet_length = omega (arith, length-take-le (packet_end u - (target_end u + 1)) (drop (target_end u + 1) u) (omega (arith, l, length-drop (target_end u + 1) u)))

  pub fits_of : FitsHead (head_of u)
  fits_of = record {
    seconds = big_from-lt 0 4 u h;
    micros = big_from-lt 0 4 (drop 4 u) (are_drop 4 u h);
    target = omega (arith, target_length, h 8);
    packet = omega (arith, packet_length, h (target_end u));
    count = big_from-lt 0 4 (drop (packet_end u) u) (are_drop (packet_end u) u h);
  }

  names : drop 8 u ≡ length (head_of u).target ∷ ((head_of u).target ++ (length (head_of u).packet ∷ ((head_of u).packet ++ (big_bytes 4 (head_of u).count ++ drop (head_end u) u))))
  names =
      byte_at 8 u (omega (arith, l))
      ∙ (ap (λ n. n ∷ drop 9 u) (sym target_length)
      ∙ ap (λ v. length (head_of u).target ∷ v) (drop_split u 9 (target_end u) (omega arith)
      ∙ ap (λ v. (head_of u).target ++ v) (byte_at (target_end u) u (omega (arith, l))
      ∙ (ap (λ n. n ∷ drop (target_end u + 1) u) (sym packet_length)
      ∙ ap (λ v. length (head_of u).packet ∷ v) (drop_split u (target_end u + 1) (packet_end u) (omega arith)
      ∙ ap (λ v. (head_of u).packet ++ v) (four_at (packet_end u) u h l))))))

  pub head_whole : u ≡ head_bytes (head_of u) ++ drop (head_end u) u
  head_whole =
      four_at 0 u h (omega (arith, l))
      ∙ (ap (λ v. big_bytes 4 (head_of u).time.seconds ++ v) (four_at 4 u h (omega (arith, l)) ∙ ap (λ v. big_bytes 4 (head_of u).time.micros ++ v) names)
      ∙ sym (laid_is (head_of u) (drop (head_end u) u)))
