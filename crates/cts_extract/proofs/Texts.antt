-- The texts between commas, one after another.
use Rattle.std.proofs.Common.{◌≡◌, ℕ, suc, ◌+◌, ◌-◌, Bool, true, false, cond, List, [], ◌∷◌, length, take, drop, nat_lt, refl, sym, ◌∙◌, ap, arith, Some, None}
use Rattle.std.specs.List.{position, position_or_len}
use Rattle.std.proofs.Math.Seq.{take-length}
use Rattle.std.proofs.lemmas.Bool.Decides.{nat_tests}
use Rattle.std.proofs.lemmas.List.{length-drop}
use Rattle.cts_extract.specs.Words.{is_comma, onto, texts_of}

-- where a comma stands, it ends the first text
abbrev At : List ℕ → Type 0
At word = nat_lt (position_or_len is_comma word) (length word) ≡ true → texts_of word ≡ take (position_or_len is_comma word) word ∷ texts_of (drop (position_or_len is_comma word + 1) word)

at_first : (b : ℕ) (bs : List ℕ) (c : Bool) → is_comma b ≡ c → At bs → At (b ∷ bs)
at_first b bs true e later h = rw e refl
at_first b bs false e later h =
    let within : nat_lt (1 + position_or_len is_comma bs) (length (b ∷ bs)) ≡ true = rw e at h in
    let k = position_or_len is_comma bs in
    let there : nat_lt k (length bs) ≡ true = grind (arith, nat_tests) in
    let one : 1 + k ≡ suc k = omega arith in
    let two : 1 + k + 1 ≡ suc (k + 1) = omega arith in
    rw e (ap (onto b) (later there) ∙ sym (λ i. take (one i) (b ∷ bs) ∷ texts_of (drop (two i) (b ∷ bs))))

texts_at : (word : List ℕ) → At word
texts_at [] h = absurd (cc h)
texts_at (b ∷ bs) h = at_first b bs (is_comma b) refl (texts_at bs) h

-- without one the word is its only text
abbrev Without : List ℕ → Type 0
Without word = nat_lt (position_or_len is_comma word) (length word) ≡ false → texts_of word ≡ word ∷ []

none_before : (b : ℕ) (bs : List ℕ) → nat_lt 0 (length (b ∷ bs)) ≡ false → ⊥
none_before b bs h = grind (arith, nat_tests)

without_first : (b : ℕ) (bs : List ℕ) (c : Bool) → is_comma b ≡ c → Without bs → Without (b ∷ bs)
without_first b bs true e later h = absurd (none_before b bs (rw e at h))
without_first b bs false e later h =
    let within : nat_lt (1 + position_or_len is_comma bs) (length (b ∷ bs)) ≡ false = rw e at h in
    let there : nat_lt (position_or_len is_comma bs) (length bs) ≡ false = grind (arith, nat_tests) in
    rw e (ap (onto b) (later there))

texts_none : (word : List ℕ) → Without word
texts_none [] h = refl
texts_none (b ∷ bs) h = without_first b bs (is_comma b) refl (texts_none bs) h

by_place : (b : Bool) (k n : ℕ) → cond b (Some k) None ≡ Some n → (b ≡ true) × (k ≡ n)
by_place true k n h = (refl, cc h)
by_place false k n h = absurd (cc h)

no_place : (b : Bool) (k : ℕ) → cond b (Some k) None ≡ None → b ≡ false
no_place true k h = absurd (cc h)
no_place false k h = refl

pub cut_there : (word : List ℕ) (n : ℕ) → position is_comma word ≡ Some n → texts_of word ≡ take n word ∷ texts_of (drop (n + 1) word)
cut_there word n h =
    let k = by_place (nat_lt (position_or_len is_comma word) (length word)) (position_or_len is_comma word) n h in
    texts_at word k.0 ∙ ap (λ (m : ℕ). take m word ∷ texts_of (drop (m + 1) word)) k.1

pub cut_nowhere : (word : List ℕ) → position is_comma word ≡ None → texts_of word ≡ word ∷ []
cut_nowhere word h = texts_none word (no_place (nat_lt (position_or_len is_comma word) (length word)) (position_or_len is_comma word) h)

-- all that stands after some place
pub all_behind : (word : List ℕ) (n : ℕ) → drop n word ≡ take (length word - n) (drop n word)
all_behind word n = sym (ap (λ (k : ℕ). take k (drop n word)) (sym (length-drop n word)) ∙ take-length (drop n word))
