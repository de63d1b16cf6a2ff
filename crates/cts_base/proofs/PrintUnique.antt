-- Only one text is the print of a decimal.
use Rattle.std.proofs.Common.{◌≡◌, ℕ, zero, suc, ◌+◌, ◌-◌, ◌*◌, ◌^◌, ◌<◌, ◌≤◌, Bool, true, ltb, List, [], ◌∷◌, ◌++◌, length, take, get_or, replicate, ℤ, refl, sym, ap, ◌∙◌, ⊎_elim, ◌⊎◌, arith}
use Rattle.std.specs.Char.{is_digit, digit_value}
use Rattle.std.specs.Fmt.{decimal}
use Rattle.std.specs.List.{list_all}
use Rattle.std.specs.Str.Parse.{digits_value}
use Rattle.std.proofs.lemmas.Bool.{and_parts, and_from, cases_order, ltb-true}
use Rattle.std.proofs.lemmas.Bool.Decides.{nat_tests}
use Rattle.std.proofs.lemmas.List.{length-append, length-replicate, get_or-replicate, get_or_append_left, get_or-append_right, take_at}
use Rattle.std.proofs.lemmas.Nat.{same_from_place}
use Rattle.cts_base.specs.Signs.{sign_text}
use Rattle.cts_base.specs.Prints.{sign_of, PrintsDecimal}
use Rattle.cts_base.proofs.Numerals.{digits-lt, digits_value-weighed, scaled-lt}
use Rattle.cts_base.proofs.PrintLemmas.{value_after-append, value_after-zeros}

pub same_digit : (c d : ℕ) → is_digit c 10 ≡ true → is_digit d 10 ≡ true → digit_value c ≡ digit_value d → c ≡ d
same_digit c d h g e = grind (arith, nat_tests)

-- two texts of as many digits that write the same number are one
same_digits : (xs ys : List ℕ) → length xs ≡ length ys → list_all (λ c. is_digit c 10) xs ≡ true → list_all (λ c. is_digit c 10) ys ≡ true → digits_value 10 xs ≡ digits_value 10 ys → xs ≡ ys
same_digits [] [] len h g e = refl
same_digits [] (y ∷ ys) len h g e = absurd (omega arith)
same_digits (x ∷ xs) [] len h g e = absurd (omega arith)
same_digits (x ∷ xs) (y ∷ ys) len h g e =
    let p = and_parts (is_digit x 10) (list_all (λ c. is_digit c 10) xs) h in
    let q = and_parts (is_digit y 10) (list_all (λ c. is_digit c 10) ys) g in
    let n : length ys ≡ length xs = omega arith in
    let w = 10 ^ length xs in
    let low : digits_value 10 xs < w = digits-lt xs p.1 in
    let low' : digits_value 10 ys < w = omega (arith, digits-lt ys q.1, ap (λ k. 10 ^ k) n) in
    let turned : digit_value y * 10 ^ length ys + digits_value 10 ys ≡ digit_value y * w + digits_value 10 ys = ap (λ k. digit_value y * 10 ^ k + digits_value 10 ys) n in
    let place = same_from_place (digit_value x) (digits_value 10 xs) (digit_value y) (digits_value 10 ys) w low low' (sym (digits_value-weighed 10 x xs) ∙ (e ∙ (digits_value-weighed 10 y ys ∙ turned))) in
    let first : x ≡ y = same_digit x y p.0 q.0 place.0 in
    let rest : xs ≡ ys = same_digits xs ys (sym n) p.1 q.1 place.1 in
    cc

-- a fraction with zeros up to twelve digits
abbrev padded : List ℕ → List ℕ
padded ds = ds ++ replicate (12 - length ds) 48

padded-length : (ds : List ℕ) → length ds ≤ 12 → length (padded ds) ≡ 12
padded-length ds few = omega (arith, length-append ds (replicate (12 - length ds) 48), length-replicate {A = ℕ} (12 - length ds) 48)

zeros-at : (n k : ℕ) → k < length {A = ℕ} (replicate n 48) → get_or {A = ℕ} (replicate n 48) k 0 ≡ 48
zeros-at n k h = get_or-replicate n k 48 0 (omega (arith, length-replicate {A = ℕ} n 48))

padded-value : (ds : List ℕ) → digits_value 10 (padded ds) ≡ digits_value 10 ds * 10 ^ (12 - length ds)
padded-value ds =
    let n = 12 - length ds in
    value_after-append 0 ds (replicate n 48)
    ∙ (value_after-zeros (digits_value 10 ds) (replicate n 48) (zeros-at n)
    ∙ ap (λ k. digits_value 10 ds * 10 ^ k) (length-replicate {A = ℕ} n 48))

all-zeros : (n : ℕ) → list_all (λ c. is_digit c 10) (replicate n 48) ≡ true
all-zeros zero = refl
all-zeros (suc n) = all-zeros n

pub all-append : (p : ℕ → Bool) (xs ys : List ℕ) → list_all p xs ≡ true → list_all p ys ≡ true → list_all p (xs ++ ys) ≡ true
all-append p [] ys h g = g
all-append p (x ∷ xs) ys h g =
    let parts = and_parts (p x) (list_all p xs) h in
    and_from (p x) (list_all p (xs ++ ys)) parts.0 (all-append p xs ys parts.1 g)

-- a shortest fraction is no longer than another with the same digits and zeros
not_longer : (xs ys : List ℕ) → padded xs ≡ padded ys → length ys ≤ 12 → 0 < length xs → (get_or ys (length ys - 1) 0 ≡ 48 → length ys ≡ 1) → length xs < length ys → ⊥
not_longer xs ys same few some shortest longer =
    let at = length ys - 1 in
    let zero_there : get_or (padded xs) at 0 ≡ 48 =
    get_or-append_right xs (replicate (12 - length xs) 48) (length xs) at 0 refl (omega arith)
    ∙ get_or-replicate (12 - length xs) (at - length xs) 48 0 (omega arith) in
    let last : get_or ys at 0 ≡ 48 =
    sym (get_or_append_left ys (replicate (12 - length ys) 48) 0 at (omega arith)) ∙ (ap (λ t. get_or t at 0) (sym same) ∙ zero_there) in
    omega (arith, shortest last)

same_fraction : (xs ys : List ℕ) → padded xs ≡ padded ys → length xs ≡ length ys → xs ≡ ys
same_fraction xs ys same len =
    sym (take_at xs (replicate (12 - length xs) 48) (length xs) refl)
    ∙ (ap (take (length xs)) same ∙ take_at ys (replicate (12 - length ys) 48) (length xs) (sym len))

pub one_print : (parts : ℤ) (first second : List ℕ) → PrintsDecimal parts first → PrintsDecimal parts second → first ≡ second
one_print parts first second p q =
    let all : List ℕ → Bool = list_all (λ c. is_digit c 10) in
    let pd = and_parts (ltb 0 (length p.fraction)) (all p.fraction) p.digits in
    let qd = and_parts (ltb 0 (length q.fraction)) (all q.fraction) q.digits in
    let p_some : 0 < length p.fraction = ltb-true 0 (length p.fraction) pd.0 in
    let q_some : 0 < length q.fraction = ltb-true 0 (length q.fraction) qd.0 in
    let p_low = scaled-lt (digits_value 10 p.fraction) (length p.fraction) (digits-lt p.fraction pd.1) p.few in
    let q_low = scaled-lt (digits_value 10 q.fraction) (length q.fraction) (digits-lt q.fraction qd.1) q.few in
    let place = same_from_place p.whole (digits_value 10 p.fraction * 10 ^ (12 - length p.fraction)) q.whole (digits_value 10 q.fraction * 10 ^ (12 - length q.fraction)) (10 ^ 12) p_low q_low (sym p.value ∙ q.value) in
    let digits = λ (ds : List ℕ) (h : all ds ≡ true). all-append (λ c. is_digit c 10) ds (replicate (12 - length ds) 48) h (all-zeros (12 - length ds)) in
    let same : padded p.fraction ≡ padded q.fraction =
    same_digits (padded p.fraction) (padded q.fraction) (padded-length p.fraction p.few ∙ sym (padded-length q.fraction q.few)) (digits p.fraction pd.1) (digits q.fraction qd.1) (padded-value p.fraction ∙ (place.1 ∙ sym (padded-value q.fraction))) in
    let fraction : p.fraction ≡ q.fraction =
    ⊎_elim
    (λ (len : length p.fraction ≡ length q.fraction). same_fraction p.fraction q.fraction same len)
    (λ (other : (length p.fraction < length q.fraction) ⊎ (length q.fraction < length p.fraction)).
    absurd (⊎_elim
    (λ (l : length p.fraction < length q.fraction). not_longer p.fraction q.fraction same q.few p_some q.shortest l)
    (λ (l : length q.fraction < length p.fraction). not_longer q.fraction p.fraction (sym same) p.few q_some p.shortest l)
    other))
    (cases_order (length p.fraction) (length q.fraction)) in
    p.form
    ∙ (ap (λ w. sign_text (sign_of parts) ++ (decimal w ++ (46 ∷ p.fraction))) place.0
    ∙ (ap (λ f. sign_text (sign_of parts) ++ (decimal q.whole ++ (46 ∷ f))) fraction ∙ sym q.form))
