-- Lists whose last one is changed, tests and numbers of lists with one more at the end, and lists without doubles.
use Rattle.std.proofs.Common.{◌≡◌, ℕ, suc, max, Bool, true, false, cond, ◌||◌, ◌&&◌, List, [], ◌∷◌, ◌++◌, map, length, Some, refl, sym, ap, ◌∙◌, arith}
use Rattle.std.specs.Prelude.{is_some, option_map}
use Rattle.std.specs.List.{list_any, list_all, AllByRecursion, IsDistinct}
use Rattle.std.proofs.lemmas.Map.Keys.{IsDistinct-head, IsDistinct-tail, IsDistinct-cons}
use Rattle.cts_base.proofs.Known.{any_snoc}
use Rattle.cts_def.specs.Packets.{greatest}
use Rattle.cts_words.specs.Blocks.{last_of, on_last}

-- ---- the last one is changed

pub on_last_same : {X : Type 0} (f : X → X) (xs : List X) → ((x : X) → f x ≡ x) → on_last f xs ≡ xs
on_last_same f [] h = refl
on_last_same f (x ∷ []) h = ap (λ y. y ∷ []) (h x)
on_last_same f (x ∷ y ∷ xs) h = ap (λ ys. x ∷ ys) (on_last_same f (y ∷ xs) h)

pub map_on_last : {X Y : Type 0} (g : X → Y) (f : X → X) (xs : List X) → ((x : X) → g (f x) ≡ g x) → map g (on_last f xs) ≡ map g xs
map_on_last g f [] h = refl
map_on_last g f (x ∷ []) h = ap (λ y. y ∷ []) (h x)
map_on_last g f (x ∷ y ∷ xs) h = ap (λ ys. g x ∷ ys) (map_on_last g f (y ∷ xs) h)

pub any_on_last : {X : Type 0} (p : X → Bool) (f : X → X) (xs : List X) → ((x : X) → p (f x) ≡ p x) → list_any p (on_last f xs) ≡ list_any p xs
any_on_last p f [] h = refl
any_on_last p f (x ∷ []) h = ap (λ b. b || false) (h x)
any_on_last p f (x ∷ y ∷ xs) h = ap (λ b. p x || b) (any_on_last p f (y ∷ xs) h)

pub length_on_last : {X : Type 0} (f : X → X) (xs : List X) → length (on_last f xs) ≡ length xs
length_on_last f [] = refl
length_on_last f (x ∷ []) = refl
length_on_last f (x ∷ y ∷ xs) = ap suc (length_on_last f (y ∷ xs))

pub last_on_last : {X : Type 0} (f : X → X) (xs : List X) → last_of (on_last f xs) ≡ option_map f (last_of xs)
last_on_last f [] = refl
last_on_last f (x ∷ []) = refl
last_on_last f (x ∷ y ∷ xs) = last_after x (on_last f (y ∷ xs)) (not_empty f y xs) ∙ last_on_last f (y ∷ xs) where
  not_empty : {X : Type 0} (f : X → X) (y : X) (xs : List X) → is_some (last_of (on_last f (y ∷ xs))) ≡ true
  not_empty f y [] = refl
  not_empty f y (z ∷ xs) = still_some y (on_last f (z ∷ xs)) (not_empty f z xs) where
    still_some : {X : Type 0} (y : X) (ys : List X) → is_some (last_of ys) ≡ true → is_some (last_of (y ∷ ys)) ≡ true
    still_some y [] e = absurd cc
    still_some y (z ∷ ys) e = e

  last_after : {X : Type 0} (x : X) (ys : List X) → is_some (last_of ys) ≡ true → last_of (x ∷ ys) ≡ last_of ys
  last_after x [] e = absurd cc
  last_after x (y ∷ ys) e = refl

pub all_on_last : {X : Type 0} (p : X → Bool) (f : X → X) (xs : List X) → ((x : X) → last_of xs ≡ Some x → p x ≡ true → p (f x) ≡ true) → list_all p xs ≡ true → list_all p (on_last f xs) ≡ true
all_on_last p f [] h all = refl
all_on_last p f (x ∷ []) h all = and_true (p (f x)) (h x refl (left_of (p x) true all)) where
  left_of : (a b : Bool) → a && b ≡ true → a ≡ true
  left_of true b e = refl
  left_of false b e = e

  and_true : (a : Bool) → a ≡ true → a && true ≡ true
  and_true a e = rw e refl
all_on_last p f (x ∷ y ∷ xs) h all = through (p x) (list_all p (y ∷ xs)) (list_all p (on_last f (y ∷ xs))) (all_on_last p f (y ∷ xs) h) all where
  through : (a b c : Bool) → (b ≡ true → c ≡ true) → a && b ≡ true → a && c ≡ true
  through true b c k e = k e
  through false b c k e = e

pub all_same_on_last : {X : Type 0} (p : X → Bool) (f : X → X) (xs : List X) → ((x : X) → p (f x) ≡ p x) → list_all p (on_last f xs) ≡ list_all p xs
all_same_on_last p f [] h = refl
all_same_on_last p f (x ∷ []) h = ap (λ b. b && true) (h x)
all_same_on_last p f (x ∷ y ∷ xs) h = ap (λ b. p x && b) (all_same_on_last p f (y ∷ xs) h)

-- ---- one more at the end

or_cond : (b c : Bool) → cond c true b ≡ b || c
or_cond true true = refl
or_cond true false = refl
or_cond false true = refl
or_cond false false = refl

pub any_more : {X : Type 0} (p : X → Bool) (xs : List X) (x : X) → list_any p (xs ++ x ∷ []) ≡ list_any p xs || p x
any_more p xs x = any_snoc p xs x ∙ or_cond (list_any p xs) (p x)

and_last : (b : Bool) → b && true ≡ b
and_last true = refl
and_last false = refl

and_through : (a b c : Bool) → (a && b) && c ≡ a && (b && c)
and_through true b c = refl
and_through false b c = refl

pub all_more : {X : Type 0} (p : X → Bool) (xs : List X) (x : X) → list_all p (xs ++ x ∷ []) ≡ list_all p xs && p x
all_more p [] x = and_last (p x)
all_more p (y ∷ xs) x = ap (λ b. p y && b) (all_more p xs x) ∙ sym (and_through (p y) (list_all p xs) (p x))

max_through : (a b c : ℕ) → max a (max b c) ≡ max (max a b) c
max_through a b c = omega arith

max_zero : (a : ℕ) → max a 0 ≡ max 0 a
max_zero a = omega arith

pub greatest_more : (ns : List ℕ) (n : ℕ) → greatest (ns ++ n ∷ []) ≡ max (greatest ns) n
greatest_more [] n = max_zero n
greatest_more (m ∷ ns) n = ap (max m) (greatest_more ns n) ∙ max_through m (greatest ns) n

-- ---- lists without doubles, and what they are lists of

all_map_to : {X Y : Type 0} (P : Y → Type 0) (g : X → Y) (xs : List X) → AllByRecursion (λ x. P (g x)) xs → AllByRecursion P (map g xs)
all_map_to P g [] h = tt
all_map_to P g (x ∷ xs) h = (h.0, all_map_to P g xs h.1)

all_map_from : {X Y : Type 0} (P : Y → Type 0) (g : X → Y) (xs : List X) → AllByRecursion P (map g xs) → AllByRecursion (λ x. P (g x)) xs
all_map_from P g [] h = tt
all_map_from P g (x ∷ xs) h = (h.0, all_map_from P g xs h.1)

pub distinct_map_to : {X Y : Type 0} (e : Y → Y → Bool) (g : X → Y) (xs : List X) → IsDistinct (λ a b. e (g a) (g b)) xs → IsDistinct e (map g xs)
unfolding IsDistinct
distinct_map_to e g [] h = tt
distinct_map_to e g (x ∷ xs) h =
    IsDistinct-cons e (g x) (map g xs) (all_map_to (λ y. e (g x) y ≡ false) g xs (IsDistinct-head (λ a b. e (g a) (g b)) x xs h))
    (distinct_map_to e g xs (IsDistinct-tail (λ a b. e (g a) (g b)) x xs h))

pub distinct_map_from : {X Y : Type 0} (e : Y → Y → Bool) (g : X → Y) (xs : List X) → IsDistinct e (map g xs) → IsDistinct (λ a b. e (g a) (g b)) xs
unfolding IsDistinct
distinct_map_from e g [] h = tt
distinct_map_from e g (x ∷ xs) h =
    IsDistinct-cons (λ a b. e (g a) (g b)) x xs (all_map_from (λ y. e (g x) y ≡ false) g xs (IsDistinct-head e (g x) (map g xs) h))
    (distinct_map_from e g xs (IsDistinct-tail e (g x) (map g xs) h))

pub any_map : {X Y : Type 0} (p : Y → Bool) (g : X → Y) (xs : List X) → list_any p (map g xs) ≡ list_any (λ x. p (g x)) xs
any_map p g [] = refl
any_map p g (x ∷ xs) = ap (λ b. p (g x) || b) (any_map p g xs)
