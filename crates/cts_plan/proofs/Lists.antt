-- Lists of plain values, and tests of them.
use Rattle.std.proofs.Common.{◌≡◌, ℕ, ◌+◌, ◌<◌, Bool, true, false, not, ◌&&◌, ◌||◌, List, [], ◌∷◌, ◌++◌, length, map, get_or, drop, refl, sym, ap, ◌∙◌, add-one, append_assoc, arith}
use Rattle.cts_words.specs.Blocks.{on_last}
use Rattle.std.specs.List.{list_all, list_any, AllByRecursion, IsDistinct}
use Rattle.std.proofs.Math.Seq.{drop-cons}
use Rattle.std.proofs.lemmas.List.{append-nil}
use Rattle.std.proofs.lemmas.List.Folds.{list_any-append, list_all-append}

-- ---- truth values

pub both : (a b : Bool) → (a && b) ≡ true → (a ≡ true) × (b ≡ true)
both true true e = (refl, refl)
both true false e = absurd cc
both false b e = absurd cc

pub and_true : (a b : Bool) → a ≡ true → b ≡ true → (a && b) ≡ true
and_true true true e f = refl
and_true true false e f = absurd cc
and_true false b e f = absurd cc

pub neither : (a b : Bool) → (a || b) ≡ false → (a ≡ false) × (b ≡ false)
neither true b e = absurd cc
neither false b e = (refl, e)

pub or_nothing : (a b : Bool) → (a || (b || false)) ≡ (a || b)
or_nothing true b = refl
or_nothing false true = refl
or_nothing false false = refl

pub and_all : (a b : Bool) → (a && (b && true)) ≡ (a && b)
and_all true true = refl
and_all true false = refl
and_all false b = refl

-- ---- tests of lists

pub any_snoc : {X : Type 0} (p : X → Bool) (xs : List X) (x : X) → list_any p (xs ++ x ∷ []) ≡ (list_any p xs || p x)
any_snoc p xs x = list_any-append p xs (x ∷ []) ∙ or_nothing (list_any p xs) (p x)

pub all_append : {X : Type 0} (p : X → Bool) (xs : List X) (x : X) → list_all p xs ≡ true → p x ≡ true → list_all p (xs ++ x ∷ []) ≡ true
all_append p xs x all one = list_all-append p xs (x ∷ []) ∙ and_all (list_all p xs) (p x) ∙ and_true (list_all p xs) (p x) all one

pub all_map : {X Y : Type 0} (p : Y → Bool) (f : X → Y) (xs : List X) → list_all p (map f xs) ≡ list_all (λ x. p (f x)) xs
all_map p f [] = refl
all_map p f (x ∷ xs) = ap (λ b. p (f x) && b) (all_map p f xs)

pub any_map : {X Y : Type 0} (p : Y → Bool) (f : X → Y) (xs : List X) → list_any p (map f xs) ≡ list_any (λ x. p (f x)) xs
any_map p f [] = refl
any_map p f (x ∷ xs) = ap (λ b. p (f x) || b) (any_map p f xs)

pub all_snoc : {X : Type 0} (P : X → Type 0) (xs : List X) (x : X) → AllByRecursion P xs → P x → AllByRecursion P (xs ++ x ∷ [])
all_snoc P [] x h px = (px, tt)
all_snoc P (y ∷ xs) x h px = (h.0, all_snoc P xs x h.1 px)

-- none is equal to one that is put after them
pub distinct_snoc : {X : Type 0} (e : X → X → Bool) (xs : List X) (x : X) → IsDistinct e xs → list_any (λ y. e y x) xs ≡ false → IsDistinct e (xs ++ x ∷ [])
unfolding IsDistinct
distinct_snoc e [] x h none = (tt, tt)
distinct_snoc e (y ∷ xs) x h none =
    let parts = neither (e y x) (list_any (λ y. e y x) xs) none in
    (all_snoc (λ z. e y z ≡ false) xs x h.0 parts.0, distinct_snoc e xs x h.1 parts.1)

-- ---- places

-- from the item at i on
pub drop_at : {X : Type 0} (xs : List X) (i : ℕ) (x : X) → i < length xs → x ≡ get_or xs i x → drop i xs ≡ x ∷ drop (i + 1) xs
drop_at xs i x lt item = drop-cons xs i x lt ∙ rw (add-one, ← item) refl

pub nothing_left : {X : Type 0} (xs : List X) → length xs ≡ 0 → xs ≡ []
nothing_left [] e = refl
nothing_left (x ∷ xs) e = absurd (omega arith)

-- one of those that are left is moved after the others
pub moved : {X : Type 0} (done left rest new all : List X) (x : X) → done ++ left ≡ all → left ≡ x ∷ rest → new ≡ done ++ x ∷ [] → new ++ rest ≡ all
moved done left rest new all x so_far split pushed =
    ap (λ ys. ys ++ rest) pushed ∙ append_assoc done (x ∷ []) rest ∙ ap (λ ys. done ++ ys) (sym split) ∙ so_far

-- those that are left are none
pub all_moved : {X : Type 0} (done left all : List X) → done ++ left ≡ all → length left ≡ 0 → done ≡ all
all_moved done left all so_far none = sym (append-nil done) ∙ ap (λ ys. done ++ ys) (sym (nothing_left left none)) ∙ so_far

pub not_false : (b : Bool) → not b ≡ false → b ≡ true
not_false true e = refl
not_false false e = absurd cc

-- ---- all but the last one

abbrev pub but_last : {X : Type 0} → List X → List X
but_last [] = []
but_last (x ∷ []) = []
but_last (x ∷ y ∷ xs) = x ∷ but_last (y ∷ xs)

pub but_last_snoc : {X : Type 0} (xs : List X) (x : X) → but_last (xs ++ x ∷ []) ≡ xs
but_last_snoc [] x = refl
but_last_snoc (y ∷ []) x = refl
but_last_snoc (y ∷ z ∷ xs) x = ap (λ ys. y ∷ ys) (but_last_snoc (z ∷ xs) x)

pub but_last_kept : {X : Type 0} (f : X → X) (xs : List X) → but_last (on_last f xs) ≡ but_last xs
but_last_kept f [] = refl
but_last_kept f (x ∷ []) = refl
but_last_kept f (x ∷ y ∷ []) = refl
but_last_kept f (x ∷ y ∷ z ∷ xs) = ap (λ ys. x ∷ ys) (but_last_kept f (y ∷ z ∷ xs))
