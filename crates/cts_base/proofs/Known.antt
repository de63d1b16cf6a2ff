-- A set as the list of keys that were put into it, and the orders of bytes and of pairs as tests of equality.
use Rattle.std.proofs.Common.{◌≡◌, ℕ, Bool, true, false, cond, ◌&&◌, ◌||◌, List, [], ◌∷◌, ◌++◌, refl, sym, ap, ◌∙◌, nat_eq}
use Rattle.std.specs.Cmp.{IsTotalOrder, eq_by_cmp_equiv, on_total, then_total}
use Rattle.std.specs.Cmp.Lexicographic.{pointwise, slice_cmp, texts_ties}
use Rattle.std.proofs.lemmas.Cmp.{nat_list_cmp_total, nat_list_eq_equiv}
use Rattle.std.specs.List.{list_any}
use Rattle.std.specs.Ordering.{is_eq, nat_cmp, ordering_then}
use Rattle.std.specs.BTreeSet.{BTreeSet, contains, IsEmpty, IsUnchanged, Updates}
use Rattle.std.specs.declared.cmp.Ordering.{Ordering}
use Rattle.std.specs.declared.cmp.Ordering.TheVariants.{Less, Equal, Greater}
use Rattle.cts_base.specs.Known.{is_known, Knows, pair_cmp}

-- ---- lists of keys

-- Tests that agree find the same.
pub any_same : {X : Type 0} (p r : X → Bool) → ((x : X) → p x ≡ r x) → (xs : List X) → list_any p xs ≡ list_any r xs
any_same p r h [] = refl
any_same p r h (x ∷ xs) = ap (λ b. b || list_any p xs) (h x) ∙ ap (λ b. r x || b) (any_same p r h xs)

or_last : (b c : Bool) → b || (c || false) ≡ cond c true b
or_last true true = refl
or_last true false = refl
or_last false true = refl
or_last false false = refl

or_through : (a b c d : Bool) → b ≡ cond d true c → a || b ≡ cond d true (a || c)
or_through true b c true h = refl
or_through true b c false h = refl
or_through false b c d h = h

-- One more key passes where it does, or one before it does.
pub any_snoc : {X : Type 0} (p : X → Bool) (xs : List X) (x : X) → list_any p (xs ++ x ∷ []) ≡ cond (p x) true (list_any p xs)
any_snoc p [] x = or_last false (p x)
any_snoc p (y ∷ xs) x = or_through (p y) (list_any p (xs ++ x ∷ [])) (list_any p xs) (p x) (any_snoc p xs x)

-- ---- sets

pub knows_none : {K : Type 0} (R : K → K → Ordering) (s : BTreeSet K) → IsEmpty s → Knows R s []
knows_none R s empty q = ap (list_any (λ k. is_eq (R q k))) empty

-- The set of an insert that failed, or of a key that was there, is the same.
pub knows_same : {K : Type 0} (R : K → K → Ordering) (s n : BTreeSet K) (ks : List K) → IsUnchanged s n → Knows R s ks → Knows R n ks
knows_same R s n ks same h q = ap (list_any (λ k. is_eq (R q k))) same ∙ h q

pub knows_more : {K : Type 0} {R : K → K → Ordering} (o : IsTotalOrder R) (s n : BTreeSet K) (ks : List K) (k : K) → Updates R s n k true → Knows R s ks → Knows R n (ks ++ k ∷ [])
knows_more {K} {R} o s n ks k updated h q =
    let here : contains R n q ≡ cond (is_eq (R k q)) true (contains R s q) = updated.0 q in
    let turned : is_eq (R k q) ≡ is_eq (R q k) = (eq_by_cmp_equiv o).symm k q in
    here ∙ ap (λ b. cond b true (contains R s q)) turned ∙ ap (cond (is_eq (R q k)) true) (h q) ∙ sym (any_snoc (λ x. is_eq (R q x)) ks k)

-- ---- orders as tests

-- the order of bytes
pub tied_bytes : (a b : List ℕ) → is_eq (slice_cmp nat_cmp a b) ≡ pointwise nat_eq a b
tied_bytes a b = sym (texts_ties a b)

tied_both : (r s : Ordering) → is_eq (ordering_then r s) ≡ is_eq r && is_eq s
tied_both Less s = refl
tied_both Equal s = refl
tied_both Greater s = refl

-- the order of pairs of bytes
pub tied_pairs : (a b : List ℕ × List ℕ) → is_eq (pair_cmp a b) ≡ pointwise nat_eq a.0 b.0 && pointwise nat_eq a.1 b.1
tied_pairs a b =
    tied_both (slice_cmp nat_cmp a.0 b.0) (slice_cmp nat_cmp a.1 b.1)
    ∙ ap (λ c. c && is_eq (slice_cmp nat_cmp a.1 b.1)) (tied_bytes a.0 b.0)
    ∙ ap (λ c. pointwise nat_eq a.0 b.0 && c) (tied_bytes a.1 b.1)

pub pairs_total : IsTotalOrder pair_cmp
pairs_total = then_total (on_total (λ a. a.0) nat_list_cmp_total) (on_total (λ a. a.1) nat_list_cmp_total)

-- ---- keys that are known, by their bytes

pub bytes_turned : (a b : List ℕ) → pointwise nat_eq a b ≡ pointwise nat_eq b a
bytes_turned a b = nat_list_eq_equiv.symm a b

pub known_bytes : (ks : List (List ℕ)) (q : List ℕ) → is_known (slice_cmp nat_cmp) ks q ≡ list_any (λ k. pointwise nat_eq q k) ks
known_bytes ks q = any_same _ _ (tied_bytes q) ks

pub known_bytes_turned : (ks : List (List ℕ)) (q : List ℕ) → is_known (slice_cmp nat_cmp) ks q ≡ list_any (λ k. pointwise nat_eq k q) ks
known_bytes_turned ks q = any_same _ _ (λ k. tied_bytes q k ∙ bytes_turned q k) ks

pub known_pairs : (ks : List (List ℕ × List ℕ)) (q : List ℕ × List ℕ) → is_known pair_cmp ks q ≡ list_any (λ k. pointwise nat_eq q.0 k.0 && pointwise nat_eq q.1 k.1) ks
known_pairs ks q = any_same _ _ (tied_pairs q) ks

pub known_pairs_turned : (ks : List (List ℕ × List ℕ)) (q : List ℕ × List ℕ) → is_known pair_cmp ks q ≡ list_any (λ k. pointwise nat_eq k.0 q.0 && pointwise nat_eq k.1 q.1) ks
known_pairs_turned ks q =
    any_same _ _
    (λ k. tied_pairs q k ∙ ap (λ c. c && pointwise nat_eq q.1 k.1) (bytes_turned q.0 k.0) ∙ ap (λ c. pointwise nat_eq k.0 q.0 && c) (bytes_turned q.1 k.1))
    ks
