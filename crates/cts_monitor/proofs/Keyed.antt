-- Lists of which something is said of each element with its place.
use Rattle.std.proofs.Common.{◌≡◌, ◌≢◌, ◌∷◌, [], ◌++◌, ℕ, zero, suc, ◌+◌, ◌<◌, ◌≤◌, List, length, get_or, set, take, refl, ap, subst, arith, Some}
use Rattle.std.specs.Prelude.{slice_get}
use Rattle.cts_monitor.specs.Grid.{Each}

-- what was said of each element is said after one place is set
pub keyed_set : {A : Type 0} (P Q : ℕ → A → Type 0) (xs : List A) (b : ℕ) (v : A) → ((m : ℕ) (x : A) → m ≢ b → P m x → Q m x) → Q b v → Each P xs → Each Q (set xs b v)
keyed_set P Q [] b v others own before m x e = (cc)
keyed_set P Q (y ∷ xs) zero v others own before zero x e = let same : v ≡ x = cc in subst (λ z. Q 0 z) same own
keyed_set P Q (y ∷ xs) zero v others own before (suc m) x e = others (suc m) x (omega arith) (before (suc m) x e)
keyed_set P Q (y ∷ xs) (suc b) v others own before zero x e = others zero x (omega arith) (before zero x e)
keyed_set P Q (y ∷ xs) (suc b) v others own before (suc m) x e =
    keyed_set (λ n z. P (suc n) z) (λ n z. Q (suc n) z) xs b v (λ n z d p. others (suc n) z (λ q. d (omega arith)) p) own (λ n z q. before (suc n) z q) m x e

pub get_within : {A : Type 0} (xs : List A) (n : ℕ) (x : A) → slice_get xs n ≡ Some x → n < length xs
get_within [] n x e = (cc)
get_within (y ∷ xs) zero x e = omega arith
get_within (y ∷ xs) (suc n) x e = let r = get_within xs n x e in omega (arith, r)

pub get_is : {A : Type 0} (xs : List A) (n : ℕ) (x : A) → n < length xs → x ≡ get_or xs n x → slice_get xs n ≡ Some x
get_is [] n x lt is = absurd (omega arith)
get_is (y ∷ xs) zero x lt is = (cc)
get_is (y ∷ xs) (suc n) x lt is = get_is xs n x (omega arith) is

pub get_any : {A : Type 0} (xs : List A) (n : ℕ) (d e : A) → n < length xs → get_or xs n d ≡ get_or xs n e
get_any [] n d e lt = absurd (omega arith)
get_any (x ∷ xs) zero d e lt = refl
get_any (x ∷ xs) (suc n) d e lt = get_any xs n d e (omega arith)

-- ---- a loop that goes over each element: those before the k-th have been, the others have not

abbrev pub Mixed : {A : Type 0} → (ℕ → A → Type 0) → (ℕ → A → Type 0) → ℕ → ℕ → A → Type 0
Mixed P Q k n x = (n < k → Q n x) × (k ≤ n → P n x)

pub mixed_begin : {A : Type 0} (P Q : ℕ → A → Type 0) (xs : List A) → Each P xs → Each (Mixed P Q 0) xs
mixed_begin P Q xs before n x e = (λ lt. absurd (omega arith), λ le. before n x e)

pub mixed_here : {A : Type 0} (P Q : ℕ → A → Type 0) (xs : List A) (k : ℕ) (x : A) → k < length xs → x ≡ get_or xs k x → Each (Mixed P Q k) xs → P k x
mixed_here P Q xs k x lt is all = (all k x (get_is xs k x lt is)).1 (omega arith)

pub mixed_step : {A : Type 0} (P Q : ℕ → A → Type 0) (xs : List A) (k : ℕ) (v : A) → Q k v → Each (Mixed P Q k) xs → Each (Mixed P Q (k + 1)) (set xs k v)
mixed_step P Q xs k v own all =
    keyed_set (Mixed P Q k) (Mixed P Q (k + 1)) xs k v (λ m x d p. (λ lt. p.0 (omega arith), λ le. p.1 (omega arith))) (λ lt. own, λ le. absurd (omega arith)) all

pub mixed_end : {A : Type 0} (P Q : ℕ → A → Type 0) (xs : List A) → Each (Mixed P Q (length xs)) xs → Each Q xs
mixed_end P Q xs all n x e = (all n x e).0 (get_within xs n x e)

-- ---- the last element

pub last_split : {A : Type 0} (xs : List A) (at : ℕ) (x : A) → at + 1 ≡ length xs → x ≡ get_or xs at x → xs ≡ take at xs ++ x ∷ []
last_split [] at x long is = absurd (omega arith)
last_split (y ∷ []) zero x long is = ap (λ z. z ∷ []) (cc)
last_split (y ∷ z ∷ xs) zero x long is = absurd (omega arith)
last_split (y ∷ xs) (suc at) x long is = ap (λ zs. y ∷ zs) (last_split xs at x (omega arith) is)

pub take_long : {A : Type 0} (xs : List A) (at : ℕ) → at + 1 ≡ length xs → length (take at xs) ≡ at
take_long [] at long = absurd (omega arith)
take_long (y ∷ xs) zero long = refl
take_long (y ∷ xs) (suc at) long = ap suc (take_long xs at (omega arith))

-- there is a last element
pub last_at : {A : Type 0} (xs : List A) (at : ℕ) → at + 1 ≡ length xs → (x : A) × (x ≡ get_or xs at x) × (slice_get xs at ≡ Some x)
last_at [] at long = absurd (omega arith)
last_at (y ∷ xs) zero long = (y, refl, refl)
last_at (y ∷ xs) (suc at) long = let r = last_at xs at (omega arith) in (r.0, r.1, r.2)
