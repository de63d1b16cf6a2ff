-- What members write, one after the other.
use Rattle.std.proofs.Common.{◌≡◌, ℕ, ◌+◌, ◌≤◌, ◌<◌, Bool, true, false, List, [], ◌∷◌, Option, length, drop, get_or, refl, sym, ap, ◌∙◌, subst, add-one, drop-cons, arith}
use Rattle.std.specs.Prelude.{Some, None, nat_le, unwrap_or}
use Rattle.std.specs.List.{cons_option, find, filter_map, list_all}
use Rattle.std.proofs.lemmas.Bool.{and_from, and_parts}
use Rattle.std.proofs.lemmas.Bool.Decides.{nat_tests}
use Rattle.cts_def.specs.Items.{ItemData, span_of}
use Rattle.cts_def.specs.Spans.{bytes_needed}
use Rattle.cts_cmd.specs.declared.request.Given.{Given}
use Rattle.cts_cmd.specs.Builds.{lies_within}
use Rattle.cts_cmd.specs.Injects.{Injects, with_item}

joined_by : (o : Option (ItemData × Given)) (rest : List (ItemData × Given)) (old next new : List ℕ) → Injects (cons_option o []) old next → Injects rest next new → Injects (cons_option o rest) old new
joined_by None rest old next new one more = subst (λ x. Injects rest x new) one more
joined_by (Some m) rest old next new one more = (one.0, one.1, subst (λ x. Injects rest x new) one.2 more)

-- what one member writes, and what others write over it
pub joined : (items : List ItemData) (m : List ℕ × Given) (ms : List (List ℕ × Given)) (old next new : List ℕ) → Injects (filter_map (with_item items) (m ∷ [])) old next → Injects (filter_map (with_item items) ms) next new
    → Injects (filter_map (with_item items) (m ∷ ms)) old new
joined items m ms old next new one more = joined_by (with_item items m) (filter_map (with_item items) ms) old next new one more

found_by : (p q : ItemData → Bool) (x : ItemData) (xs : List ItemData) (it : ItemData) (test : Bool) → q x ≡ test → ((find q xs ≡ Some it) → p it ≡ true) → p x ≡ true → find q (x ∷ xs) ≡ Some it → p it ≡ true
found_by p q x xs it true is more one e =
    let same : Some x ≡ Some it = rw is at e in
    subst (λ (y : ItemData). p y ≡ true) (ap (λ (o : Option ItemData). unwrap_or o x) same) one
found_by p q x xs it false is more one e = more (rw is at e)

-- what is found keeps what all keep
pub all_found : (p q : ItemData → Bool) (xs : List ItemData) (it : ItemData) → list_all p xs ≡ true → find q xs ≡ Some it → p it ≡ true
all_found p q [] it all e = cc
all_found p q (x ∷ xs) it all e =
    let both = and_parts (p x) (list_all p xs) all in
    found_by p q x xs it (q x) refl (all_found p q xs it both.1) both.0 e

-- what all of a loop's members write, where this is the next one
pub one_more : (items : List ItemData) (members : List (List ℕ × Given)) (n : ℕ) (m : List ℕ × Given) (first old next : List ℕ) → n < length members → m ≡ get_or members n m → Injects (filter_map (with_item items) (m ∷ [])) old next
    → ((new : List ℕ) → Injects (filter_map (with_item items) (drop n members)) old new → Injects (filter_map (with_item items) members) first new)
    → (new : List ℕ) → Injects (filter_map (with_item items) (drop (n + 1) members)) next new → Injects (filter_map (with_item items) members) first new
one_more items members n m first old next lt is one all new more =
    let parts : drop n members ≡ m ∷ drop (n + 1) members = drop-cons members n m lt ∙ rw (add-one, ← is) refl in
    all new (subst (λ (x : List (List ℕ × Given)). Injects (filter_map (with_item items) x) old new) (sym parts) (joined items m (drop (n + 1) members) old next new one more))

-- items lie in more bytes too
pub all_more : (items : List ItemData) (m n : ℕ) → m ≤ n → list_all (lies_within m) items ≡ true → list_all (lies_within n) items ≡ true
all_more [] m n le all = refl
all_more (i ∷ items) m n le all =
    let both = and_parts (lies_within m i) (list_all (lies_within m) items) all in
    let one : lies_within n i ≡ true = room_more (bytes_needed (span_of i)) m n le both.0 in
    and_from (lies_within n i) (list_all (lies_within n) items) one (all_more items m n le both.1)
  where
    room_more : (needed m n : ℕ) → m ≤ n → nat_le needed m ≡ true → nat_le needed n ≡ true
    room_more needed m n le fits = grind (arith, nat_tests)

pub within_of : (n : ℕ) (i : ItemData) → lies_within n i ≡ true → bytes_needed (span_of i) ≤ n
within_of n i h = grind (arith, nat_tests)
