-- A word says nothing exactly where it names nothing, or writes no number.
use Rattle.std.proofs.Common.{◌≡◌, ◌∙◌, ℕ, zero, suc, ◌+◌, ◌-◌, ◌<◌, ◌≤◌, pos, Bool, true, false, ◌||◌, ◌⊎◌, inl, inr, cond, List, [], ◌∷◌, ◌++◌, length, get_or, take, drop, Option, Some, None, refl, sym, ap, arith, lit<}
use Rattle.std.specs.Prelude.{is_some, nat_lt, slice_get, if◌then◌else◌}
use Rattle.std.specs.List.{position, position_or_len}
use Rattle.std.specs.Option.{option_or}
use Rattle.std.proofs.lemmas.Bool.Decides.{nat_tests}
use Rattle.std.proofs.lemmas.List.{drop-map, length-map, take-map, length-append}
use Rattle.std.proofs.lemmas.List.Sums.{fails_before_first}
use Rattle.std.proofs.lemmas.Option.{get_or_from_slice_get, slice_get_within}
use Rattle.std.proofs.lemmas.Slice.Eq.{bytes_eq-Decides}
use Rattle.std.proofs.Math.Seq.{take-append_seam, drop-append_seam}
use Rattle.cts_base.specs.Names.{in_upper_case, spells, upper, is_lower}
use Rattle.cts_base.proofs.WholeLemmas.{whole_from_writes}
use Rattle.cts_def.specs.Sites.{InterfaceData, RouterData, SiteData}
use Rattle.cts_scriptread.specs.Laws.{MakersAreNamed, InterfacesAreNamed, SlotsAreNamed, NumbersAreWritten, CountsAreWritten}
use Rattle.cts_scriptread.specs.Lines.{NamesInterface, NamesSlot, NamesMaker}
use Rattle.cts_scriptread.specs.Makers.{both, interface_named, router_named, side_of, slot_number, slot_named, maker_named}
use Rattle.cts_scriptread.specs.Words.{natural_in, number_of, count_of}
use Rattle.cts_scriptread.proofs.Rows.{number_written, count_written, interface_there, slot_there, maker_there}

the_one : {A : Type 0} (o : Option A) → is_some o ≡ true → (x : A) × (o ≡ Some x)
the_one None e = absurd cc
the_one (Some x) e = (x, refl)

-- ---- names

within_some : (b : Bool) (n : ℕ) → b ≡ true → is_some (cond b (Some n) None) ≡ true
within_some b n e = rw e refl

hit : {X : Type 0} (p : X → Bool) (xs : List X) (n : ℕ) (x : X) (b : Bool) → nat_lt (position_or_len p xs) (length xs) ≡ b → slice_get xs n ≡ Some x → p x ≡ true → b ≡ true
hit p xs n x true e at passes = refl
hit p xs n x false e at passes =
    let past : length xs ≤ position_or_len p xs = grind (arith, nat_tests) in
    let within : n < length xs = slice_get_within xs n x at in
    let no : p (get_or xs n x) ≡ false = fails_before_first p xs n x (omega (arith, past, within)) in
    absurd (let here : get_or xs n x ≡ x = get_or_from_slice_get xs n x x at in cc)

hits : {X : Type 0} (p : X → Bool) (xs : List X) (n : ℕ) (x : X) → slice_get xs n ≡ Some x → p x ≡ true → is_some (position p xs) ≡ true
hits p xs n x at passes = within_some (nat_lt (position_or_len p xs) (length xs)) (position_or_len p xs) (hit p xs n x (nat_lt (position_or_len p xs) (length xs)) refl at passes)

is_interface_named : (site : SiteData) (word : List ℕ) (n : ℕ) → NamesInterface site word n → is_some (interface_named site word) ≡ true
is_interface_named site word n h =
    hits (λ (i : InterfaceData). spells word i.name) site.interfaces n h.interface h.there ((bytes_eq-Decides (in_upper_case word) h.interface.name).1 h.spelled)

-- what is no letter in upper case is so as it stands
as_it_stands : (b : Bool) (c a : ℕ) → is_lower c ≡ b → (if b then c - 32 else c) ≡ a → a < 65 → c ≡ a
as_it_stands true c a lower e few = let least : 97 ≤ c = grind (arith, nat_tests) in absurd (omega (arith, least, e, few))
as_it_stands false c a lower e few = e

two_bytes : (end : List ℕ) (a b : ℕ) → in_upper_case end ≡ a ∷ b ∷ [] → a < 65 → b < 65 → end ≡ a ∷ b ∷ []
two_bytes [] a b e ha hb = absurd cc
two_bytes (c ∷ []) a b e ha hb = absurd cc
two_bytes (c ∷ d ∷ []) a b e ha hb =
    let first : upper c ≡ a = cc in
    let second : upper d ≡ b = cc in
    let here : c ≡ a = as_it_stands (is_lower c) c a refl first ha in
    let there : d ≡ b = as_it_stands (is_lower d) d b refl second hb in
    rw (here, there) refl
two_bytes (c ∷ d ∷ x ∷ end) a b e ha hb = absurd cc

is_side : (side : ℕ) → side < 2 → side_of (47 ∷ (48 + side) ∷ []) ≡ Some side
is_side zero h = refl
is_side (suc zero) h = refl
is_side (suc (suc side)) h = absurd (omega (arith, h))

both_some : {A B C : Type 0} (f : A → B → C) (a : Option A) (b : Option B) → is_some a ≡ true → is_some b ≡ true → is_some (both f a b) ≡ true
both_some f None b e h = absurd cc
both_some f (Some a) None e h = absurd cc
both_some f (Some a) (Some b) e h = refl

is_slot_at : (site : SiteData) (word : List ℕ) (at n : ℕ) (h : NamesSlot site word n) → at ≡ length h.router.name
    → is_some (both slot_number (side_of (drop at word)) (router_named site (take at word))) ≡ true
is_slot_at site word at n h is =
    let tail : List ℕ = 47 ∷ (48 + h.side) ∷ [] in
    let name : in_upper_case (take at word) ≡ h.router.name =
    sym (take-map upper at word) ∙ ap (take at) h.spelled ∙ ap (λ (k : ℕ). take k (h.router.name ++ tail)) is ∙ take-append_seam h.router.name tail in
    let end : in_upper_case (drop at word) ≡ tail =
    sym (drop-map upper at word) ∙ ap (drop at) h.spelled ∙ ap (λ (k : ℕ). drop k (h.router.name ++ tail)) is ∙ drop-append_seam h.router.name tail in
    let small = h.two in
    let side : side_of (drop at word) ≡ Some h.side = ap side_of (two_bytes (drop at word) 47 (48 + h.side) end (lit< tt) (omega (arith, small))) ∙ is_side h.side h.two in
    both_some slot_number (side_of (drop at word)) (router_named site (take at word)) (ap is_some side)
    (hits (λ (r : RouterData). spells (take at word) r.name) site.routers h.place h.router h.there ((bytes_eq-Decides (in_upper_case (take at word)) h.router.name).1 name))

is_slot_named : (site : SiteData) (word : List ℕ) (n : ℕ) → NamesSlot site word n → is_some (slot_named site word) ≡ true
unfolding slot_named
is_slot_named site word n h =
    let tail : List ℕ = 47 ∷ (48 + h.side) ∷ [] in
    let same : length word ≡ length (h.router.name ++ tail) = sym (length-map word upper) ∙ ap length h.spelled in
    let more : length (h.router.name ++ tail) ≡ length h.router.name + 2 = length-append h.router.name tail in
    is_slot_at site word (length word - 2) n h (omega (arith, same, more))

either_some : {A : Type 0} (a b : Option A) → (is_some a ≡ true) ⊎ (is_some b ≡ true) → is_some (option_or a b) ≡ true
either_some None b (inl e) = absurd cc
either_some None None (inr e) = absurd cc
either_some None (Some b) (inr e) = refl
either_some (Some a) b e = refl

is_maker_named : (site : SiteData) (word : List ℕ) (n : ℕ) → NamesMaker site word n → is_some (maker_named site word) ≡ true
is_maker_named site word n (inl h) = either_some (interface_named site word) (slot_named site word) (inl (is_interface_named site word n h))
is_maker_named site word n (inr h) = either_some (interface_named site word) (slot_named site word) (inr (is_slot_named site word n h))

pub interfaces_are_named : InterfacesAreNamed
interfaces_are_named site word = (
  λ e. let it = the_one (interface_named site word) e in (it.0, interface_there site word it.0 it.1),
  λ h. is_interface_named site word h.0 h.1,
)

pub slots_are_named : SlotsAreNamed
slots_are_named site word = (
  λ e. let it = the_one (slot_named site word) e in (it.0, slot_there site word it.0 it.1),
  λ h. is_slot_named site word h.0 h.1,
)

pub makers_are_named : MakersAreNamed
makers_are_named site word = (
  λ e. let it = the_one (maker_named site word) e in (it.0, maker_there site word it.0 it.1),
  λ h. is_maker_named site word h.0 h.1,
)

-- ---- numbers

not_below_zero : (n : ℕ) → nat_lt n 0 ≡ false
not_below_zero n = grind (arith, nat_tests)

read_one : (below over : Bool) (n : ℕ) → below ≡ false → over ≡ false → (if below || over then None else Some n) ≡ Some n
read_one below over n b o = rw (b, o) refl

within : (most n : ℕ) → n ≤ most → natural_in most (Some (pos n)) ≡ Some n
within most n h = read_one (nat_lt n 0) (nat_lt most n) n (not_below_zero n) (let over : nat_lt most n ≡ false = grind (arith, nat_tests) in over)

pub numbers_are_written : NumbersAreWritten
unfolding number_of
numbers_are_written word n = (
  λ e. number_written word n e,
  λ h. ap (natural_in 4294967295) (whole_from_writes word (pos n) h.0) ∙ within 4294967295 n h.1,
)

pub counts_are_written : CountsAreWritten
unfolding count_of
counts_are_written word n = (
  λ e. count_written word n e,
  λ h. ap (natural_in 18446744073709551615) (whole_from_writes word (pos n) h.0) ∙ within 18446744073709551615 n h.1,
)
