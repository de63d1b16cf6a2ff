-- Numbers and targets of interfaces, found one by one.
use Rattle.std.proofs.Common.{◌≡◌, ℕ, zero, suc, ◌+◌, true, false, cond, List, [], ◌∷◌, Option, Some, None, refl, ap, ◌∙◌, arith}
use Rattle.std.specs.List.{slice_get}
use Rattle.cts_def.specs.Items.{is_same}
use Rattle.cts_def.specs.Sites.{InterfaceData, targets_at}
use Rattle.cts_plan.specs.Standing.{number_of}

abbrev pub targets_of_found : Option InterfaceData → List (List ℕ)
targets_of_found None = []
targets_of_found (Some i) = i.targets

pub found_targets : (is : List InterfaceData) (n : ℕ) → targets_at is n ≡ targets_of_found (slice_get is n)
found_targets [] n = refl
found_targets (i ∷ is) zero = refl
found_targets (i ∷ is) (suc n) = found_targets is n

-- the number, counted on from the interfaces before
pub counted_on : (i : InterfaceData) (is left : List InterfaceData) (name : List ℕ) (n total : ℕ) → left ≡ i ∷ is → n + number_of left name ≡ total → is_same i.name name ≡ false
    → n + 1 + number_of is name ≡ total
counted_on i is left name n total split so_far other =
    let one : number_of left name ≡ suc (number_of is name) =
    ap (λ (xs : List InterfaceData). number_of xs name) split ∙ ap (λ b. cond b zero (suc (number_of is name))) other in
    omega arith

pub counted_here : (i : InterfaceData) (is left : List InterfaceData) (name : List ℕ) (n total : ℕ) → left ≡ i ∷ is → n + number_of left name ≡ total → is_same i.name name ≡ true → n ≡ total
counted_here i is left name n total split so_far same =
    let none : number_of left name ≡ zero =
    ap (λ (xs : List InterfaceData). number_of xs name) split ∙ ap (λ b. cond b zero (suc (number_of is name))) same in
    omega arith
