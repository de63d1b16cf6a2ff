-- What sets of names know after one more name.
use Rattle.std.proofs.Common.{◌≡◌, ℕ, Bool, true, false, not, cond, List, [], ◌∷◌, ◌++◌, Option, Some, None, Result, Ok, Err, OnOk, refl, sym, ap, ◌∙◌, subst}
use Rattle.std.specs.Prelude.{is_some}
use Rattle.std.specs.Borrow.{Bor}
use Rattle.std.specs.Option.{option_copied}
use Rattle.std.specs.BTreeSet.{BTreeSet, Updates, contains}
use Rattle.std.specs.Cmp.Lexicographic.{slice_cmp}
use Rattle.std.specs.List.{list_any}
use Rattle.std.specs.Ordering.{nat_cmp}
use Rattle.std.proofs.lemmas.Cmp.{nat_list_cmp_total}
use Rattle.cts_base.specs.Known.{Knows}
use Rattle.cts_base.proofs.Known.{knows_more, known_bytes}
use Rattle.cts_def.specs.Items.{is_same}
use Rattle.cts_defread.specs.Drafts.{taken_name}
use Rattle.cts_defread.specs.Steps.{add_set}

pub state_known : (old new : BTreeSet (List ℕ)) (taken : Bool) (copy name : List ℕ) → taken ≡ true → copy ≡ name → Updates (slice_cmp nat_cmp) old new copy true
    → (names : List (List ℕ)) → Knows (slice_cmp nat_cmp) old names → Knows (slice_cmp nat_cmp) new (names ++ taken_name taken (Some name))
state_known old new taken copy name t same updates names h =
    let told : taken_name taken (Some name) ≡ copy ∷ [] = ap (λ (b : Bool). taken_name b (Some name)) t ∙ ap (λ (n : List ℕ). n ∷ []) (sym same) in
    subst (λ (ns : List (List ℕ)). Knows (slice_cmp nat_cmp) new (names ++ ns)) (sym told) (knows_more nat_list_cmp_total old new names copy updates h)

-- whether a set is one of those that are known
known_set : (sets : BTreeSet (List ℕ)) (names : List (List ℕ)) (name : List ℕ) (b : Bool) → Knows (slice_cmp nat_cmp) sets names → b ≡ not (contains (slice_cmp nat_cmp) sets name) → b ≡ not (list_any (is_same name) names)
known_set sets names name b h e = e ∙ ap not (h name ∙ known_bytes names name)

not_not : (b c : Bool) → b ≡ not c → c ≡ not b
not_not true true e = e
not_not true false e = refl
not_not false true e = refl
not_not false false e = e

pub set_added : (sets : BTreeSet (List ℕ)) (names after : List (List ℕ)) (name first second : List ℕ) (b : Bool) → Knows (slice_cmp nat_cmp) sets names → first ≡ name → second ≡ name
    → b ≡ not (contains (slice_cmp nat_cmp) sets first) → b ≡ true → after ≡ names ++ second ∷ [] → after ≡ add_set name names
set_added sets names after name first second b h one two added new pushed =
    let absent : list_any (is_same name) names ≡ false =
    ap (λ (n : List ℕ). list_any (is_same n) names) (sym one) ∙ not_not b (list_any (is_same first) names) (known_set sets names first b h added) ∙ ap not new in
    pushed ∙ ap (λ (n : List ℕ). names ++ n ∷ []) two ∙ sym (ap (λ (c : Bool). cond c names (names ++ name ∷ [])) absent)

pub set_there : (sets : BTreeSet (List ℕ)) (names : List (List ℕ)) (name first : List ℕ) (b : Bool) → Knows (slice_cmp nat_cmp) sets names → first ≡ name
    → b ≡ not (contains (slice_cmp nat_cmp) sets first) → b ≡ false → names ≡ add_set name names
set_there sets names name first b h one added old =
    let there : list_any (is_same name) names ≡ true =
    ap (λ (n : List ℕ). list_any (is_same n) names) (sym one) ∙ not_not b (list_any (is_same first) names) (known_set sets names first b h added) ∙ ap not old in
    sym (ap (λ (c : Bool). cond c names (names ++ name ∷ [])) there)

pub set_known : (old new : BTreeSet (List ℕ)) (names after : List (List ℕ)) (name first second : List ℕ) → Knows (slice_cmp nat_cmp) old names → first ≡ name → second ≡ name
    → Updates (slice_cmp nat_cmp) old new first true → after ≡ names ++ second ∷ [] → Knows (slice_cmp nat_cmp) new after
set_known old new names after name first second h one two updates pushed =
    subst (λ (ns : List (List ℕ)). Knows (slice_cmp nat_cmp) new ns) (sym (pushed ∙ ap (λ (n : List ℕ). names ++ n ∷ []) (two ∙ sym one))) (knows_more nat_list_cmp_total old new names first updates h)

-- whether the last item is there
pub is_there : {T : Type 0} (o : Option (Bor T)) (p : Option T) → option_copied o ≡ p → is_some o ≡ is_some p
is_there None p e = ap (λ q. is_some q) e
is_there (Some x) p e = ap (λ q. is_some q) e

pub states_taken : (new : BTreeSet (List ℕ)) (before : List (List ℕ)) (b c : Bool) (o : Option (List ℕ)) → b ≡ c → Knows (slice_cmp nat_cmp) new (before ++ taken_name b o)
    → Knows (slice_cmp nat_cmp) new (before ++ taken_name c o)
states_taken new before b c o same h = subst (λ (d : Bool). Knows (slice_cmp nat_cmp) new (before ++ taken_name d o)) same h

-- ---- what a call ensures, where it found memory

pub on_ok : {X E A B : Type 0} (r : Result X E) → (A → B) → OnOk r A → OnOk r B
on_ok (Ok x) f a = f a
on_ok (Err e) f a = tt

pub both_ok : {X E A B C : Type 0} (r : Result X E) → (A → B → C) → OnOk r A → OnOk r B → OnOk r C
both_ok (Ok x) f a b = f a b
both_ok (Err e) f a b = tt
