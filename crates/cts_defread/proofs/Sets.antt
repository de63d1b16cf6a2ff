-- One more line names at most one more limits set.
use Rattle.std.proofs.Common.{◌≡◌, ℕ, Bool, true, false, not, cond, ◌||◌, List, [], ◌∷◌, ◌++◌, Option, None, refl, sym, ap, ◌∙◌}
use Rattle.std.proofs.lemmas.List.{append-nil}
use Rattle.std.proofs.lemmas.List.Elements.{filter_map-append, filter-append}
use Rattle.std.proofs.lemmas.Cmp.{nat_list_eq_equiv}
use Rattle.std.specs.List.{filter, filter_map, list_any, cons_option}
use Rattle.cts_def.specs.Items.{is_same}
use Rattle.cts_def.specs.Packets.{default_set}
use Rattle.cts_defstatement.specs.declared.details.Detail.TheVariants as detail
use Rattle.cts_defstatement.specs.declared.line.Line.{Line}
use Rattle.cts_defstatement.specs.declared.line.Line.TheVariants as line
use Rattle.cts_defread.specs.Standing.{set_in, is_other, firsts, set_names_of}
use Rattle.cts_defread.specs.Steps.{add_set, place_set}

-- ---- texts that are the same

turned : (x y : List ℕ) → is_same x y ≡ is_same y x
turned x y = nat_list_eq_equiv.symm x y

-- A text that is the same as x, and not as y, is kept where those like y are left out.
kept_by_others : (x y z : List ℕ) (b c : Bool) → is_same x y ≡ false → is_same x z ≡ b → is_same y z ≡ c → b ≡ true → c ≡ true → false ≡ true
kept_by_others x y z b c apart bs cs bt ct =
    let xz : is_same x z ≡ true = bs ∙ bt in
    let zy : is_same z y ≡ true = turned z y ∙ cs ∙ ct in
    sym apart ∙ nat_list_eq_equiv.congr x z y xz ∙ zy

filtered_step : (b c : Bool) (rest : Bool) → (b ≡ true → c ≡ true → false ≡ true) → b || rest ≡ cond (not c) (b || rest) rest
filtered_step true true rest h = let e : false ≡ true = h refl refl in absurd cc
filtered_step true false rest h = refl
filtered_step false true rest h = refl
filtered_step false false rest h = refl

any_cond : (p : List ℕ → Bool) (b : Bool) (z : List ℕ) (zs : List (List ℕ)) → list_any p (cond b (z ∷ zs) zs) ≡ cond b (p z || list_any p zs) (list_any p zs)
any_cond p true z zs = refl
any_cond p false z zs = refl

-- Leaving out those like y hides none like x.
any_among_others : (x y : List ℕ) → is_same x y ≡ false → (zs : List (List ℕ)) → list_any (is_same x) (filter (is_other y) zs) ≡ list_any (is_same x) zs
any_among_others x y apart [] = refl
any_among_others x y apart (z ∷ zs) =
    any_cond (is_same x) (is_other y z) z (filter (is_other y) zs)
    ∙ ap (λ (r : Bool). cond (not (is_same y z)) (is_same x z || r) r) (any_among_others x y apart zs)
    ∙ sym (filtered_step (is_same x z) (is_same y z) (list_any (is_same x) zs) (kept_by_others x y z (is_same x z) (is_same y z) apart refl refl))

-- ---- the first of each

filter_cond : (p : List ℕ → Bool) (b : Bool) (xs : List (List ℕ)) (x : List ℕ) → filter p (cond b xs (xs ++ x ∷ [])) ≡ cond b (filter p xs) (filter p xs ++ cond (p x) (x ∷ []) [])
filter_cond p true xs x = refl
filter_cond p false xs x = filter-append p xs (x ∷ [])

begin_cond : (y : List ℕ) (b : Bool) (xs ys : List (List ℕ)) → y ∷ cond b xs ys ≡ cond b (y ∷ xs) (y ∷ ys)
begin_cond y true xs ys = refl
begin_cond y false xs ys = refl

both_same : (b : Bool) (xs : List (List ℕ)) → cond b xs (xs ++ []) ≡ xs
both_same true xs = refl
both_same false xs = append-nil xs

-- x is like y, or it is not
more_after : (x y : List ℕ) (fs : List (List ℕ)) (b : Bool) → is_same x y ≡ b → y ∷ filter (is_other y) (add_set x fs) ≡ add_set x (y ∷ filter (is_other y) fs)
more_after x y fs true e =
    let here : is_same y x ≡ true = turned y x ∙ e in
    ap (λ zs. y ∷ zs)
    (filter_cond (is_other y) (list_any (is_same x) fs) fs x
    ∙ ap (λ (c : Bool). cond (list_any (is_same x) fs) (filter (is_other y) fs) (filter (is_other y) fs ++ cond (not c) (x ∷ []) [])) here
    ∙ both_same (list_any (is_same x) fs) (filter (is_other y) fs))
    ∙ sym (ap (λ (c : Bool). cond (c || list_any (is_same x) (filter (is_other y) fs)) (y ∷ filter (is_other y) fs) (y ∷ filter (is_other y) fs ++ x ∷ [])) e)
more_after x y fs false e =
    let here : is_same y x ≡ false = turned y x ∙ e in
    ap (λ zs. y ∷ zs)
    (filter_cond (is_other y) (list_any (is_same x) fs) fs x
    ∙ ap (λ (c : Bool). cond (list_any (is_same x) fs) (filter (is_other y) fs) (filter (is_other y) fs ++ cond (not c) (x ∷ []) [])) here)
    ∙ begin_cond y (list_any (is_same x) fs) (filter (is_other y) fs) (filter (is_other y) fs ++ x ∷ [])
    ∙ sym
    (ap (λ (c : Bool). cond (c || list_any (is_same x) (filter (is_other y) fs)) (y ∷ filter (is_other y) fs) (y ∷ filter (is_other y) fs ++ x ∷ [])) e
    ∙ ap (λ (c : Bool). cond c (y ∷ filter (is_other y) fs) (y ∷ filter (is_other y) fs ++ x ∷ [])) (any_among_others x y e fs))

firsts_more : (xs : List (List ℕ)) (x : List ℕ) → firsts (xs ++ x ∷ []) ≡ add_set x (firsts xs)
firsts_more [] x = refl
firsts_more (y ∷ xs) x = ap (λ zs. y ∷ filter (is_other y) zs) (firsts_more xs x) ∙ more_after x y (firsts xs) (is_same x y) refl

-- ---- lines

no_set : (ls : List Line) (l : Line) → set_in l ≡ None → set_names_of (ls ++ l ∷ []) ≡ set_names_of ls
no_set ls l none = ap (λ (names : List (List ℕ)). firsts (default_set ∷ names)) (filter_map-append set_in ls (l ∷ []) ∙ ap (λ (o : Option (List ℕ)). filter_map set_in ls ++ cons_option o []) none ∙ append-nil (filter_map set_in ls))

pub set_names-more : (ls : List Line) (l : Line) → set_names_of (ls ++ l ∷ []) ≡ place_set l (set_names_of ls)
set_names-more ls (line.Packet head) = no_set ls (line.Packet head) refl
set_names-more ls (line.Item head) = no_set ls (line.Item head) refl
set_names-more ls (line.Detail (detail.State s)) = no_set ls (line.Detail (detail.State s)) refl
set_names-more ls (line.Detail (detail.Limits l)) = ap (λ (names : List (List ℕ)). firsts (default_set ∷ names)) (filter_map-append set_in ls (line.Detail (detail.Limits l) ∷ [])) ∙ firsts_more (default_set ∷ filter_map set_in ls) l.set
set_names-more ls (line.Detail (detail.Poly coefficients)) = no_set ls (line.Detail (detail.Poly coefficients)) refl
set_names-more ls (line.Detail (detail.Segment s)) = no_set ls (line.Detail (detail.Segment s)) refl
set_names-more ls (line.Detail (detail.Units full short)) = no_set ls (line.Detail (detail.Units full short)) refl
set_names-more ls (line.Detail (detail.Format text)) = no_set ls (line.Detail (detail.Format text)) refl
set_names-more ls (line.Detail (detail.Overflow o)) = no_set ls (line.Detail (detail.Overflow o)) refl
set_names-more ls (line.Detail detail.Required) = no_set ls (line.Detail detail.Required) refl
set_names-more ls line.Hazardous = no_set ls line.Hazardous refl
set_names-more ls line.NoEffect = no_set ls line.NoEffect refl
