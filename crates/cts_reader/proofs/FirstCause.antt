-- The first cause that holds is told.
use Rattle.std.proofs.Common.{◌≡◌, Bool, true, false, cond, List, [], ◌∷◌, ◌++◌, Some, None, refl, sym, ap, ◌∙◌}
use Rattle.std.specs.Prelude.{find}
use Rattle.std.specs.List.{AllByRecursion}
use Rattle.cts_words.proofs.Finds.{none_passes}
use Rattle.cts_reader.specs.Laws.{HoldsFirst, TheFirstCauseIsTold, NoneIsToldWhereNoneHolds}

module _ {C : Type 0} (holds : C → Bool) where
  more_before : (x : C) (xs : List C) (c : C) → holds x ≡ false → HoldsFirst holds xs c → HoldsFirst holds (x ∷ xs) c
  more_before x xs c e h = record {
    before = x ∷ h.before;
    after = h.after;
    parts = ap (λ (ys : List C). x ∷ ys) h.parts;
    none = (e, h.none);
    here = h.here;
  }

  at_first : (x : C) (xs : List C) (c : C) → holds x ≡ true → x ≡ c → HoldsFirst holds (x ∷ xs) c
  at_first x xs c e same = record {
    before = [];
    after = xs;
    parts = ap (λ (y : C). y ∷ xs) same;
    none = tt;
    here = ap holds (sym same) ∙ e;
  }

  told_step : (b : Bool) (x : C) (xs : List C) (c : C) → holds x ≡ b → (find holds xs ≡ Some c → HoldsFirst holds xs c) → cond b (Some x) (find holds xs) ≡ Some c → HoldsFirst holds (x ∷ xs) c
  told_step true x xs c e more found = let same : x ≡ c = cc in at_first x xs c e same
  told_step false x xs c e more found = more_before x xs c e (more found)

  told_holds : (order : List C) (c : C) → find holds order ≡ Some c → HoldsFirst holds order c
  told_holds [] c found = absurd cc
  told_holds (x ∷ xs) c found = told_step (holds x) x xs c refl (told_holds xs c) found

  skipped : (before after : List C) (c : C) → AllByRecursion (λ b. holds b ≡ false) before → holds c ≡ true → find holds (before ++ c ∷ after) ≡ Some c
  skipped [] after c none here = ap (λ (b : Bool). cond b (Some c) (find holds after)) here
  skipped (x ∷ before) after c none here = ap (λ (b : Bool). cond b (Some x) (find holds (before ++ c ∷ after))) none.0 ∙ skipped before after c none.1 here

  none_found : (order : List C) → AllByRecursion (λ b. holds b ≡ false) order → find holds order ≡ None
  none_found [] none = refl
  none_found (x ∷ xs) none = ap (λ (b : Bool). cond b (Some x) (find holds xs)) none.0 ∙ none_found xs none.1

pub first_told : {C : Type 0} → TheFirstCauseIsTold C
first_told holds order c = (told_holds holds order c, λ h. ap (find holds) h.parts ∙ skipped holds h.before h.after c h.none h.here)

pub none_told : {C : Type 0} → NoneIsToldWhereNoneHolds C
none_told holds order = (none_passes holds order, none_found holds order)

-- ---- the search

-- what the rest of an order tells, the whole tells
abbrev pub TellsForAll : {C : Type 0} → (C → Bool → Type 0) → List C → List C → Type 0
TellsForAll {C} computes rest order = (holds : C → Bool) → ((c : C) (b : Bool) → computes c b → b ≡ holds c) → find holds rest ≡ find holds order
