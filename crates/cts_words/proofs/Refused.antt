-- Statements judged one by one are refused as the definition says.
use Rattle.std.proofs.Common.{◌≡◌, ◌⊎◌, List, [], ◌∷◌, ◌++◌, Option, Some, None, refl, sym, ap, subst, ◌∙◌, inl, inr, append_assoc}
use Rattle.std.proofs.lemmas.List.{append-nil}
use Rattle.cts_words.specs.declared.statement.Statement.{Statement}
use Rattle.cts_words.specs.Refusals.{Refusal, or_else, first_refusal, NoneRefused, IsRefusedFirst, IsFirstRefusal, FirstOneIsRefused}

-- what is left decides for all
pub record Decides {C : Type 0} (at : List Statement → Statement → Option (Refusal C)) (end : List Statement → Option (Refusal C)) (before rest all : List Statement) : Type 0 where
  pub same : first_refusal at end before rest ≡ first_refusal at end [] all

pub goes_on : {C : Type 0} (at : List Statement → Statement → Option (Refusal C)) (end : List Statement → Option (Refusal C)) (before rest all : List Statement) (s : Statement)
    → at before s ≡ None → Decides at end before (s ∷ rest) all → Decides at end (before ++ s ∷ []) rest all
goes_on at end before rest all s none so_far = record {
  same = ap (λ o. or_else o (first_refusal at end (before ++ s ∷ []) rest)) (sym none) ∙ so_far.same;
}

pub stops : {C : Type 0} (at : List Statement → Statement → Option (Refusal C)) (end : List Statement → Option (Refusal C)) (before rest all : List Statement) (s : Statement) (r : Refusal C)
    → at before s ≡ Some r → Decides at end before (s ∷ rest) all → first_refusal at end [] all ≡ Some r
stops at end before rest all s r some so_far = sym so_far.same ∙ ap (λ o. or_else o (first_refusal at end (before ++ s ∷ []) rest)) some

pub ends : {C : Type 0} (at : List Statement → Statement → Option (Refusal C)) (end : List Statement → Option (Refusal C)) (all : List Statement)
    → Decides at end all [] all → first_refusal at end [] all ≡ end all
ends at end all so_far = sym so_far.same

-- ---- the first one, of all statements at once

no_split : (front : List Statement) (s : Statement) (rest : List Statement) → [] ≡ front ++ s ∷ rest → ⊥
no_split [] s rest e = cc
no_split (f ∷ front) s rest e = cc

module _ {C : Type 0} (at : List Statement → Statement → Option (Refusal C)) (end : List Statement → Option (Refusal C)) where
  -- what is refused after some statements
  abbrev later : List Statement → List Statement → Statement → Option (Refusal C)
  later before front s = at (before ++ front) s

  first_passes : (before : List Statement) (s : Statement) (rest : List Statement) → NoneRefused (later before) (s ∷ rest) → at before s ≡ None
  first_passes before s rest none = ap (λ (b : List Statement). at b s) (sym (append-nil before)) ∙ none [] s rest refl

  others_pass : (before : List Statement) (s : Statement) (rest : List Statement) → NoneRefused (later before) (s ∷ rest) → NoneRefused (later (before ++ s ∷ [])) rest
  others_pass before s rest none front t after e =
      ap (λ (b : List Statement). at b t) (append_assoc before (s ∷ []) front) ∙ none (s ∷ front) t after (ap (λ (ss : List Statement). s ∷ ss) e)

  passed : (before : List Statement) (s : Statement) (rest : List Statement) → at before s ≡ None → first_refusal at end before (s ∷ rest) ≡ first_refusal at end (before ++ s ∷ []) rest
  passed before s rest none = ap (λ o. or_else o (first_refusal at end (before ++ s ∷ []) rest)) none

  end_decides : (before all : List Statement) → NoneRefused (later before) all → first_refusal at end before all ≡ end (before ++ all)
  end_decides before [] none = ap end (sym (append-nil before))
  end_decides before (s ∷ rest) none =
      passed before s rest (first_passes before s rest none)
      ∙ end_decides (before ++ s ∷ []) rest (others_pass before s rest none)
      ∙ ap end (append_assoc before (s ∷ []) rest)

  one_decides : (before front : List Statement) (s : Statement) (rest : List Statement) (r : Refusal C) → NoneRefused (later before) front → at (before ++ front) s ≡ Some r
      → first_refusal at end before (front ++ s ∷ rest) ≡ Some r
  one_decides before [] s rest r none some =
      ap (λ o. or_else o (first_refusal at end (before ++ s ∷ []) rest)) (ap (λ (b : List Statement). at b s) (sym (append-nil before)) ∙ some)
  one_decides before (f ∷ front) s rest r none some =
      passed before f (front ++ s ∷ rest) (first_passes before f front none)
      ∙ one_decides (before ++ f ∷ []) front s rest r (others_pass before f front none) (ap (λ (b : List Statement). at b s) (append_assoc before (f ∷ []) front) ∙ some)

  -- the first one that is refused, or none
  abbrev Judged : List Statement → List Statement → Type 0
  Judged before all = ((r : Refusal C) × IsRefusedFirst (later before) all r) ⊎ NoneRefused (later before) all

  none_more : (before : List Statement) (s : Statement) (rest : List Statement) → at before s ≡ None → NoneRefused (later (before ++ s ∷ [])) rest → NoneRefused (later before) (s ∷ rest)
  none_more before s rest none others [] t after e =
      let same : s ≡ t = cc in
      ap (λ (b : List Statement). at b t) (append-nil before) ∙ subst (λ (u : Statement). at before u ≡ None) same none
  none_more before s rest none others (f ∷ front) t after e =
      let same : s ≡ f = cc in
      let tail : rest ≡ front ++ t ∷ after = cc in
      ap (λ (u : Statement). at (before ++ u ∷ front) t) (sym same) ∙ ap (λ (b : List Statement). at b t) (sym (append_assoc before (s ∷ []) front)) ∙ others front t after tail

  judge_more : (before : List Statement) (s : Statement) (rest : List Statement) → at before s ≡ None → Judged (before ++ s ∷ []) rest → Judged before (s ∷ rest)
  judge_more before s rest none (inl (r, w)) = inl (
    r,
    record {
      front = s ∷ w.front;
      here = w.here;
      rest = w.rest;
      parts = ap (λ (ss : List Statement). s ∷ ss) w.parts;
      none = none_more before s w.front none w.none;
      refused = ap (λ (b : List Statement). at b w.here) (sym (append_assoc before (s ∷ []) w.front)) ∙ w.refused;
    },
  )
  judge_more before s rest none (inr others) = inr (none_more before s rest none others)

  judge_first : (before : List Statement) (s : Statement) (rest : List Statement) (o : Option (Refusal C)) → at before s ≡ o → (at before s ≡ None → Judged before (s ∷ rest)) → Judged before (s ∷ rest)
  judge_first before s rest None e others = others e
  judge_first before s rest (Some r) e others = inl (
    r,
    record {
      front = [];
      here = s;
      rest = rest;
      parts = refl;
      none = λ front t after split. absurd (no_split front t after split);
      refused = ap (λ (b : List Statement). at b s) (append-nil before) ∙ e;
    },
  )

  judged : (before all : List Statement) → Judged before all
  judged before [] = inr (λ front s rest e. absurd (no_split front s rest e))
  judged before (s ∷ rest) = judge_first before s rest (at before s) refl (λ none. judge_more before s rest none (judged (before ++ s ∷ []) rest))

  by_end : (all : List Statement) (o : Option (Refusal C)) → NoneRefused at all → end all ≡ o → IsFirstRefusal at end all o
  by_end all None none e = (none, e)
  by_end all (Some r) none e = inr (none, e)

  is_first : (all : List Statement) (o : Option (Refusal C)) → Judged [] all → first_refusal at end [] all ≡ o → IsFirstRefusal at end all o
  is_first all o (inl (r, w)) e =
      let here : first_refusal at end [] all ≡ Some r = ap (first_refusal at end []) w.parts ∙ one_decides [] w.front w.here w.rest r w.none w.refused in
      let P : Option (Refusal C) → Type 0 = IsFirstRefusal at end all in
      subst P (sym here ∙ e) (inl w)
  is_first all o (inr none) e = by_end all o none (sym (end_decides [] all none) ∙ e)

  first_is : (all : List Statement) (o : Option (Refusal C)) → IsFirstRefusal at end all o → first_refusal at end [] all ≡ o
  first_is all None h = end_decides [] all h.0 ∙ h.1
  first_is all (Some r) (inl w) = ap (first_refusal at end []) w.parts ∙ one_decides [] w.front w.here w.rest r w.none w.refused
  first_is all (Some r) (inr h) = end_decides [] all h.0 ∙ h.1

pub first_one_is_refused : {C : Type 0} → FirstOneIsRefused C
first_one_is_refused at end all o = (is_first at end all o (judged at end [] all), first_is at end all o)
