-- Statements are refused at the first one that is refused, or at their end.
use Rattle.std.proofs.Common.{◌≡◌, ℕ, List, [], ◌++◌, ◌∷◌, Option, Some, None, Ok, Err, refl, sym, ap, ◌∙◌, inl, inr}
use Rattle.std.specs.List.{filter_map}
use Rattle.std.proofs.lemmas.List.Elements.{filter_map-append}
use Rattle.cts_words.specs.declared.statement.Statement.{Statement}
use Rattle.cts_words.specs.Refusals.{Refusal, first_refusal, NoneRefused, IsRefusedFirst, IsFirstRefusal}
use Rattle.cts_words.proofs.Refused.{first_one_is_refused}
use Rattle.cts_reader.specs.declared.fault.Fault.{Fault}
use Rattle.cts_reader.specs.declared.fault.Fault.TheVariants as fault
use Rattle.cts_reader.specs.Laws.{RefusesTheFirst, TakesTheOthers}
use Rattle.cts_reader.specs.Reading.{at_line, IsRefused, Fails, Reads, unless_refused, said_of}

refused_to : {C X : Type 0} (said : X) (o : Option (Refusal C)) (r : Refusal C) → unless_refused said o ≡ Err r → o ≡ Some r
refused_to said None r e = absurd cc
refused_to said (Some q) r e = let same : q ≡ r = cc in ap Some same

pub refuses_the_first : {C X : Type 0} → RefusesTheFirst C X
refuses_the_first at end says all r =
    let law = first_one_is_refused at end all (Some r) in (
      λ e. law.0 (refused_to (says all) (first_refusal at end [] all) r e),
      λ w. ap (unless_refused (says all)) (law.1 w),
    )

pub takes_the_others : {C X : Type 0} → TakesTheOthers C X
takes_the_others at end says all none ends = ap (unless_refused (says all)) ((first_one_is_refused at end all None).1 (none, ends))

taken_as : {C X : Type 0} (said x : X) (o : Option (Refusal C)) → unless_refused said o ≡ Ok x → said ≡ x
taken_as said x None e = cc
taken_as said x (Some r) e = absurd cc

-- what is said where nothing is refused is what all say
pub taken : {C X : Type 0} (at : List Statement → Statement → Option (Refusal C)) (end : List Statement → Option (Refusal C)) (says : List Statement → X) (all : List Statement) (x : X)
    → said_of at end says all ≡ Ok x → says all ≡ x
taken at end says all x e = taken_as (says all) x (first_refusal at end [] all) e

-- Where the end is never refused, one of the statements is.
pub never_at_end : {C : Type 0} (at : List Statement → Statement → Option (Refusal C)) (end : List Statement → Option (Refusal C)) (all : List Statement) (r : Refusal C)
    → end all ≡ None → IsFirstRefusal at end all (Some r) → IsRefusedFirst at all r
never_at_end at end all r e (inl w) = w
never_at_end at end all r e (inr h) = absurd (let never : None ≡ Some r = sym e ∙ h.1 in cc)

-- ---- what a pass over the statements answers

-- one that ends at a refusal
pub fails : {C X : Type 0} (at : List Statement → Statement → Option (Refusal C)) (end : List Statement → Option (Refusal C)) (says : List Statement → X) (stands : List Statement → Type 0) (all : List Statement)
    (e : Fault C) → Reads at stands all (Err e) → Fails e (said_of at end says all)
fails at end says stands all fault.Memory h = tt
fails at end says stands all (fault.Refused line cause) h = (refuses_the_first at end says all (line, cause)).1 (inl h)

-- one that is refused at the end of all
pub ends : {C X : Type 0} (at : List Statement → Statement → Option (Refusal C)) (end : List Statement → Option (Refusal C)) (says : List Statement → X) (all : List Statement)
    (e : Fault C) → NoneRefused at all → IsRefused e (end all) → Fails e (said_of at end says all)
ends at end says all fault.Memory none h = tt
ends at end says all (fault.Refused line cause) none h = (refuses_the_first at end says all (line, cause)).1 (inr (none, h))

-- ---- what each says

pub said-more : {L : Type 0} (say : Statement → Option L) (before : List Statement) (s : Statement) (l : L) → say s ≡ Some l → filter_map say (before ++ s ∷ []) ≡ filter_map say before ++ l ∷ []
said-more {L = L} say before s l e =
    let one : filter_map say (s ∷ []) ≡ l ∷ [] = rw e refl in
    filter_map-append say before (s ∷ []) ∙ ap (λ (ls : List L). filter_map say before ++ ls) one

pub no_cause : {C : Type 0} (line : ℕ) (o : Option C) → at_line line o ≡ None → o ≡ None
no_cause line None e = refl
no_cause line (Some c) e = absurd cc
