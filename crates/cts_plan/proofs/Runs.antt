-- Statements read one by one are refused, or say a site, as the definition says.
use Rattle.std.proofs.Common.{◌≡◌, ℕ, ◌+◌, ◌<◌, ◌≤◌, List, [], ◌∷◌, ◌++◌, length, get_or, take, drop, Option, None, Result, Ok, Err, OnOk, refl, sym, ap, ◌∙◌, subst, add-one}
use Rattle.std.specs.Prelude.{IfOk}
use Rattle.std.specs.Result.{result_and}
use Rattle.std.proofs.lemmas.List.{take_more, take_all, drop_all}
use Rattle.std.proofs.Math.Seq.{drop-cons}
use Rattle.cts_def.specs.Sites.{SiteData, IsSoundSite}
use Rattle.cts_def.specs.Packets.{DefinitionsData}
use Rattle.cts_words.specs.declared.statement.Statement.{Statement}
use Rattle.cts_words.specs.Refusals.{first_refusal}
use Rattle.cts_words.proofs.Refused as refused
use Rattle.cts_words.proofs.Refused.{Decides}
use Rattle.cts_plan.specs.declared.draft.Draft.{Draft}
use Rattle.cts_plan.specs.declared.fault.SiteCause.{SiteCause}
use Rattle.cts_plan.specs.Standing.{start, closed}
use Rattle.cts_plan.specs.Completing.{Refused, due}
use Rattle.cts_plan.specs.SiteFiles.{step, later, after, refusal_in, refusal, at_end, site_in, site_of}
use Rattle.cts_plan.specs.Keeping.{KeepsRules}
use Rattle.cts_reader.specs.declared.fault.Fault.{Fault}
use Rattle.cts_reader.specs.declared.fault.Fault.TheVariants as fault
use Rattle.cts_reader.specs.Reading.{Fails, Gives, IsRefused, Settles, unless_refused}
use Rattle.cts_plan.proofs.Completed.{sound_completed}
use Rattle.cts_plan.proofs.Kept.{keeps_rules, at_start}

beyond_more : (s : Draft) (before : List Statement) (t : Statement) → later s (before ++ t ∷ []) ≡ step (later s before) t
beyond_more s [] t = refl
beyond_more s (r ∷ before) t = beyond_more (step s r) before t

pub after_more : (d : DefinitionsData) (before : List Statement) (t : Statement) → after d (before ++ t ∷ []) ≡ step (after d before) t
after_more d before t = beyond_more (start d) before t

-- what holds before each statement
pub record IsReading (d : DefinitionsData) (draft : Draft) (before rest all : List Statement) : Type 0 where
  pub stands : draft ≡ after d before
  pub kept : KeepsRules draft
  pub refused : Decides (refusal d) (at_end d) before rest all

-- the statement at i is the next one
at : (d : DefinitionsData) (draft : Draft) (all : List Statement) (i : ℕ) (s : Statement) → i < length all → s ≡ get_or all i s → IsReading d draft (take i all) (drop i all) all
    → IsReading d draft (take i all) (s ∷ drop (i + 1) all) all
at d draft all i s lt item so_far =
    let rest : drop i all ≡ s ∷ drop (i + 1) all = drop-cons all i s lt ∙ rw (add-one, ← item) refl in
    subst (λ (r : List Statement). IsReading d draft (take i all) r all) rest so_far

-- before the first statement
pub begins : (d : DefinitionsData) (draft : Draft) (all : List Statement) → draft ≡ start d → IsReading d draft (take 0 all) (drop 0 all) all
begins d draft all new = record { stands = new; kept = subst KeepsRules (sym new) (at_start d); refused = record { same = refl } }

pub next : (d : DefinitionsData) (old new : Draft) (all : List Statement) (i : ℕ) (s : Statement) → i < length all → s ≡ get_or all i s → IsReading d old (take i all) (drop i all) all
    → refusal_in old s ≡ None → new ≡ step old s → IsReading d new (take (i + 1) all) (drop (i + 1) all) all
next d old new all i s lt item so_far none stepped =
    let front : take i all ++ s ∷ [] ≡ take (i + 1) all = ap (λ (x : Statement). take i all ++ x ∷ []) item ∙ sym (take_more all i s lt) in
    let here = at d old all i s lt item so_far in
    let reading : IsReading d new (take i all ++ s ∷ []) (drop (i + 1) all) all = record {
      stands = stepped ∙ ap (λ (x : Draft). step x s) so_far.stands ∙ sym (after_more d (take i all) s);
      kept = subst KeepsRules (sym stepped) (keeps_rules old s so_far.kept none);
      refused = refused.goes_on (refusal d) (at_end d) (take i all) (drop (i + 1) all) all s (ap (λ (x : Draft). refusal_in x s) (sym so_far.stands) ∙ none) here.refused;
    } in
    subst (λ (b : List Statement). IsReading d new b (drop (i + 1) all) all) front reading

-- after the last statement
pub all_read : (d : DefinitionsData) (draft : Draft) (all : List Statement) (i : ℕ) → length all ≤ i → IsReading d draft (take i all) (drop i all) all → IsReading d draft all [] all
all_read d draft all i enough so_far =
    subst (λ (r : List Statement). IsReading d draft all r all) (drop_all i all enough)
    (subst (λ (b : List Statement). IsReading d draft b (drop i all) all) (take_all i all enough) so_far)

pub refused_at_end : (d : DefinitionsData) (draft : Draft) (all : List Statement) → IsReading d draft all [] all → due draft ≡ first_refusal (refusal d) (at_end d) [] all
refused_at_end d draft all so_far = sym (refused.ends (refusal d) (at_end d) all so_far.refused ∙ ap due (sym so_far.stands))

-- what stands once the last interface or router is complete
pub site_stands : {X E : Type 0} (d : DefinitionsData) (draft new : Draft) (all : List Statement) (r : Result X E) → IsReading d draft all [] all → OnOk r (new ≡ closed draft) → OnOk r (new.site ≡ site_in (after d all))
site_stands d draft new all (Ok x) so_far done = ap (λ (s : Draft). s.site) done ∙ ap site_in so_far.stands
site_stands d draft new all (Err e) so_far done = tt

pub site_sound : {X : Type 0} (d : DefinitionsData) (draft new : Draft) (all : List Statement) (r : Result X (Fault SiteCause)) → IsReading d draft all [] all → Settles r (due draft) → OnOk r (new ≡ closed draft)
    → OnOk r (IsSoundSite new.site)
site_sound d draft new all (Ok x) so_far none done =
    subst (λ (s : Draft). IsSoundSite s.site) (sym done) (sound_completed draft.site draft.current so_far.kept.site so_far.kept.current none)
site_sound d draft new all (Err e) so_far none done = tt

-- ---- what is answered

fails : (said : SiteData) (e : Fault SiteCause) (o : Option Refused) → IsRefused e o → Fails e (unless_refused said o)
fails said fault.Memory o h = tt
fails said (fault.Refused line cause) o h = ap (unless_refused said) h

gives : (d : DefinitionsData) (all : List Statement) (site : SiteData) (read : Result Unit (Fault SiteCause)) → Settles read (first_refusal (refusal d) (at_end d) [] all) → OnOk read (site ≡ site_in (after d all))
    → Gives (result_and read (Ok site)) (site_of d all)
gives d all site (Ok u) none said = ap (unless_refused (site_in (after d all))) none ∙ ap Ok (sym said)
gives d all site (Err e) some said = fails (site_in (after d all)) e (first_refusal (refusal d) (at_end d) [] all) some

pub site_given : (d : DefinitionsData) (all : List Statement) (site : SiteData) (read : Result Unit (Fault SiteCause)) (given : Result SiteData (Fault SiteCause)) → given ≡ result_and read (Ok site)
    → Settles read (first_refusal (refusal d) (at_end d) [] all) → OnOk read (site ≡ site_in (after d all)) → Gives given (site_of d all)
site_given d all site read given is settled said = subst (λ (r : Result SiteData (Fault SiteCause)). Gives r (site_of d all)) (sym is) (gives d all site read settled said)

sound : (site : SiteData) (read : Result Unit (Fault SiteCause)) → OnOk read (IsSoundSite site) → IfOk (result_and read (Ok site)) (λ s. IsSoundSite s)
sound site (Ok u) h = h
sound site (Err e) h = tt

pub given_sound : (site : SiteData) (read : Result Unit (Fault SiteCause)) (given : Result SiteData (Fault SiteCause)) → given ≡ result_and read (Ok site) → OnOk read (IsSoundSite site) → IfOk given (λ s. IsSoundSite s)
given_sound site read given is h = subst (λ (r : Result SiteData (Fault SiteCause)). IfOk r (λ s. IsSoundSite s)) (sym is) (sound site read h)
