-- A site of statements keeps the rules of sites.
use Rattle.std.proofs.Common.{◌≡◌, List, [], ◌∷◌, ◌++◌, Option, Some, None, Ok, refl, sym, subst}
use Rattle.cts_def.specs.Packets.{DefinitionsData}
use Rattle.cts_def.specs.Sites.{SiteData, IsSoundSite}
use Rattle.cts_words.specs.declared.statement.Statement.{Statement}
use Rattle.cts_words.specs.Refusals.{first_refusal}
use Rattle.cts_reader.specs.Reading.{unless_refused}
use Rattle.cts_plan.specs.Completing.{Refused}
use Rattle.cts_plan.specs.SiteFiles.{after, refusal, at_end, site_in}
use Rattle.cts_plan.specs.Keeping.{KeepsRules}
use Rattle.cts_plan.proofs.Completed.{sound_completed}
use Rattle.cts_plan.proofs.Kept.{keeps_rules, at_start}
use Rattle.cts_plan.proofs.Runs.{after_more}
use Rattle.cts_plan_laws.specs.SiteLaws.{SitesAreSound}
use Rattle.cts_plan_laws.proofs.FirstRefused.{through}

one_more : (d : DefinitionsData) (before : List Statement) (s : Statement) → KeepsRules (after d before) → refusal d before s ≡ None → KeepsRules (after d (before ++ s ∷ []))
one_more d before s so_far none = subst KeepsRules (sym (after_more d before s)) (keeps_rules (after d before) s so_far none)

all_sound : (d : DefinitionsData) (all : List Statement) → first_refusal (refusal d) (at_end d) [] all ≡ None → IsSoundSite (site_in (after d all))
all_sound d all e =
    let kept = through (λ (b : List Statement). KeepsRules (after d b)) d (one_more d) [] all (at_start d) e in
    sound_completed (after d all).site (after d all).current kept.0.site kept.0.current kept.1

answers_sound : (d : DefinitionsData) (all : List Statement) (s : SiteData) (o : Option Refused) → first_refusal (refusal d) (at_end d) [] all ≡ o → unless_refused (site_in (after d all)) o ≡ Ok s → IsSoundSite s
answers_sound d all s None e said = let same : site_in (after d all) ≡ s = cc in subst IsSoundSite same (all_sound d all e)
answers_sound d all s (Some r) e said = absurd cc

pub sites_are_sound : SitesAreSound
sites_are_sound d all s e = answers_sound d all s (first_refusal (refusal d) (at_end d) [] all) refl e
