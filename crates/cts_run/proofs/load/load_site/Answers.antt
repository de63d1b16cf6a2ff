use Rattle.cts_run.proofs.LoadLemmas.{definitions_fail, site_fails, site_taken}
use Rattle.cts_run.proofs.PhaseLemmas.{load_after}
use Rattle.cts_run.proofs.load.load_site.Goals as goal

pub returns-in-Err-clause-content : goal.returns-in-Err-clause-content
returns-in-Err-clause-content g c = definitions_fail _ c.args.definitions.now c.args.site.now c.in-Err.halt c.in-Err.ensures.content

pub returns-in-Ok-load_plan-clause-content : goal.returns-in-Ok-load_plan-clause-content
returns-in-Ok-load_plan-clause-content g c =
    site_taken _ _ c.args.definitions.now c.args.site.now c.in-Ok.found c.in-Ok.digest c.in-Ok-load_plan.plan c.load_definitions.ensures.stays c.in-Ok.ensures.content c.in-Ok-load_plan.ensures.content

pub returns-in-Err-load_plan-clause-content : goal.returns-in-Err-load_plan-clause-content
returns-in-Err-load_plan-clause-content g c =
    site_fails _ _ c.args.definitions.now c.args.site.now c.in-Ok.found c.in-Ok.digest c.in-Err-load_plan.halt c.load_definitions.ensures.stays c.in-Ok.ensures.content c.in-Err-load_plan.ensures.content

pub returns-in-Err-load_plan-clause-counts : goal.returns-in-Err-load_plan-clause-counts
returns-in-Err-load_plan-clause-counts g c = load_after c.in-Err-load_plan.halt _ _ _ c.in-Ok.ensures.counts c.in-Err-load_plan.ensures.counts
