use Rattle.std.proofs.Common.{refl}
use Rattle.cts_run.proofs.LoadLemmas.{first_fails, pair_taken, twice_fails}
use Rattle.cts_run.proofs.PhaseLemmas.{load_after}
use Rattle.cts_run.proofs.load.load_pair.Goals as goal

pub returns-in-Err-clause-content : goal.returns-in-Err-clause-content
returns-in-Err-clause-content g c = twice_fails _ c.args.definitions.now c.args.site.now c.args.other.now c.in-Err.halt c.in-Err.ensures.content

pub returns-in-Err-load_plan-clause-content : goal.returns-in-Err-load_plan-clause-content
returns-in-Err-load_plan-clause-content g c =
    first_fails _ _ _ c.args.definitions.now c.args.site.now c.args.other.now (c.in-Ok.first, c.in-Ok.second) c.load_definitions_twice.ensures.stays refl c.in-Ok.ensures.content c.in-Err-load_plan.halt c.in-Err-load_plan.ensures.content

pub returns-in-Err-load_plan-clause-counts : goal.returns-in-Err-load_plan-clause-counts
returns-in-Err-load_plan-clause-counts g c = load_after c.in-Err-load_plan.halt _ _ _ c.in-Ok.ensures.counts c.in-Err-load_plan.ensures.counts

pub returns-in-Ok-load_plan-2-clause-content : goal.returns-in-Ok-load_plan-2-clause-content
returns-in-Ok-load_plan-2-clause-content g c =
    pair_taken _ _ _ c.args.definitions.now c.args.site.now c.args.other.now (c.in-Ok.first, c.in-Ok.second) c.load_definitions_twice.ensures.stays c.load_plan.ensures.stays c.in-Ok.ensures.content c.in-Ok-load_plan.one c.in-Ok-load_plan.ensures.content
    c.in-Ok-load_plan-2.two c.in-Ok-load_plan-2.ensures.content
