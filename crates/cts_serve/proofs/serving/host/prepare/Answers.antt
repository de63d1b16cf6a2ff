use Rattle.std.proofs.Common.{◌≡◌, ◌∷◌, [], refl}
use Rattle.std.specs.Arc.{arc_value}
use Rattle.cts_run.specs.Start.{shelf_phase}
use Rattle.cts_run.proofs.CommandLemmas.{unloaded_shelf}
use Rattle.cts_serve.proofs.HostLemmas.{plan_boxes, plan_counts, plan_finds, unloaded_finds}
use Rattle.cts_serve.proofs.serving.host.prepare.Goals as goal

pub returns-in-Ok-clause-counts : goal.returns-in-Ok-clause-counts
returns-in-Ok-clause-counts g c =
    plan_counts c.plan_of.result (shelf_phase (g.B.Stocked.stock c.args.shelf.now) c.in-Ok.site ∷ [])
    (λ plan. (arc_value plan.site ≡ c.in-Ok.site) × (plan.digest ≡ c.in-Ok.digest)) _ _ c.plan_of.ensures.gives c.in-Ok.ensures.counts

pub returns-in-Ok-clause-finds : goal.returns-in-Ok-clause-finds
returns-in-Ok-clause-finds g c =
    plan_finds (g.B.Stocked.stock c.args.shelf.now) c.args.definitions.now c.args.site.now c.plan_of.result (λ plan. arc_value plan.site)
    (λ plan. plan.digest) ((g.F.Files.seen c.args.files.now).told) (c.in-Ok.site, c.in-Ok.digest) c.in-Ok.ensures.content c.plan_of.ensures.gives

pub returns-in-Ok-clause-boxes : goal.returns-in-Ok-clause-boxes
returns-in-Ok-clause-boxes g c =
    plan_boxes c.plan_of.result (g.B.Stocked.stock c.args.shelf.now) _ c.args.definitions.now c.args.site.now ((g.F.Files.seen c.args.files.now).told)
    (c.in-Ok.site, c.in-Ok.digest) (λ plan. (arc_value plan.site ≡ c.in-Ok.site) × (plan.digest ≡ c.in-Ok.digest)) c.in-Ok.ensures.content
    c.plan_of.ensures.gives c.plan_of.ensures.taken
    c.plan_of.ensures.kept

pub returns-in-Err-clause-finds : goal.returns-in-Err-clause-finds
returns-in-Err-clause-finds g c = unloaded_finds (g.B.Stocked.stock c.args.shelf.now) c.args.definitions.now c.args.site.now
    ((g.F.Files.seen c.args.files.now).told) c.in-Err.halt c.in-Err.ensures.content

pub returns-in-Err-clause-boxes : goal.returns-in-Err-clause-boxes
returns-in-Err-clause-boxes g c = unloaded_shelf _ _ c.args.definitions.now c.args.site.now _ c.in-Err.halt c.in-Err.ensures.content refl
