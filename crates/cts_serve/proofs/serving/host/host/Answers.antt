use Rattle.std.proofs.Common.{ℕ, List, Some, refl, sym, subst, inl}
use Rattle.std.specs.Arc.{arc_value}
use Rattle.cts_serve.specs.Serving.{IsPlanned, done_as}
use Rattle.cts_serve.proofs.HostLemmas.{boxes_late_told, halts_early, host_err, host_fits, host_halts, host_ok, host_ready, host_sink, host_unserved, if_ok_as}
use Rattle.cts_serve.proofs.HostLemmas.{load_fits, load_unserved, on_err_as, on_ok, phases_past, planned, some_plan, work_files, work_halts}
use Rattle.cts_run.proofs.PhaseLemmas.{load_counts, load_faults}
use Rattle.cts_serve.proofs.serving.host.host.Goals as goal

-- ---- the workers of the site were let work

pub returns-in-Ok-clause-files : goal.returns-in-Ok-clause-files
returns-in-Ok-clause-files g c =
    work_files c.answered.result _ _ _ _ (host_halts c.answered.result c.serve_site.result c.answered.ensures _ _ c.serve_site.ensures.ready)
    c.in-Ok.ensures.counts

pub returns-in-Ok-clause-sink : goal.returns-in-Ok-clause-sink
returns-in-Ok-clause-sink g c = host_sink c.answered.result c.serve_site.result c.answered.ensures _ _ c.serve_site.ensures.ready

pub returns-in-Ok-clause-unserved : goal.returns-in-Ok-clause-unserved
returns-in-Ok-clause-unserved g c = host_unserved c.answered.result c.serve_site.result c.answered.ensures

pub returns-in-Ok-clause-fits : goal.returns-in-Ok-clause-fits
returns-in-Ok-clause-fits g c = host_fits c.answered.result c.serve_site.result c.answered.ensures

pub returns-in-Ok-clause-ready : goal.returns-in-Ok-clause-ready
returns-in-Ok-clause-ready g c = host_ready c.answered.result c.serve_site.result c.answered.ensures _ _ c.serve_site.ensures.ready

pub returns-in-Ok-clause-halts : goal.returns-in-Ok-clause-halts
returns-in-Ok-clause-halts g c =
    work_halts c.answered.result (g.B.Stocked.stock c.args.shelf.now) c.args.means.now.definitions.now c.args.means.now.site.now ((g.F.Files.seen c.args.files.now).told) _ _
    (phases_past (g.B.Stocked.stock c.args.shelf.now) c.args.means.now.definitions.now c.args.means.now.site.now ((g.F.Files.seen c.args.files.now).told)
    (arc_value c.in-Ok.plan.site) c.in-Ok.plan.digest c.in-Ok.ensures.finds)
    (host_halts c.answered.result c.serve_site.result c.answered.ensures _ _ c.serve_site.ensures.ready)

pub returns-in-Ok-clause-idle : goal.returns-in-Ok-clause-idle
returns-in-Ok-clause-idle g c =
    on_err_as c.answered.result _ _
    (λ idle. (
      arc_value c.in-Ok.plan.site,
      c.in-Ok.plan.digest,
      planned (g.B.Stocked.stock c.args.shelf.now) c.args.means.now.definitions.now c.args.means.now.site.now
          ((g.F.Files.seen c.args.files.now).told) (arc_value c.in-Ok.plan.site) c.in-Ok.plan.digest c.in-Ok.ensures.finds,
      idle,
    ))
    (host_err c.answered.result c.serve_site.result c.answered.ensures _ c.serve_site.ensures.idle)

pub returns-in-Ok-clause-planned : goal.returns-in-Ok-clause-planned
returns-in-Ok-clause-planned g c =
    on_ok c.answered.result _
    (phases_past (g.B.Stocked.stock c.args.shelf.now) c.args.means.now.definitions.now c.args.means.now.site.now ((g.F.Files.seen c.args.files.now).told)
    (arc_value c.in-Ok.plan.site) c.in-Ok.plan.digest c.in-Ok.ensures.finds)

pub returns-in-Ok-clause-served : goal.returns-in-Ok-clause-served
returns-in-Ok-clause-served g c =
    let told = (g.F.Files.seen c.args.files.now).told in
    let is = planned (g.B.Stocked.stock c.args.shelf.now) c.args.means.now.definitions.now c.args.means.now.site.now told
    (arc_value c.in-Ok.plan.site) c.in-Ok.plan.digest c.in-Ok.ensures.finds in
    let of_bytes = subst (λ (d : List ℕ). IsPlanned told (Some (c.args.means.now.definitions.now, c.args.means.now.site.now)) (arc_value c.in-Ok.plan.site) d)
    (sym c.bytes.ensures) is in
    if_ok_as c.answered.result _ _ (λ w served. (arc_value c.in-Ok.plan.site, c.bytes.result.now, of_bytes, served))
    (host_ok c.answered.result c.serve_site.result c.answered.ensures _ c.serve_site.ensures.served)

pub returns-in-Ok-clause-boxes : goal.returns-in-Ok-clause-boxes
returns-in-Ok-clause-boxes g c =
    boxes_late_told (g.B.Stocked.stock c.args.shelf.now) _ c.args.means.now.definitions.now c.args.means.now.site.now ((g.F.Files.seen c.args.files.now).told)
    (done_as c.answered.result)
    (phases_past (g.B.Stocked.stock c.args.shelf.now) c.args.means.now.definitions.now c.args.means.now.site.now ((g.F.Files.seen c.args.files.now).told)
    (arc_value c.in-Ok.plan.site) c.in-Ok.plan.digest c.in-Ok.ensures.finds)
    c.in-Ok.ensures.boxes

-- ---- it halted before

pub returns-in-Err-clause-files : goal.returns-in-Err-clause-files
returns-in-Err-clause-files g c = load_counts c.in-Err.halt _ _ c.in-Err.ensures.counts

pub returns-in-Err-clause-sink : goal.returns-in-Err-clause-sink
returns-in-Err-clause-sink g c = load_faults c.in-Err.halt _ _ _ c.in-Err.ensures.counts

pub returns-in-Err-clause-halts : goal.returns-in-Err-clause-halts
returns-in-Err-clause-halts g c = halts_early (g.B.Stocked.stock c.args.shelf.now) c.args.means.now.definitions.now c.args.means.now.site.now
    ((g.F.Files.seen c.args.files.now).told) c.in-Err.halt _ c.in-Err.ensures.finds

pub returns-in-Err-clause-unserved : goal.returns-in-Err-clause-unserved
returns-in-Err-clause-unserved g c = load_unserved c.in-Err.halt _ _ c.in-Err.ensures.counts

pub returns-in-Err-clause-fits : goal.returns-in-Err-clause-fits
returns-in-Err-clause-fits g c = load_fits c.in-Err.halt _ _ c.in-Err.ensures.counts

pub returns-in-Err-clause-idle : goal.returns-in-Err-clause-idle
returns-in-Err-clause-idle g c =
    let p = some_plan (g.F.Files.seen c.args.files.now).told (Some (c.args.means.now.definitions.now, c.args.means.now.site.now)) in
    (p.0, p.1, p.2, record { interfaces = inl refl; slots = inl refl; desks = inl refl; kept = refl; jobs = refl })
