use Rattle.std.proofs.Common.{List, ap, arith, ◌∙◌}
use Rattle.cts_chain.specs.Builds.{use_specs, uses_in}
use Rattle.cts_chain.specs.Stocking.{needed}
use Rattle.cts_def.specs.Sites.{InterfaceData, RouterData, SiteData}
use Rattle.cts_run.specs.Hub.{router_uses}
use Rattle.cts_run.proofs.BoxLemmas.{needed_site}
use Rattle.cts_run.proofs.hub.boxes.needed_by_site.Goals as goal

pub returns-clause-count : goal.returns-clause-count
returns-clause-count c =
    let interfaces = c.needed_by_interfaces.ensures.count
    ∙ ap (λ (xs : List InterfaceData). needed c.args.kind (use_specs (uses_in xs))) (c.as_slice.ensures ∙ ap (λ (s : SiteData). s.interfaces) c.site.view_is) in
    let routers = c.needed_by_routers.ensures.count
    ∙ ap (λ (xs : List RouterData). needed c.args.kind (use_specs (router_uses xs))) (c.as_slice-2.ensures ∙ ap (λ (s : SiteData). s.routers) c.site.view_is) in
    let whole = needed_site c.args.kind c.args.site.now in
    omega (arith, interfaces, routers, whole)
