use Rattle.std.proofs.Common.{◌∙◌, ap, sym, subst, List, [], ◌∷◌, ◌++◌}
use Rattle.cts_def.specs.Sites.{SiteData, InterfaceData, IsSoundSite}
use Rattle.cts_plan.specs.Keeping.{IsNewInterface}
use Rattle.cts_plan.proofs.Completed.{interface_added}
use Rattle.cts_plan.proofs.completing.add_interface.Goals as goal

abbrev with_interfaces : SiteData → List InterfaceData → SiteData
with_interfaces s is = record s { interfaces = is }

pub invariant_of-site-2 : goal.invariant_of-site-2
invariant_of-site-2 c =
    let s : SiteData = record {
      definitions = c.site.inside.definitions;
      interfaces = c.site.inside.interfaces;
      routers = c.site.inside.routers;
      api_port = c.site.inside.api_port;
      desks = c.site.inside.desks;
      log_layout = c.site.inside.log_layout;
      log_cycle = c.site.inside.log_cycle;
    } in
    let new = subst (λ (x : SiteData). IsNewInterface x.definitions x.interfaces c.args.draft.name c.args.draft.targets) (sym c.site.view_is) c.requires.new in
    subst (λ (is : List InterfaceData). IsSoundSite (with_interfaces s is)) (sym (c.in_ok-push.ensures.pushed ∙ ap (λ (i : InterfaceData). s.interfaces ++ i ∷ []) c.in_ok-interface.ensures.value))
    (interface_added s c.args.draft c.site.invariant new c.in_ok-interface.ensures.settled)
