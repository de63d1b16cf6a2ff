use Rattle.std.proofs.Common.{◌≡◌, ◌∙◌, ap, sym, subst, List, [], ◌∷◌, ◌++◌, None}
use Rattle.cts_def.specs.Sites.{SiteData, RouterData, IsSoundSite}
use Rattle.cts_plan.specs.declared.opened.Current.TheVariants as current
use Rattle.cts_plan.specs.Standing.{router_of}
use Rattle.cts_plan.specs.Completing.{fault_in}
use Rattle.cts_plan.specs.Keeping.{IsNewRouter}
use Rattle.cts_plan.proofs.Completed.{router_added}
use Rattle.cts_plan.proofs.completing.add_router.Goals as goal

abbrev with_routers : SiteData → List RouterData → SiteData
with_routers s rs = record s { routers = rs }

pub invariant_of-site-2 : goal.invariant_of-site-2
invariant_of-site-2 c =
    let s : SiteData = record {
      definitions = c.site.inside.definitions;
      interfaces = c.site.inside.interfaces;
      routers = c.site.inside.routers;
      api_port = c.site.inside.api_port;
      desks = c.site.inside.desks;
      log_layout = c.site.inside.log_layout;
      log_cycle = c.site.inside.log_cycle;
    } in
    let new = subst (λ (x : SiteData). IsNewRouter x.interfaces x.routers c.args.draft.name c.args.draft.routes) (sym c.site.view_is) c.requires.new in
    let right : fault_in s (current.Router c.args.draft) ≡ None = ap (λ (x : SiteData). fault_in x (current.Router c.args.draft)) c.site.view_is ∙ c.in_ok-router.ensures.settled in
    let made = c.in_ok-router.ensures.value ∙ ap (λ (x : SiteData). router_of x c.args.draft) (sym c.site.view_is) in
    subst (λ (rs : List RouterData). IsSoundSite (with_routers s rs)) (sym (c.in_ok-push.ensures.pushed ∙ ap (λ (r : RouterData). s.routers ++ r ∷ []) made))
    (router_added s c.args.draft c.site.invariant new right)
