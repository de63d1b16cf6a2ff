use Rattle.std.proofs.Common.{◌≡◌, ◌∙◌, ap, sym, subst, nat_eq, List, ℕ}
use Rattle.std.specs.List.{list_any, IsDistinct}
use Rattle.cts_def.specs.Sites.{SiteData, InterfaceData}
use Rattle.cts_plan.specs.Drafts.{RouterDraftData}
use Rattle.cts_plan.specs.Standing.{number_of}
use Rattle.cts_plan.proofs.Lists.{distinct_snoc}
use Rattle.cts_plan.proofs.draft.add_route.Goals as goal

pub invariant_of-draft-2 : goal.invariant_of-draft-2
invariant_of-draft-2 c =
    let routes = c.draft.inside.routes in
    let number : c.number_of-number.result ≡ number_of c.args.site.now.interfaces c.args.name =
    c.number_of-number.ensures ∙ ap (λ (is : List InterfaceData). number_of is c.args.name) (c.as_slice.ensures ∙ ap (λ (s : SiteData). s.interfaces) c.site.view_is) in
    record {
      port = c.draft.invariant.port;
      routes = subst (IsDistinct nat_eq) (sym c.in_ok-push.ensures.pushed)
          (distinct_snoc nat_eq routes c.number_of-number.result c.draft.invariant.routes
          (ap (λ (n : ℕ). list_any (λ route. nat_eq route n) routes) number
          ∙ ap (λ (r : RouterDraftData). list_any (λ route. nat_eq route (number_of c.args.site.now.interfaces c.args.name)) r.routes) c.draft.view_is
          ∙ c.requires.new.1));
    }
