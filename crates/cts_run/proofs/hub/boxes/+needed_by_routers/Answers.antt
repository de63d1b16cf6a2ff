use Rattle.std.proofs.Common.{◌≡◌, ◌+◌, ◌*◌, ◌∷◌, List, ap, arith, rules, subst, sym, ◌∙◌}
use Rattle.cts_chain.specs.Builds.{use_specs}
use Rattle.cts_chain.specs.Stocking.{needed}
use Rattle.cts_def.specs.Protocols.{UseData}
use Rattle.cts_def.specs.Sites.{RouterData}
use Rattle.cts_run.specs.Hub.{router_uses}
use Rattle.cts_run.proofs.BoxLemmas.{needed_twice}
use Rattle.cts_run.proofs.hub.boxes.+needed_by_routers.Goals as goal

pub returns-clause-count : goal.returns-clause-count
returns-clause-count t c =
    let is : c.args.routers.now ≡ c.in-Some.first.now ∷ c.in-Some.later.now = search rules in
    let chain : c.as_slice.result.now ≡ c.in-Some.first.now.chain = c.as_slice.ensures ∙ ap (λ (r : RouterData). r.chain) c.first.view_is in
    let whole = needed_twice c.args.kind c.in-Some.first.now c.in-Some.later.now in
    let own = c.needed.ensures.count ∙ ap (λ (us : List UseData). needed c.args.kind (use_specs us)) chain in
    let more = c.needed_by_routers-more.ensures.count in
    subst (λ (xs : List RouterData). 2 * c.needed.result + c.needed_by_routers-more.result ≡ needed c.args.kind (use_specs (router_uses xs))) (sym is)
    (omega (arith, whole, own, more))
