use Rattle.std.proofs.Common.{◌≡◌, ◌+◌, ◌∷◌, List, ap, arith, rules, subst, sym, ◌∙◌}
use Rattle.cts_chain.specs.Builds.{use_specs, uses_in}
use Rattle.cts_chain.specs.Stocking.{needed}
use Rattle.cts_def.specs.Protocols.{UseData}
use Rattle.cts_def.specs.Sites.{InterfaceData}
use Rattle.cts_run.proofs.BoxLemmas.{needed_first}
use Rattle.cts_run.proofs.hub.boxes.+needed_by_interfaces.Goals as goal

pub returns-clause-count : goal.returns-clause-count
returns-clause-count t c =
    let is : c.args.interfaces.now ≡ c.in-Some.first.now ∷ c.in-Some.later.now = search rules in
    let chain : c.as_slice.result.now ≡ c.in-Some.first.now.chain = c.as_slice.ensures ∙ ap (λ (i : InterfaceData). i.chain) c.first.view_is in
    let whole = needed_first c.args.kind c.in-Some.first.now c.in-Some.later.now in
    let own = c.needed.ensures.count ∙ ap (λ (us : List UseData). needed c.args.kind (use_specs us)) chain in
    let more = c.needed_by_interfaces-more.ensures.count in
    subst (λ (xs : List InterfaceData). c.needed.result + c.needed_by_interfaces-more.result ≡ needed c.args.kind (use_specs (uses_in xs))) (sym is)
    (omega (arith, whole, own, more))
