use Rattle.std.proofs.Common.{◌≡◌, ◌≤◌, ◌-◌, ◌/◌, ℕ, List, length, get_or, sym, ◌∙◌, ap, subst, arith}
use Rattle.cts_chain.specs.Builds.{CanBeBuilt}
use Rattle.cts_chain.proofs.Planning.{site_chain}
use Rattle.cts_def.specs.Sites.{RouterData, SiteData}
use Rattle.cts_connection.proofs.Supplying.{router_at}
use Rattle.cts_connection.proofs.chains.chain_at.Goals as goal

pub returns-then-place-interfaces-clause-can : goal.returns-then-place-interfaces-clause-can
returns-then-place-interfaces-clause-can c = subst CanBeBuilt (sym c.as_slice.ensures) (site_chain _ c.interface.invariant.chain)

pub returns-clause-chain : goal.returns-clause-chain
returns-clause-chain c =
    let site = c.args.site.now in
    let place = c.args.place in
    let x = c.index-routers-place.result in
    let interfaces : c.as_slice-interfaces.result.now ≡ site.interfaces = c.as_slice-interfaces.ensures ∙ ap (λ (s : SiteData). s.interfaces) c.site.view_is in
    let routers : c.as_slice-routers.result.now ≡ site.routers = c.as_slice-routers.ensures ∙ ap (λ (s : SiteData). s.routers) c.site.view_is in
    let count : length c.as_slice-interfaces.result.now ≡ length site.interfaces = ap length interfaces in
    let past : length site.interfaces ≤ place = omega (arith, count, c.if-place-interfaces.false) in
    let at : x ≡ get_or site.routers ((place - length site.interfaces) / 2) x =
    c.index-routers-place.is ∙ (ap (λ (l : List RouterData). get_or l ((place - length c.as_slice-interfaces.result.now) / 2) x) routers ∙ ap (λ (n : ℕ). get_or site.routers ((place - n) / 2) x) count) in
    c.as_slice-2.ensures ∙ (ap (λ (r : RouterData). r.chain) c.router.view_is ∙ router_at site place x past c.requires at)

pub returns-clause-can : goal.returns-clause-can
returns-clause-can c = subst CanBeBuilt (sym c.as_slice-2.ensures) (site_chain _ c.router.invariant.chain)
