use Rattle.std.proofs.Common.{rules, ◌≡◌, ◌∙◌, map, ap, arith, subst}
use Rattle.std.specs.Arc.{arc_value}
use Rattle.std.proofs.lemmas.List.{length-map}
use Rattle.cts_chain.specs.Builds.{AreFresh, Taken}
use Rattle.cts_connection.specs.LinePlaces.{line_count}
use Rattle.cts_def.specs.Sites.{IsSoundSite, SiteData}
use Rattle.cts_table.specs.States.{Shown}
use Rattle.cts_connection.specs.LineChains.{line_chains, line_uses}
use Rattle.cts_core.specs.Worlds.{first_held}
use Rattle.cts_connection.proofs.Supplying.{chains_count}
use Rattle.cts_core.proofs.WorldSteps.{fresh_count, stands_first}
use Rattle.cts_core.proofs.world.World.with_limits.Goals as goal

pub new-requires-clause-room : goal.new-requires-clause-room
new-requires-clause-room g c =
    let site = arc_value c.args.site in
    let fresh : AreFresh (line_chains site) (map g.C.Chained.shape c.in_ok-chains.chains.items) = search rules in
    let count : c.line_count-count.result ≡ line_count site = search rules in
    omega (arith, count, c.in-Ok.ensures.len, c.in-Ok.ensures.capacity, fresh_count _ _ fresh, chains_count site, length-map c.in_ok-chains.chains.items g.C.Chained.shape)

pub returns-clause-stands : goal.returns-clause-stands
returns-clause-stands g c =
    let site = arc_value c.args.site in
    let cs = map g.C.Chained.shape c.in_ok-chains.chains.items in
    let fresh : AreFresh (line_chains site) cs = search rules in
    stands_first (record { site = site; entries = c.args.entries; bytes = c.args.bytes }) c.new.result cs (subst IsSoundSite c.deref-2.ensures c.line_count-count.ensures.sound) fresh
    (c.new.ensures ∙ ap (λ (k : Shown). first_held k.basis.site k.basis.entries k.basis.bytes cs) c.in-Ok-with_limits.ensures)

pub returns-clause-taken : goal.returns-clause-taken
returns-clause-taken g c =
    let same : c.site.result.now ≡ arc_value c.args.site = search rules in
    subst (λ (site : SiteData). Taken (g.B.Stocked.stock c.args.shelf.now) (line_uses site) (g.B.Stocked.stock c.build_chains.new.shelf)) same c.in_ok-chains.ensures.taken
