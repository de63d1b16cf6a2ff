use Rattle.std.proofs.Common.{rules, ◌≡◌, ◌∙◌, ℕ, arith, subst}
use Rattle.std.proofs.lemmas.List.{take_all}
use Rattle.cts_chain.specs.Builds.{AllCanBeBuilt}
use Rattle.cts_connection.specs.LinePlaces.{line_count}
use Rattle.cts_connection.specs.LineChains.{line_chains}
use Rattle.cts_connection.proofs.Supplying.{AreSet, chains_count, set_next}
use Rattle.cts_connection.proofs.chains.chains_of.Goals as goal

pub loop-place-preserved : goal.loop-place-preserved
loop-place-preserved c = set_next c.args.site.now c.loop-place.chains c.loop-place.place c.chain_at.result (search rules) (search rules) c.chain_at.ensures.chain c.chain_at.ensures.can c.loop-place.invariant

pub returns-clause-chains : goal.returns-clause-chains
returns-clause-chains c =
    let site = c.args.site.now in
    let all : c.loop-place.place ≡ line_count site = omega (arith, c.line_count-place-end.ensures.count, c.loop-place-test.false, c.loop-place.auto.place-end) in
    let are = subst (λ (n : ℕ). AreSet site c.loop-place.chains n) all c.loop-place.invariant in
    are.1 ∙ take_all (line_count site) (line_chains site) (omega (arith, chains_count site))

pub returns-clause-can : goal.returns-clause-can
returns-clause-can c =
    let site = c.args.site.now in
    let all : c.loop-place.place ≡ line_count site = omega (arith, c.line_count-place-end.ensures.count, c.loop-place-test.false, c.loop-place.auto.place-end) in
    let are = subst (λ (n : ℕ). AreSet site c.loop-place.chains n) all c.loop-place.invariant in
    subst AllCanBeBuilt (take_all (line_count site) (line_chains site) (omega (arith, chains_count site))) are.2
