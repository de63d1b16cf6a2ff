use Rattle.std.proofs.Common.{rules, ◌≡◌, arith, sym, ap, ◌∙◌, ℕ, ◌<◌, ◌∷◌, []}
use Rattle.cts_turn.specs.Passes.{IsPassOf}
use Rattle.cts_turn.proofs.Makers.{split_from}
use Rattle.cts_turn.proofs.ManyPasses.{all_snoc, snoc_each}
use Rattle.cts_turn.proofs.many.hand_out.Goals as goal

pub split-one-requires-clause-two : goal.split-one-requires-clause-two
split-one-requires-clause-two g c =
    let k : ℕ = c.loop.counter in
    let lt : k < c.args.n = c.loop-test.true in
    let some : c.args.n < 32 = c.requires.some in
    (split_from c.loop.pass.seat.me.0.makers k c.loop.invariant.1 (omega arith)).2

pub loop-preserved : goal.loop-preserved
loop-preserved g c =
    let k : ℕ = c.loop.counter in
    let lt : k < c.args.n = c.loop-test.true in
    let some : c.args.n < 32 = c.requires.some in
    let inv = c.loop.invariant in
    let is = split_from c.loop.pass.seat.me.0.makers k inv.1 (omega arith) in
    let items = c.push_reserved.ensures.items in
    let one = c.split-one.result in (
      c.split-one.ensures.pass.0,
      ap (λ v. v.makers) c.split-one.ensures.view ∙ is.0,
      search rules,
      search rules,
      rw items (all_snoc (λ p. IsPassOf c.args.turn.now p) c.loop.passes.items one inv.4 c.split-one.ensures.pass.1),
      rw items (λ j d below. snoc_each (λ i p. p.seat.me.0.makers ≡ i ∷ []) c.loop.passes.items one
          (λ i e l. inv.5 i e (omega (arith, inv.2)))
          (ap (λ v. v.makers) c.split-one.ensures.new ∙ ap (λ (m : ℕ). m ∷ []) (is.1 ∙ sym inv.2))
          j d (omega (arith, inv.2))),
    )
