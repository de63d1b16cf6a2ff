use Rattle.std.proofs.Common.{arith, sym, length, ◌∙◌}
use Rattle.std.proofs.lemmas.List.Sums.{position_or_len_is}
use Rattle.cts_words.specs.Seen.{stops}
use Rattle.cts_words.proofs.line.run_len.Goals as goal

pub returns-then-is_at-clause-place : goal.returns-then-is_at-clause-place
returns-then-is_at-clause-place c =
    sym (position_or_len_is (stops c.args.stop) c.args.line.now c.loop-at.at 0 (omega arith) c.loop-at.invariant (λ lt. sym c.is_at.ensures ∙ c.if-is_at.true))

pub returns-clause-place : goal.returns-clause-place
returns-clause-place c =
    sym (position_or_len_is (stops c.args.stop) c.args.line.now (length c.args.line.now) 0 (omega arith) (λ k lt. c.loop-at.invariant k (omega arith)) (λ lt. absurd (omega arith)))
