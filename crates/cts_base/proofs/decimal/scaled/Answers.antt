use Rattle.std.proofs.Common.{◌*◌, ◌^◌, ◌<◌, length, sym, subst, ℕ}
use Rattle.cts_base.proofs.Numerals.{scaled-lt}
use Rattle.cts_base.proofs.decimal.scaled.Goals as goal

pub returns-clause-bound : goal.returns-clause-bound
returns-clause-bound c =
    subst (λ (p : ℕ). c.number.result * p < 10 ^ 12) (sym c.pow.ensures) (scaled-lt c.number.result (length c.args.fraction.now) c.number.ensures.bound c.requires.few)
