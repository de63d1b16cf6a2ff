use Rattle.std.proofs.Common.{◌≡◌, ◌∙◌, ap, arith, unwrap_or}
use Rattle.std.specs.Str.Parse.{digits_value}
use Rattle.cts_base.proofs.Numerals.{numeral_or_zero, digits-lt, digits-lt_25}
use Rattle.cts_base.proofs.decimal.number.Goals as goal

pub returns-clause-value : goal.returns-clause-value
returns-clause-value c =
    c.unwrap_or.ensures ∙ (ap (λ o. unwrap_or o 0) c.numeral.ensures ∙ numeral_or_zero c.args.digits.now c.requires.digits c.requires.few)

pub returns-clause-bound : goal.returns-clause-bound
returns-clause-bound c =
    let e : c.unwrap_or.result ≡ digits_value 10 c.args.digits.now = c.unwrap_or.ensures ∙ (ap (λ o. unwrap_or o 0) c.numeral.ensures ∙ numeral_or_zero c.args.digits.now c.requires.digits c.requires.few) in
    omega (arith, digits-lt c.args.digits.now c.requires.digits)

pub returns-clause-small : goal.returns-clause-small
returns-clause-small c =
    let e : c.unwrap_or.result ≡ digits_value 10 c.args.digits.now = c.unwrap_or.ensures ∙ (ap (λ o. unwrap_or o 0) c.numeral.ensures ∙ numeral_or_zero c.args.digits.now c.requires.digits c.requires.few) in
    omega (arith, digits-lt_25 c.args.digits.now c.requires.digits c.requires.few)
