use Rattle.std.proofs.Common.{refl, sym, ◌∙◌}
use Rattle.std.proofs.lemmas.Bool.{eqb-false}
use Rattle.cts_base.proofs.Numerals.{numeral-no_text, numeral_from_parse}
use Rattle.cts_base.proofs.digits.numeral.Goals as goal

pub returns-in_default : goal.returns-in_default
returns-in_default c =
    let e = numeral-no_text c.args.base c.args.digits.now c.requires.upper_bound c.in_default.ensures.cases.0 in rw e refl

pub returns : goal.returns
returns c =
    c.ok.ensures.value ∙ numeral_from_parse c.args.base _ c.args.digits.now _ c.in-Ok.ensures.cases.0 (eqb-false _ 43 (sym c.if-begins_with_plus.ensures)) c.from_str_radix.ensures.value
