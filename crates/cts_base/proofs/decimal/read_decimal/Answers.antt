use Rattle.std.proofs.Common.{rules}
use Rattle.cts_base.specs.Decimals.{decimal_of}
use Rattle.cts_base.proofs.DecimalLemmas.{read_iff, form_iff, digits_iff}
use Rattle.cts_base.proofs.decimal.read_decimal.Goals as goal

pub returns-clause-read : goal.returns-clause-read
unfolding decimal_of
returns-clause-read c = read_iff c.args.text.now _ (search rules)

pub returns-clause-form : goal.returns-clause-form
unfolding decimal_of
returns-clause-form c = form_iff c.args.text.now _ (search rules)

pub returns-clause-digits : goal.returns-clause-digits
unfolding decimal_of
returns-clause-digits c = digits_iff c.args.text.now _ (search rules)
