use Rattle.std.proofs.Common.{◌≡◌, ◌∙◌, List, ℕ, rules, sym, subst, ap}
use Rattle.cts_base.specs.Decimals.{decimal_of}
use Rattle.cts_base.specs.Prints.{PrintsDecimal, decimal_text}
use Rattle.cts_base.proofs.PrintLemmas.{prints_decimal, decimal_of-decimal_text}
use Rattle.cts_base.proofs.print.print_decimal.Goals as goal

pub returns-clause-written : goal.returns-clause-written
returns-clause-written c =
    let e : c.of.result ≡ decimal_text c.args.value.parts = search rules in
    subst (λ (t : List ℕ). PrintsDecimal c.args.value.parts t) (sym e) (prints_decimal c.args.value.parts)

pub returns-clause-read_back : goal.returns-clause-read_back
returns-clause-read_back c =
    λ small.
    let e : c.of.result ≡ decimal_text c.args.value.parts = search rules in
    ap decimal_of e ∙ decimal_of-decimal_text c.args.value small
