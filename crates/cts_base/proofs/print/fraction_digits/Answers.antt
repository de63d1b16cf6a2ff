use Rattle.std.proofs.Common.{◌∙◌, arith, length, ap}
use Rattle.cts_base.proofs.PrintLemmas.{digits-after_one, length-last_digits}
use Rattle.cts_base.proofs.print.fraction_digits.Goals as goal

pub slice_bounds-result-count : goal.slice_bounds-result-count
slice_bounds-result-count c =
    omega (arith, (digits-after_one c.args.parts c.as_bytes-digits.result.now (c.as_bytes-digits.ensures.value ∙ c.format.ensures.text) c.requires).0)

pub slice_bounds-result-start : goal.slice_bounds-result-start
slice_bounds-result-start c =
    let e = (digits-after_one c.args.parts c.as_bytes-digits.result.now (c.as_bytes-digits.ensures.value ∙ c.format.ensures.text) c.requires).0 in
    grind arith

pub returns : goal.returns
returns c =
    let e = digits-after_one c.args.parts c.as_bytes-digits.result.now (c.as_bytes-digits.ensures.value ∙ c.format.ensures.text) c.requires in
    record { digits = e.1; twelve = ap length e.1 ∙ length-last_digits 12 c.args.parts }
