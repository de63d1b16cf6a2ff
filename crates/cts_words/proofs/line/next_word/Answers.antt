use Rattle.std.proofs.Common.{arith, sym, ◌∙◌, ◌+◌}
use Rattle.std.proofs.lemmas.Bool.Decides.{nat_tests}
use Rattle.std.proofs.lemmas.List.{take_rest, length-drop}
use Rattle.cts_words.proofs.Words.{bare_first}
use Rattle.cts_words.proofs.line.next_word.Goals as goal

pub returns : goal.returns
returns c = (
  bare_first c.args.line.now c.skip_white-line.result.now c.in-Some.first.now c.in-Some.rest.now c.run_len-len.result c.skip_white-line.ensures.same c.in-Some.ensures.cases.0 c.skip_white-line.ensures.black (grind (arith, nat_tests)) (sym c.is_quote_mark.ensures ∙ c.if-is_quote_mark.false) c.run_len-len.ensures.place,
  rw take_rest (omega (arith, c.in-Some.ensures.cases.1, length-drop (1 + c.run_len-len.result) c.skip_white-line.result.now)),
)
