use Rattle.std.proofs.Common.{◌∙◌, sym, true, false}
use Rattle.cts_words.proofs.Lines.{joins_split, own_is}
use Rattle.cts_words.proofs.joiner.split_join.Goals as goal

pub returns-then-is_join-clause-joins : goal.returns-then-is_join-clause-joins
returns-then-is_join-clause-joins c = sym (joins_split c.args.row.now c.in-Some.front.now c.in-Some.last.now c.in-Some.ensures.cases.0 ∙ sym c.is_join.ensures ∙ c.if-is_join.true)

pub returns-then-is_join-clause-own : goal.returns-then-is_join-clause-own
returns-then-is_join-clause-own c = sym (own_is true c.args.row.now c.in-Some.front.now c.in-Some.last.now c.in-Some.ensures.cases.0 (sym c.is_join.ensures ∙ c.if-is_join.true))

pub returns-else-is_join-clause-joins : goal.returns-else-is_join-clause-joins
returns-else-is_join-clause-joins c = sym (joins_split c.args.row.now c.in-Some.front.now c.in-Some.last.now c.in-Some.ensures.cases.0 ∙ sym c.is_join.ensures ∙ c.if-is_join.false)

pub returns-else-is_join-clause-own : goal.returns-else-is_join-clause-own
returns-else-is_join-clause-own c = sym (own_is false c.args.row.now c.in-Some.front.now c.in-Some.last.now c.in-Some.ensures.cases.0 (sym c.is_join.ensures ∙ c.if-is_join.false))
