use Rattle.std.proofs.Common.{rules, arith}
use Rattle.std.proofs.lemmas.Grind.{common_steps}
use Rattle.cts_words.proofs.joiner.Joiner.end_statement.Goals as goal

pub returns-clause-done : goal.returns-clause-done
returns-clause-done c = search rules

pub returns-clause-words : goal.returns-clause-words
returns-clause-words c = grind (arith, common_steps)

pub returns-clause-first : goal.returns-clause-first
returns-clause-first c = search rules

pub returns-clause-line : goal.returns-clause-line
returns-clause-line c = search rules

pub returns-clause-joined : goal.returns-clause-joined
returns-clause-joined c = search rules
