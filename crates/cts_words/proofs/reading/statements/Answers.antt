use Rattle.std.proofs.Common.{List, Vec, Global, Err, sym, subst, ◌∙◌}
use Rattle.cts_words.specs.Answers.{Gives}
use Rattle.cts_words.specs.declared.fault.WordFault.TheVariants.{NotText}
use Rattle.cts_words.specs.declared.statement.Statement.{Statement}
use Rattle.cts_words.proofs.Faults.{said-lines, said-no_text, exact_not_text, exact_open, exact_dangling}
use Rattle.cts_words.proofs.reading.statements.Goals as goal

abbrev items : Vec Statement Global → List Statement
items v = v.items

pub returns-in-Ok-clause-statements : goal.returns-in-Ok-clause-statements
returns-in-Ok-clause-statements c =
    subst (Gives items c.read_lines.result) (sym (said-lines c.args.text.now c.in-Ok.ensures.cases.1)) c.read_lines.ensures

pub returns-in-Ok-clause-not_text : goal.returns-in-Ok-clause-not_text
returns-in-Ok-clause-not_text c = exact_not_text items c.read_lines.result c.args.text.now (returns-in-Ok-clause-statements c)

pub returns-in-Ok-clause-open_quote : goal.returns-in-Ok-clause-open_quote
returns-in-Ok-clause-open_quote c = exact_open items c.read_lines.result c.args.text.now (returns-in-Ok-clause-statements c)

pub returns-in-Ok-clause-dangling_join : goal.returns-in-Ok-clause-dangling_join
returns-in-Ok-clause-dangling_join c = exact_dangling items c.read_lines.result c.args.text.now (returns-in-Ok-clause-statements c)

pub returns-in-Err-clause-statements : goal.returns-in-Err-clause-statements
returns-in-Err-clause-statements c = said-no_text c.args.text.now c.valid_up_to.result c.in-Err.ensures.cases.0 (c.valid_up_to.ensures ∙ c.in-Err.ensures.valid_len)

pub returns-in-Err-clause-not_text : goal.returns-in-Err-clause-not_text
returns-in-Err-clause-not_text c = exact_not_text items (Err (NotText c.valid_up_to.result)) c.args.text.now (returns-in-Err-clause-statements c)

pub returns-in-Err-clause-open_quote : goal.returns-in-Err-clause-open_quote
returns-in-Err-clause-open_quote c = exact_open items (Err (NotText c.valid_up_to.result)) c.args.text.now (returns-in-Err-clause-statements c)

pub returns-in-Err-clause-dangling_join : goal.returns-in-Err-clause-dangling_join
returns-in-Err-clause-dangling_join c = exact_dangling items (Err (NotText c.valid_up_to.result)) c.args.text.now (returns-in-Err-clause-statements c)
