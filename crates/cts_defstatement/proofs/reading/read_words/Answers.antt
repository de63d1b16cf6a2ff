use Rattle.std.proofs.Common.{◌∙◌, sym, subst}
use Rattle.cts_defstatement.specs.declared.line.Line.{Line}
use Rattle.cts_defstatement.specs.Refusals.{open_kind}
use Rattle.cts_defstatement.specs.Rules.{KeepsRules}
use Rattle.cts_defstatement.proofs.LineRules.{line_keeps}
use Rattle.cts_defstatement.proofs.NamesRead.{are_readable, names_read}
use Rattle.cts_defstatement.proofs.reading.read_words.Goals as goal

pub line_of-requires : goal.line_of-requires
line_of-requires c =
    names_read c.args.opened c.in-Some.keyword c.args.words.now
    (are_readable c.args.opened c.in-Some.keyword c.args.words.now (sym c.first_cause.ensures ∙ c.in-None.is))

pub returns-in_ok-line_of-in-None-clause-kept : goal.returns-in_ok-line_of-in-None-clause-kept
returns-in_ok-line_of-in-None-clause-kept c =
    subst (λ (l : Line). KeepsRules (open_kind c.args.opened) l) (sym c.in_ok-line_of-in-None.ensures)
    (line_keeps c.args.opened c.in-Some.keyword c.args.words.now
    (are_readable c.args.opened c.in-Some.keyword c.args.words.now (sym c.first_cause.ensures ∙ c.in-None.is)))
