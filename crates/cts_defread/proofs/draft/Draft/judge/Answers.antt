use Rattle.std.proofs.Common.{◌∙◌, ℕ, List, sym, ap, subst}
use Rattle.cts_reader.specs.Reading.{at_line}
use Rattle.cts_defstatement.specs.declared.open.Open.{Open}
use Rattle.cts_defstatement.specs.Lines.{line_in}
use Rattle.cts_defstatement.specs.Refusals.{open_kind, word_cause}
use Rattle.cts_defstatement.specs.Rules.{KeepsRules}
use Rattle.cts_defread.specs.Causes.{opened}
use Rattle.cts_defread.proofs.Judging.{judged, clean, kept}
use Rattle.cts_defread.proofs.draft.Draft.judge.Goals as goal

pub returns-clause-judged : goal.returns-clause-judged
returns-clause-judged c =
    let packets = c.args.self.now.packets.items in
    let line = c.args.statement.now.line in
    judged packets c.args.self.now.set_names.items c.args.statement.now c.in_ok-said.said c.in_ok-cause.cause c.unless_refused.result
    (sym (ap (λ (words : List (List ℕ)). at_line line (word_cause (opened packets) words)) c.as_slice.ensures)
    ∙ sym (ap (λ (o : Open). at_line line (word_cause o c.as_slice.result.now)) c.opened.ensures)
    ∙ c.in_ok-said.ensures.read.0)
    (sym (ap line_in c.as_slice.ensures) ∙ c.in_ok-said.ensures.read.1) c.in_ok-cause.ensures c.unless_refused.ensures.settled c.unless_refused.ensures.said

pub returns-clause-clean : goal.returns-clause-clean
returns-clause-clean c =
    clean c.args.self.now.packets.items c.args.self.now.set_names.items c.args.statement.now.line c.in_ok-said.said c.in_ok-cause.cause c.unless_refused.result c.in_ok-cause.ensures c.unless_refused.ensures.settled c.unless_refused.ensures.said

pub returns-clause-rules : goal.returns-clause-rules
returns-clause-rules c =
    kept (open_kind (opened c.args.self.now.packets.items)) c.in_ok-said.said c.unless_refused.result
    (subst (λ (o : Open). KeepsRules (open_kind o) c.in_ok-said.said) c.opened.ensures c.in_ok-said.ensures.kept) c.unless_refused.ensures.said
