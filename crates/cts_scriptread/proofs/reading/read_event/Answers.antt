use Rattle.std.proofs.Common.{sym, ap, ◌∙◌}
use Rattle.std.specs.Prelude.{is_some}
use Rattle.cts_scriptread.specs.Forms.{parts}
use Rattle.cts_scriptread.proofs.Said.{has_cause}
use Rattle.cts_scriptread.proofs.Refusing.{is_taken}
use Rattle.cts_scriptread.proofs.reading.read_event.Goals as goal

pub unwrap-cause-requires : goal.unwrap-cause-requires
unwrap-cause-requires c = ap is_some c.first_cause.ensures ∙ has_cause c.args.site.now c.in-Some.keyword c.in-Some.words.now (sym c.in_ok-event.ensures ∙ c.in-None.is)

pub returns-in-Some-2 : goal.returns-in-Some-2
returns-in-Some-2 c = is_taken c.args.site.now c.args.statement.now c.in-Some.keyword c.in-Some.words.now c.in-Some-2.event (ap parts (sym c.as_slice.ensures) ∙ sym c.in-Some.ensures) (sym c.in-Some-2.is ∙ c.in_ok-event.ensures)
