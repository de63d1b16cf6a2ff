use Rattle.std.proofs.Common.{rules, subst, List}
use Rattle.cts_words.specs.declared.statement.Statement.{Statement}
use Rattle.cts_reader.specs.Reading.{Fails, Reads}
use Rattle.cts_scriptread.specs.Scripts.{refusal, events_of}
use Rattle.cts_scriptread.proofs.Taken.{Stands, is_failed, is_done}
use Rattle.cts_scriptread.proofs.reading.read_events.Goals as goal

pub returns-in_err-read_statements : goal.returns-in_err-read_statements
returns-in_err-read_statements c =
    let stands : List Statement → Type 0 = Stands c.args.site.now c.read_statements.new.reader.events.items in
    let failed : Fails c.in_err-read_statements.field-0.0 (events_of c.args.site.now c.args.statements.now) =
    is_failed c.args.site.now stands c.args.statements.now c.in_err-read_statements.field-0.0
    (subst (Reads (refusal c.args.site.now) stands c.args.statements.now) c.in_err-read_statements.was c.read_statements.ensures) in
    search rules

pub returns : goal.returns
returns c = is_done c.args.site.now c.read_statements.new.reader.events.items c.args.statements.now c.in_ok-read_statements.ensures
