use Rattle.cts_scriptread.proofs.Taken.{is_taken}
use Rattle.cts_scriptread.proofs.reading.ScriptReader.take.Goals as goal

pub returns : goal.returns
returns c = λ before h.
    is_taken c.args.site.now c.args.self.now.events.items c.push.new.self.items before c.args.statement.now c.in_ok-event.event h c.in_ok-event.ensures c.in_ok-push.ensures.items
