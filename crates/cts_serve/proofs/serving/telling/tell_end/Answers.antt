use Rattle.cts_serve.proofs.ServedLemmas.{told_end, untold_end}
use Rattle.cts_serve.proofs.serving.telling.tell_end.Goals as goal

pub returns-then-put_count : goal.returns-then-put_count
returns-then-put_count g c =
    told_end c.args.lines.now c.args.desks.now c.args.scribe c.args.history.now c.first_trouble-trouble.result c.status_of.result
    (g.O.Sink.seen c.args.out.now) (g.O.Sink.seen c.put_count.new.out) (g.O.Sink.seen c.put_trouble.new.out)
    c.first_trouble-trouble.ensures c.status_of.ensures (rw c.count.ensures at c.if-put_count.ensures) c.put_trouble.ensures.printed c.put_trouble.ensures.quiet

pub returns-else-put_count : goal.returns-else-put_count
returns-else-put_count g c =
    untold_end c.args.lines.now c.args.desks.now c.args.scribe c.args.history.now c.first_trouble-trouble-else-put_count.result
    c.status_of-else-put_count.result (g.O.Sink.seen c.args.out.now) (g.O.Sink.seen c.put_count.new.out)
    c.first_trouble-trouble-else-put_count.ensures c.status_of-else-put_count.ensures (rw c.count.ensures at c.if-put_count.ensures)
