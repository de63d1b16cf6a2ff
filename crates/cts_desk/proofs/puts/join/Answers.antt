use Rattle.cts_desk.proofs.Putting.{joined}
use Rattle.cts_desk.proofs.puts.join.Goals as goal

pub returns-clause-joined : goal.returns-clause-joined
returns-clause-joined c =
    joined c.args.first.now c.args.second.now _ _ _ _ _ _ c.write_at-middle.ensures.written c.write_at-middle.ensures.end c.write_at.ensures.written
    c.write_at.ensures.end
