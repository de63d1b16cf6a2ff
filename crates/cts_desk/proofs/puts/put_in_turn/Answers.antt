use Rattle.cts_desk.proofs.Putting.{puts_both, puts_part}
use Rattle.cts_desk.proofs.Faulting.{part_rises, rise_then, put_rises, whole_rises}
use Rattle.cts_desk.proofs.puts.put_in_turn.Goals as goal

pub returns-in-Ok-clause-content : goal.returns-in-Ok-clause-content
returns-in-Ok-clause-content g c = puts_both c.args.first.now c.args.second.now _ _ _ c.put-in-Ok.result c.in-Ok.ensures.content c.put-in-Ok.ensures.content

pub returns-in-Err-clause-content : goal.returns-in-Err-clause-content
returns-in-Err-clause-content g c = puts_part c.args.first.now c.args.second.now _ _ c.in-Err.ensures.content

pub returns-in-Ok-clause-faults : goal.returns-in-Ok-clause-faults
returns-in-Ok-clause-faults g c = rise_then (g.R.Link.seen c.args.door.now) (g.R.Link.seen c.put.new.self) (g.R.Link.seen c.put-in-Ok.new.self) (whole_rises c.args.first.now (g.R.Link.seen c.args.door.now) (g.R.Link.seen c.put.new.self) c.in-Ok.ensures.content c.in-Ok.ensures.cause)
    (put_rises c.args.second.now (g.R.Link.seen c.put.new.self) (g.R.Link.seen c.put-in-Ok.new.self) c.put-in-Ok.result c.put-in-Ok.ensures.content c.put-in-Ok.ensures.cause)

pub returns-in-Err-clause-faults : goal.returns-in-Err-clause-faults
returns-in-Err-clause-faults g c = part_rises c.args.first.now (g.R.Link.seen c.args.door.now) (g.R.Link.seen c.put.new.self) c.in-Err.ensures.content c.in-Err.ensures.cause
