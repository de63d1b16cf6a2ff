use Rattle.cts_desk.proofs.Faulting.{put_rises}
use Rattle.cts_desk.proofs.puts.put_refusal.Goals as goal

pub returns-clause-faults : goal.returns-clause-faults
returns-clause-faults g c = put_rises _ (g.R.Link.seen c.args.door.now) (g.R.Link.seen c.put.new.self) c.put.result c.put.ensures.content c.put.ensures.cause
