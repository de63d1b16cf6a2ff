use Rattle.cts_main.proofs.Places.{there}
use Rattle.cts_main.proofs.server.serve_over.Goals as goal

pub serve-ended-requires-clause-lines : goal.serve-ended-requires-clause-lines
serve-ended-requires-clause-lines g c κs within = there _ 16 _ c.in_ok-lines.ensures

pub serve-ended-requires-clause-doors : goal.serve-ended-requires-clause-doors
serve-ended-requires-clause-doors g c κs within = there _ 12 _ c.in_ok-doors.ensures.there
