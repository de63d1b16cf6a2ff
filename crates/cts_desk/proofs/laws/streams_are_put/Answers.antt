use Rattle.cts_desk.proofs.Streaming.{streams_are_put}
use Rattle.cts_desk.proofs.laws.streams_are_put.Goals as goal

pub returns : goal.returns
returns c = streams_are_put
