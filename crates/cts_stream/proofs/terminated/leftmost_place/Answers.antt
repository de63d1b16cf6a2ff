use Rattle.cts_encode.proofs.Searches.{finds_first}
use Rattle.cts_stream.proofs.terminated.leftmost_place.Goals as goal

pub returns : goal.returns
returns c = finds_first c.args.bytes.now c.args.pattern.now c.find.result c.find.ensures
