use Rattle.cts_conv_laws.proofs.Uses.{some_segment_is_used}
use Rattle.cts_conv_laws.proofs.some_segment_is_used.Goals as goal

pub returns : goal.returns
returns c = some_segment_is_used
