use Rattle.std.proofs.Common.{subst}
use Rattle.cts_conv_laws.specs.Uses.{SegmentsConvert}
use Rattle.cts_conv_laws.proofs.Uses.{segments_convert}
use Rattle.cts_conv_laws.proofs.segments_convert.Goals as goal

pub returns : goal.returns
returns c = subst SegmentsConvert c.item.view_is (segments_convert _ c.item.invariant)
