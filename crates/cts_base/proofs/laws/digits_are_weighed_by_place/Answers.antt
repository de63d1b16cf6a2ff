use Rattle.cts_base.proofs.Numerals.{digits_value-weighed}
use Rattle.cts_base.proofs.laws.digits_are_weighed_by_place.Goals as goal

pub returns : goal.returns
returns c = digits_value-weighed
