use Rattle.cts_cmd.proofs.Injecting.{of_their_kind}
use Rattle.cts_cmd.proofs.laws.raw_values_are_of_their_kind.Goals as goal

pub returns : goal.returns
returns c = of_their_kind
