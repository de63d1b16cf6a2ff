use Rattle.cts_api.proofs.Leaving.{of_their_desk}
use Rattle.cts_api.proofs.laws.replies_are_of_their_desk.Goals as goal

pub returns : goal.returns
returns c h by time body a is = of_their_desk h by time body a is
