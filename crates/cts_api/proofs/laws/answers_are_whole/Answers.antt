use Rattle.cts_api.proofs.WholeAnswers.{answers_whole}
use Rattle.cts_api.proofs.laws.answers_are_whole.Goals as goal

pub returns : goal.returns
returns c h r a done e = answers_whole h r a done e
