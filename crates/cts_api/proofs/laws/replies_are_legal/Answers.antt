use Rattle.cts_api.proofs.Leaving.{replies_are_legal}
use Rattle.cts_api.proofs.laws.replies_are_legal.Goals as goal

pub returns : goal.returns
returns c b history by time body a desk active legal is = replies_are_legal b history by time body a desk active legal is
