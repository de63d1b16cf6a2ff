use Rattle.cts_connection.proofs.Posting.{lines_may_post}
use Rattle.cts_connection.proofs.laws.lines_may_post.Goals as goal

pub returns : goal.returns
returns c = lines_may_post
