use Rattle.std.proofs.Common.{subst, sym}
use Rattle.cts_line.specs.Ending.{Keeps}
use Rattle.cts_turn.specs.Passes.{view}
use Rattle.cts_line.proofs.Following.{post_kept, post_onward, post_stop, post_told}
use Rattle.cts_line.proofs.rounds.post.Goals as goal

pub returns-clause-onward : goal.returns-clause-onward
returns-clause-onward g c = post_onward _ c.args.hand.now.by (view c.args.pass) (view c.post-pass.result.0) c.args.connection.now c.post-pass.new.connection c.args.piece.now c.post-pass.result.1 c.post-pass.ensures.hold

pub returns-clause-keeps : goal.returns-clause-keeps
returns-clause-keeps g c = subst (λ x. Keeps c.args.hand.now.by (view c.args.pass).seen (view c.post-pass.result.0).seen x) (sym c.closed_by.ensures) (post_kept _ c.args.hand.now.by (view c.args.pass) (view c.post-pass.result.0) c.args.connection.now c.post-pass.new.connection c.args.piece.now c.post-pass.result.1 c.post-pass.ensures.hold)

pub returns-clause-talks : goal.returns-clause-talks
returns-clause-talks g c = λ told n buffer is x. rw c.closed_by.ensures (post_told _ c.args.hand.now.by (view c.args.pass) (view c.post-pass.result.0) c.args.connection.now c.post-pass.new.connection c.args.piece.now c.post-pass.result.1 c.requires.suits c.post-pass.ensures.hold told n buffer is x)

pub returns-clause-stop : goal.returns-clause-stop
returns-clause-stop g c = post_stop _ c.args.hand.now.by (view c.args.pass) (view c.post-pass.result.0) c.args.connection.now c.post-pass.new.connection c.args.piece.now c.post-pass.result.1 c.post-pass.ensures.hold
