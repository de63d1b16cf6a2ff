use Rattle.cts_connection.proofs.Posting.{can_close}
use Rattle.cts_connection.proofs.connection.Connection.close.Goals as goal

pub close-requires : goal.close-requires
close-requires g c =
    rw (c.hang_up-loss.ensures.loss, c.waiting-unsent.ensures) (can_close c.args.hall.now c.args.by c.args.time c.args.self.now c.args.end.why _ c.is_kept.ensures.site c.is_kept.ensures.kept c.requires)
