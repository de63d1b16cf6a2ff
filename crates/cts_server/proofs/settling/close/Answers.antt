use Rattle.std.proofs.Common.{subst}
use Rattle.cts_scribe.specs.Laws.{StopsLeaveLogsOf}
use Rattle.cts_server.proofs.settling.close.Goals as goal

pub returns-clause-seen : goal.returns-clause-seen
returns-clause-seen c = rw c.into_history.ensures c.close-hall.ensures.seen

pub returns-clause-own : goal.returns-clause-own
returns-clause-own c m has = rw c.into_history.ensures (c.close-hall.ensures.own m has)

pub returns-clause-readable : goal.returns-clause-readable
returns-clause-readable c = rw c.into_history.ensures
    (subst (λ b. StopsLeaveLogsOf b.site c.close-hall.result.entries c.args.digest.now) c.close-hall.ensures.basis c.stops_leave_logs_of_halls.ensures)
