use Rattle.std.proofs.Common.{arith, rules}
use Rattle.cts_scribe.proofs.Fitting.{fits_logged}
use Rattle.cts_scribe.proofs.Stopping.{readable}
use Rattle.cts_scribe.proofs.laws.stops_leave_logs_of_halls.Goals as goal

pub returns : goal.returns
returns c kind entries l files begins part stop =
    let h = c.args.hall.now in
    readable kind h.basis.site c.args.digest.now entries l files (search rules) (λ k. let small = c.fits-digest k in omega (arith, small))
    (fits_logged kind h.basis.site h.entries entries begins c.recall_entries.ensures) part stop
