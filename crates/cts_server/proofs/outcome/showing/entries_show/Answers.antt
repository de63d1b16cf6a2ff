use Rattle.std.proofs.Common.{sym, ◌∙◌}
use Rattle.cts_server.specs.Troubles.{closed_shows}
use Rattle.cts_trace.specs.Makers.{closes_for}
use Rattle.cts_server.proofs.Lists.{any_more}
use Rattle.cts_server.proofs.outcome.showing.entries_show.Goals as goal

pub entries-preserved : goal.entries-preserved
entries-preserved c = any_more (λ e. closes_for (closed_shows c.args.trouble) e.what) c.args.history.now c.entries.n c.get.result.now c.get.ensures
    c.entries.invariant (sym c.is_of_entry.ensures ∙ c.if-is_of_entry.false)
