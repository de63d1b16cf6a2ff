use Rattle.std.proofs.Common.{sym, ◌∙◌}
use Rattle.cts_monitor.proofs.Unwatched.{none_from}
use Rattle.cts_monitor.proofs.watching.watches.Goals as goal

pub returns-clause-none : goal.returns-clause-none
returns-clause-none c = λ off h n. none_from c.args.site.now h n (sym c.any_is_watched.ensures ∙ off)
