use Rattle.std.proofs.Common.{ap, subst, sym, ◌∙◌}
use Rattle.cts_monitor.specs.Grid.{IsPartedAt}
use Rattle.cts_monitor.specs.Watcher.{WatcherData}
use Rattle.cts_monitor.proofs.Parted.{parted}
use Rattle.cts_monitor.proofs.watcher.Watcher.events.Goals as goal

pub events_from-requires : goal.events_from-requires
events_from-requires g c =
    subst (IsPartedAt c.args.from) (sym (ap (λ (w : WatcherData). w.events) c.self.view_is ∙ c.requires.grid.told)) (parted c.args.site.now (g.H.Stands.list c.args.history.now) c.args.from)
