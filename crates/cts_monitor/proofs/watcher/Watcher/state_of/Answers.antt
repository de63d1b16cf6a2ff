use Rattle.std.proofs.Common.{◌≡◌, rules, Some, None}
use Rattle.cts_monitor.specs.Grid.{cell_in}
use Rattle.cts_monitor.specs.Watcher.{grid_of}
use Rattle.cts_monitor.proofs.WatcherSteps.{state_none, state_some}
use Rattle.cts_monitor.proofs.watcher.Watcher.state_of.Goals as goal

pub returns-in-Some : goal.returns-in-Some
returns-in-Some g c =
    let found : cell_in c.args.self.now.rows c.args.packet c.args.item ≡ Some c.in-Some.cell = search rules in
    state_some c.args.site.now (g.H.Stands.list c.args.history.now) (grid_of c.args.self.now) c.requires.grid c.args.packet c.args.item c.in-Some.cell found

pub returns-in-None : goal.returns-in-None
returns-in-None g c =
    let missing : cell_in c.args.self.now.rows c.args.packet c.args.item ≡ None = search rules in
    state_none c.args.site.now (g.H.Stands.list c.args.history.now) (grid_of c.args.self.now) c.requires.grid c.args.packet c.args.item missing
