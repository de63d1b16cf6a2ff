use Rattle.std.proofs.Common.{◌≡◌, ◌∙◌, ap, rules, Option, Some, None}
use Rattle.std.specs.Prelude.{is_none}
use Rattle.cts_base.specs.Names.{in_upper_case}
use Rattle.cts_monitor.specs.Grid.{cell_in}
use Rattle.cts_monitor.specs.Settings.{watched, watched_at}
use Rattle.cts_monitor.specs.Watcher.{grid_of}
use Rattle.cts_monitor.specs.declared.types.LimitsUsed.{LimitsUsed}
use Rattle.cts_monitor.proofs.WatcherSteps.{setting_found, unlimited_missing, unused_missing}
use Rattle.cts_monitor.proofs.watcher.Watcher.limits_of.Goals as goal

pub returns-in_err-cell-clause-used : goal.returns-in_err-cell-clause-used
returns-in_err-cell-clause-used g c =
    let w = watched c.in_ok-held.held.now c.in_ok-held.found.now c.args.packet c.args.item in
    let at : watched_at c.args.site.now c.args.packet c.args.item ≡ Some w = search rules in
    let missing : cell_in c.args.self.now.rows c.args.packet c.args.item ≡ None = search rules in
    let none : c.from_residual-in_err-cell.result ≡ None = search rules in
    none ∙ unused_missing c.args.site.now (g.H.Stands.list c.args.history.now) (grid_of c.args.self.now) c.requires.grid c.args.packet c.args.item w at missing (in_upper_case c.args.set.now)

pub returns-in_err-cell-clause-none : goal.returns-in_err-cell-clause-none
returns-in_err-cell-clause-none g c =
    let w = watched c.in_ok-held.held.now c.in_ok-held.found.now c.args.packet c.args.item in
    let at : watched_at c.args.site.now c.args.packet c.args.item ≡ Some w = search rules in
    let missing : cell_in c.args.self.now.rows c.args.packet c.args.item ≡ None = search rules in
    let none : c.from_residual-in_err-cell.result ≡ None = search rules in
    ap (λ (o : Option LimitsUsed). is_none o) none ∙ unlimited_missing c.args.site.now (g.H.Stands.list c.args.history.now) (grid_of c.args.self.now) c.requires.grid c.args.packet c.args.item w at missing

pub limits_used_of-requires-clause-setting : goal.limits_used_of-requires-clause-setting
limits_used_of-requires-clause-setting g c =
    let w = watched c.in_ok-held.held.now c.in_ok-held.found.now c.args.packet c.args.item in
    let at : watched_at c.args.site.now c.args.packet c.args.item ≡ Some w = search rules in
    let found : cell_in c.args.self.now.rows c.args.packet c.args.item ≡ Some c.in_ok-cell.cell = search rules in
    setting_found c.args.site.now (g.H.Stands.list c.args.history.now) (grid_of c.args.self.now) c.requires.grid c.args.packet c.args.item w at c.in_ok-cell.cell found
