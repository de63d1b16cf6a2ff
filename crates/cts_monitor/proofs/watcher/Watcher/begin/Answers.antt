use Rattle.std.proofs.Common.{[], ap}
use Rattle.cts_monitor.specs.Grid.{GridData, begun_grid}
use Rattle.cts_monitor.specs.Places.{PlacesData, begun_places}
use Rattle.cts_monitor.proofs.PlaceSteps.{begun_tells}
use Rattle.cts_monitor.proofs.WatcherSteps.{grid_begun, grid_to, places_to}
use Rattle.cts_monitor.proofs.watcher.Watcher.begin.Goals as goal

pub returns-clause-tells : goal.returns-clause-tells
returns-clause-tells c = record {
  grid = grid_to c.args.site.now [] (begun_grid c.args.site.now) _ (ap (λ (g : GridData). g.rows) c.in_ok-grid.ensures) (ap (λ (g : GridData). g.events) c.in_ok-grid.ensures) (grid_begun c.args.site.now);
  places = places_to c.args.site.now [] begun_places _ (ap (λ (p : PlacesData). p.given) c.in_ok-places.ensures) (ap (λ (p : PlacesData). p.sets) c.in_ok-places.ensures)
      (ap (λ (p : PlacesData). p.chosen) c.in_ok-places.ensures) (begun_tells c.args.site.now);
  width = c.width_of.ensures.width;
}
