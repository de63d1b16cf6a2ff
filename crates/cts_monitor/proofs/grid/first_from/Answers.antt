use Rattle.std.proofs.Common.{◌-◌, get_or, refl}
use Rattle.cts_def.specs.declared.color.Color.TheVariants.{RedLow}
use Rattle.cts_monitor.specs.declared.types.LimitsEvent.{LimitsEvent}
use Rattle.cts_monitor.proofs.Parted.{first_found}
use Rattle.cts_monitor.proofs.grid.first_from.Goals as goal

pub returns-else-from-events-clause-found : goal.returns-else-from-events-clause-found
returns-else-from-events-clause-found c =
    let none : LimitsEvent = record { at = 0; packet = 0; item = 0; before = RedLow; after = RedLow } in
    let last = get_or c.args.events.now (c.loop-first.first - 1) none in
    first_found c.args.events.now c.args.from c.loop-first.first last none c.requires c.loop-first.invariant.0 c.loop-first.invariant.1 c.loop-first-test.true refl c.if-from-events.false
