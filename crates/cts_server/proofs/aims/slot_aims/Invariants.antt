use Rattle.std.proofs.Common.{◌≡◌, take}
use Rattle.std.specs.List.{flat_map}
use Rattle.cts_server.specs.Aims.{router_aims}
use Rattle.cts_server.proofs.aims.slot_aims.Given as goal

abbrev pub invariant-routers : goal.invariant-routers
invariant-routers l = l.aims.items ≡ flat_map router_aims (take l.router-index l.router-items)
