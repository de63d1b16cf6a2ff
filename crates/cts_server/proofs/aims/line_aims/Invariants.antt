use Rattle.std.proofs.Common.{◌≡◌, map, take}
use Rattle.cts_server.specs.Aims.{interface_aim}
use Rattle.cts_server.proofs.aims.line_aims.Given as goal

abbrev pub invariant-interfaces : goal.invariant-interfaces
invariant-interfaces l = l.aims.items ≡ map interface_aim (take l.interface-index l.interface-items)
