use Rattle.std.proofs.Common.{◌≡◌, replicate}
use Rattle.cts_server.specs.Aims.{door_aim}
use Rattle.cts_server.proofs.aims.desk_aims.Given as goal

abbrev pub invariant-desks : goal.invariant-desks
invariant-desks l = l.aims.items ≡ replicate l._desk (door_aim l.site.api_port)
