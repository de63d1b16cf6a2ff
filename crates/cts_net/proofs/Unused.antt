-- What dialers show that fill places one after another.
use Rattle.std.proofs.Common.{is_some, false, List, ℕ, None}
use Rattle.cts_net.specs.declared.dialer.TcpDialer.{TcpDialer}
use Rattle.cts_outside.specs.Seen.{LineSeen}

-- what a dialer shows
abbrev pub seen : {R : Type 0} → TcpDialer R → LineSeen
seen d = record { told = None; linked = is_some d.stream; finished = false; faults = d.faults; failed_dials = d.failed_dials }

-- the address at which it accepts clients
abbrev pub host_of : {R : Type 0} → TcpDialer R → List ℕ
host_of d = d.listener.now.host.now
