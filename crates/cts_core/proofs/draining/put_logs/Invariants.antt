use Rattle.std.proofs.Common.{◌≡◌, ◌+◌, ◌-◌, ◌++◌, drop, take}
use Rattle.cts_core.specs.Drainings.{site_commands_log, site_packets_log}
use Rattle.cts_core.proofs.draining.put_logs.Given as goal

abbrev pub invariant-loop-n : goal.invariant-loop-n
invariant-loop-n l =
    let site = l.hall.basis.site in
    let left = take (l.place + l.count - l.n) (drop l.n l.hall.entries) in
    let all = take l.count (drop l.place l.hall.entries) in
    record {
      tlm : l.batch.tlm.items ++ site_packets_log site left ≡ l.initial.batch.tlm.items ++ site_packets_log site all;
      cmd : l.batch.cmd.items ++ site_commands_log site left ≡ l.initial.batch.cmd.items ++ site_commands_log site all;
    }
