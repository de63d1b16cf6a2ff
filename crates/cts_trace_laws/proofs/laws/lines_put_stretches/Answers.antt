use Rattle.cts_trace_laws.proofs.Stretching.{ended_lines_put_stretches, interfaces_are_sent_commands, lines_put_stretches, slots_are_sent_routed}
use Rattle.cts_trace_laws.proofs.laws.lines_put_stretches.Goals as goal

pub returns : goal.returns
returns c = record { lines = lines_put_stretches; ended = ended_lines_put_stretches; slots = slots_are_sent_routed; interfaces = interfaces_are_sent_commands }
