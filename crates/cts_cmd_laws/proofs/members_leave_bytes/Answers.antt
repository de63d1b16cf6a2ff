use Rattle.std.specs.Prelude.{option_map}
use Rattle.cts_cmd_laws.proofs.Existing.{members_leave_bytes}
use Rattle.cts_cmd_laws.proofs.members_leave_bytes.Goals as goal

pub returns : goal.returns
returns c = members_leave_bytes c.args.packet.now (option_map (λ t. t.now) c.args.current) c.args.members.now c.keeps_packet.ensures c.stand_as_bytes.ensures
