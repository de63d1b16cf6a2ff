use Rattle.cts_trace_laws.proofs.Slotted.{put_begins_routed, put_is_routed, put_is_routed_so_far}
use Rattle.cts_trace_laws.proofs.laws.slots_put_what_is_routed.Goals as goal

pub returns : goal.returns
returns c = record { ended = put_is_routed; standing = put_is_routed_so_far; begins = put_begins_routed }
