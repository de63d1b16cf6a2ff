use Rattle.cts_trace.proofs.Connecting.{connected_within, connected_meanwhile, unsent_is_rest, bad_frame_is_of_chain, all_is_posted}
use Rattle.cts_trace.proofs.laws.connections.Goals as goal

pub returns : goal.returns
returns c = record { unsent = unsent_is_rest; connected = connected_within; meanwhile = connected_meanwhile; bad_frame = bad_frame_is_of_chain; posted = all_is_posted }
