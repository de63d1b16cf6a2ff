use Rattle.cts_play_laws.proofs.Handed.{are_handed_on}
use Rattle.cts_play_laws.proofs.Hubbing.{hubs_hand_on, hubs_hand_on_all}
use Rattle.cts_play_laws.proofs.HubRun.{hubs_run}
use Rattle.cts_play_laws.proofs.Put.{last_put_is_routed}
use Rattle.cts_play_laws.proofs.Tied.{hubs_are_tied}
use Rattle.cts_play_laws.proofs.laws.hubs_hand_on.Goals as goal

pub returns : goal.returns
returns c = record { tied = hubs_are_tied; handed = are_handed_on; first = hubs_hand_on; all = hubs_hand_on_all; put = last_put_is_routed; run = hubs_run }
