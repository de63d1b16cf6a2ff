use Rattle.cts_snap_server.proofs.Lasts.{publisher_lasts, snap_desk_lasts}
use Rattle.cts_snap_server.proofs.laws.owed_lasts.Goals as goal

pub returns : goal.returns
returns c = record { desk = snap_desk_lasts; publisher = publisher_lasts }
