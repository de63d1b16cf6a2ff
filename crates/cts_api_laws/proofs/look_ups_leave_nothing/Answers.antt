use Rattle.cts_api_laws.proofs.Quiet.{appends_nothing, needs_no_room}
use Rattle.cts_api_laws.proofs.look_ups_leave_nothing.Goals as goal

pub returns-clause-nothing : goal.returns-clause-nothing
returns-clause-nothing c = appends_nothing

pub returns-clause-room : goal.returns-clause-room
returns-clause-room c = needs_no_room
