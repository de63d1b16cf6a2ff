use Rattle.cts_snap_server.proofs.ReadBack.{answers_so}
use Rattle.cts_snap_server.proofs.tied.tie_desk.Goals as goal

pub returns-clause-answers : goal.returns-clause-answers
returns-clause-answers g c basis by found history old new before ended same published owes =
    answers_so basis g.J.Grounds.basis by found history _ old new before _ _ _ ended _ _ c.tie-tied.result same published c.tie-tied.ensures.seen
    c.tie-tied.ensures.tied owes
