use Rattle.std.proofs.Common.{◌≤◌, arith, ap, drop, length}
use Rattle.std.proofs.lemmas.Grind.{common_steps}
use Rattle.std.proofs.lemmas.List.{length-drop}
use Rattle.cts_connection.specs.Connections.{HeldConnection}
use Rattle.cts_connection.proofs.connection.Connection.write.Goals as goal

pub overflow_add-self : goal.overflow_add-self
overflow_add-self g c =
    let ahead = length-drop c.args.self.now.cursor.place c.args.hall.now.entries in
    let within : c.args.next ≤ length (drop c.args.self.now.cursor.place c.args.hall.now.entries) = c.requires.within in
    let place = ap (λ (h : HeldConnection). h.cursor.place) c.self.view_is in
    omega (arith, c.is_kept.ensures.few, within, ahead, place)

pub returns-clause-ok : goal.returns-clause-ok
returns-clause-ok g c = grind (arith, common_steps)
