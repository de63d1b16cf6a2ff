use Rattle.std.proofs.Common.{◌≡◌, ◌∙◌, true, false, Err, sym, ap, subst}
use Rattle.cts_entry.specs.Histories.{bytes_for}
use Rattle.cts_table.specs.declared.fault.HallFault.{HallFault}
use Rattle.cts_table.specs.States.{IsRoomAnswer, fits, with_room}
use Rattle.cts_api.proofs.settling.has_room.Goals as goal

pub returns-in-Ok-clause-fits : goal.returns-in-Ok-clause-fits
returns-in-Ok-clause-fits c =
    let s = c.args.hall.now in
    let is : fits s c.entries_for.result c.bytes_for.result ≡ true = c.in-Ok.ensures.answer in
    sym (ap (λ e. fits s e (bytes_for c.args.what.now)) (sym c.entries_for.ensures) ∙ (ap (fits s c.entries_for.result) (sym c.bytes_for.ensures) ∙ is))

pub returns-in-Ok-clause-room : goal.returns-in-Ok-clause-room
returns-in-Ok-clause-room c =
    let s = c.args.hall.now in
    let is : c.room.new.self ≡ with_room s c.entries_for.result c.bytes_for.result = c.in-Ok.ensures.ok in
    is ∙ (ap (with_room s c.entries_for.result) c.bytes_for.ensures ∙ ap (λ e. with_room s e (bytes_for c.args.what.now)) c.entries_for.ensures)

pub returns-in-Err-Full-clause-fits : goal.returns-in-Err-Full-clause-fits
returns-in-Err-Full-clause-fits c =
    let s = c.args.hall.now in
    let full = subst (λ (e : HallFault). IsRoomAnswer s c.entries_for.result c.bytes_for.result (Err e)) c.in-Err-Full.field-0-is c.in-Err-Full.ensures.answer in
    let is : fits s c.entries_for.result c.bytes_for.result ≡ false = full.0 in
    sym (ap (λ e. fits s e (bytes_for c.args.what.now)) (sym c.entries_for.ensures) ∙ (ap (fits s c.entries_for.result) (sym c.bytes_for.ensures) ∙ is))
