use Rattle.std.proofs.Common.{sym, ◌≡◌, get_or, rules, None, false}
use Rattle.std.proofs.lemmas.Option.{get_or_from_slice_get}
use Rattle.cts_monitor.specs.Brought.{brings}
use Rattle.cts_monitor.specs.Grid.{is_setting, known_part}
use Rattle.cts_monitor.proofs.NoteSteps.{note_nothing}
use Rattle.cts_monitor.proofs.grid.Grid.note.Goals as goal

pub returns-in_default-clause-tells : goal.returns-in_default-clause-tells
returns-in_default-clause-tells g c =
    let e = c.lend-entry.result.now in
    let is : e ≡ get_or (g.H.Stands.list c.args.history.now) c.args.at e = sym (get_or_from_slice_get (g.H.Stands.list c.args.history.now) c.args.at _ _ c.lend-entry.ensures) in
    let off : is_setting e.what ≡ false = search rules in
    let none : known_part (brings e.what) ≡ None = search rules in
    note_nothing c.args.site.now (g.H.Stands.list c.args.history.now) c.args.at e c.requires.place is c.args.self.now off none c.requires.tells
