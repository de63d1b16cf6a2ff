use Rattle.std.proofs.Common.{sym, ◌≡◌, ◌∙◌, rules, get_or, unwrap_or, false}
use Rattle.std.proofs.lemmas.Option.{get_or_from_slice_get}
use Rattle.cts_monitor.specs.Settings.{current_set, enabling_told, limits_used, may_set, persistence_told, sets_of, watched}
use Rattle.cts_monitor.proofs.NoteSteps.{setting_anew, setting_stays}
use Rattle.cts_monitor.proofs.cells.setting_after.Goals as goal

pub returns-then-not-may_set : goal.returns-then-not-may_set
returns-then-not-may_set g c =
    let w = watched c.args.of.now.packet.now c.args.of.now.item.now c.args.of.now.number c.args.of.now.index in
    let off : may_set c.args.of.now.number c.args.of.now.index c.lend-entry.result.now ≡ false = search rules in
    let is : c.lend-entry.result.now ≡ get_or (g.H.Stands.list c.args.history.now) c.args.at c.lend-entry.result.now = sym (get_or_from_slice_get (g.H.Stands.list c.args.history.now) c.args.at _ _ c.lend-entry.ensures) in
    c.requires.before ∙ setting_stays c.args.site.now (g.H.Stands.list c.args.history.now) c.args.at c.lend-entry.result.now c.requires.place is w off

pub returns : goal.returns
returns g c =
    let w = watched c.args.of.now.packet.now c.args.of.now.item.now c.args.of.now.number c.args.of.now.index in
    let is : c.lend-entry.result.now ≡ get_or (g.H.Stands.list c.args.history.now) c.args.at c.lend-entry.result.now = sym (get_or_from_slice_get (g.H.Stands.list c.args.history.now) c.args.at _ _ c.lend-entry.ensures) in
    let limits : c.or.result ≡ limits_used (current_set (g.H.Stands.list c.args.history.now)) (sets_of w (g.H.Stands.list c.args.history.now)) = search rules in
    let persistence : c.unwrap_or.result ≡ unwrap_or (persistence_told c.args.of.now.number c.args.of.now.index c.lend-entry.result.now) c.args.before.persistence = search rules in
    let enabled : c.unwrap_or-2.result ≡ unwrap_or (enabling_told c.args.of.now.number c.args.of.now.index c.lend-entry.result.now) c.args.before.enabled = search rules in
    setting_anew c.args.site.now (g.H.Stands.list c.args.history.now) c.args.at c.lend-entry.result.now c.requires.place is w c.args.before c.or.result c.unwrap_or.result c.unwrap_or-2.result c.requires.before limits persistence enabled
