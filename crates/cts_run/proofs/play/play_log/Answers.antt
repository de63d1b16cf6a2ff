use Rattle.std.proofs.Common.{[]}
use Rattle.cts_run.specs.Acts.{outside}
use Rattle.cts_run.specs.Story.{site_told}
use Rattle.cts_run.proofs.CommandLemmas.{no_vault}
use Rattle.cts_run.proofs.PlayLemmas.{begun, unopened}
use Rattle.cts_run.proofs.play.play_log.Goals as goal

pub play_entries-requires-clause-plays : goal.play_entries-requires-clause-plays
play_entries-requires-clause-plays g c =
    let on = site_told c.args.story.now in
    let old = outside (g.O.Sink.seen c.args.out.now) no_vault in
    (on, old, no_vault, c.in-Ok.ensures on [] old no_vault (begun on c.args.story.now old c.requires.stands))

pub returns-in-Ok : goal.returns-in-Ok
returns-in-Ok g c = λ vault.
    let on = site_told c.args.story.now in
    let old = outside (g.O.Sink.seen c.args.out.now) vault in
    c.play_entries.ensures on old vault (c.in-Ok.ensures on [] old vault (begun on c.args.story.now old c.requires.stands))

pub returns-in-Err : goal.returns-in-Err
returns-in-Err g c = λ vault.
    let on = site_told c.args.story.now in
    let old = outside (g.O.Sink.seen c.args.out.now) vault in
    unopened on c.args.reader.now c.in-Err.halt old _ c.requires.read (c.in-Err.ensures on [] old vault (begun on c.args.story.now old c.requires.stands))
