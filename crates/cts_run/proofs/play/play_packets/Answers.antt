use Rattle.std.proofs.Common.{ℕ, sym, ◌∙◌, ap, subst}
use Rattle.std.specs.Prelude.{IsTrue}
use Rattle.cts_core.specs.States.{opening}
use Rattle.cts_def.specs.Protocols.{is_layout}
use Rattle.cts_log.specs.Files.{flagged_of}
use Rattle.cts_play.specs.Played.{played}
use Rattle.cts_run.specs.Story.{site_told}
use Rattle.cts_run.proofs.PlayingLemmas.{layout_is, made_boxes, played_from, puts_play, unmade_boxes, unmade_play, wants_play}
use Rattle.cts_run.proofs.StoryLemmas.{site_is}
use Rattle.cts_run.proofs.play.play_packets.Goals as goal

pub play_site-requires : goal.play_site-requires
play_site-requires g c = subst (λ (n : ℕ). IsTrue (is_layout n)) (sym c.requires.layout) (layout_is (flagged_of c.args.reader.now.file))

pub returns-in-Ok-begin-clause-plays : goal.returns-in-Ok-begin-clause-plays
returns-in-Ok-begin-clause-plays g c = λ site vault e.
    let on = site_is c.in-Ok.site opening c.in-Ok-begin.story c.in-Ok-begin.ensures.gives.1 in
    puts_play site c.args.reader.now.file (site_told c.in-Ok-begin.story) c.play_log-done.result _ _ c.requires.kind
    (on ∙ (c.in-Ok.ensures ∙ (played_from c.args.layout c.args.first site e ∙ ap (λ (n : ℕ). played n site) c.requires.layout))) (c.play_log-done.ensures vault)

pub returns-in-Ok-begin-clause-boxes : goal.returns-in-Ok-begin-clause-boxes
returns-in-Ok-begin-clause-boxes g c = λ site e.
    made_boxes c.args.first site c.in-Ok.site c.args.layout c.play_log-done.result _ _ e c.in-Ok.ensures c.in-Ok-begin.ensures.taken

pub returns-in-Err-begin-clause-plays : goal.returns-in-Err-begin-clause-plays
returns-in-Err-begin-clause-plays g c = λ site vault e.
    unmade_play (g.B.Stocked.stock c.args.shelf.now) c.args.first site c.in-Ok.site c.args.layout c.args.reader.now.file c.in-Err-begin.halt _ e c.in-Ok.ensures c.requires.short c.in-Err-begin.ensures.gives.0

pub returns-in-Err-begin-clause-boxes : goal.returns-in-Err-begin-clause-boxes
returns-in-Err-begin-clause-boxes g c = λ site e.
    unmade_boxes (g.B.Stocked.stock c.args.shelf.now) _ c.args.first site c.in-Ok.site c.args.layout c.in-Err-begin.halt e c.in-Ok.ensures c.requires.short c.in-Err-begin.ensures.gives.0 c.in-Err-begin.ensures.kept

pub returns-in-Err-clause-plays : goal.returns-in-Err-clause-plays
returns-in-Err-clause-plays g c = λ site vault e. wants_play site c.args.reader.now.file _
