use Rattle.std.proofs.Common.{Option, Err, refl, sym, ap, subst}
use Rattle.std.specs.Prelude.{is_some}
use Rattle.cts_play.specs.Played.{played}
use Rattle.cts_run.specs.Command.{ShelfBy}
use Rattle.cts_run.specs.declared.halt.Halt.{Halt}
use Rattle.cts_run.specs.declared.halt.Halt.TheVariants.{LogRefused}
use Rattle.cts_run.proofs.PlayingLemmas.{no_packets}
use Rattle.cts_run.proofs.play.play_file.Goals as goal

pub play_packets-requires-clause-read : goal.play_packets-requires-clause-read
play_packets-requires-clause-read g c =
    let known = rw c.new-reader.ensures.value at c.in-Some.ensures in
    c.new-reader.ensures.reads (ap is_some known.0)

pub returns-in-None-clause-plays : goal.returns-in-None-clause-plays
returns-in-None-clause-plays g c = λ site vault e. no_packets site c.args.file.now _ (rw c.new-reader.ensures.value at c.in-None.ensures)

pub returns-in-None-clause-boxes : goal.returns-in-None-clause-boxes
returns-in-None-clause-boxes g c = λ site e.
    let stock = g.B.Stocked.stock c.args.shelf.now in
    subst (λ (h : Option Halt). ShelfBy (played 2 site) h (Err (LogRefused 0)) stock stock) (sym (rw c.new-reader.ensures.value at c.in-None.ensures)) refl
