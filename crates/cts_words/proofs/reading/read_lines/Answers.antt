use Rattle.std.proofs.Common.{map, List, ◌∷◌, ◌∙◌, ap}
use Rattle.cts_words.specs.declared.line.Piece.{Piece}
use Rattle.cts_words.specs.Joining.{ends}
use Rattle.cts_words.specs.Seen.{word_of}
use Rattle.cts_words.proofs.Lines.{goes_on}
use Rattle.cts_words.proofs.reading.read_lines.Goals as goal

pub loop-rest-preserved : goal.loop-rest-preserved
loop-rest-preserved c =
    goes_on c.loop-rest.joiner c.add.new.self (map word_of c.in_ok-row.row.items) c.cut_line.result.0.now c.loop-rest.rest.now c.cut_line.result.1.now c.args.text.now
    c.loop-rest.invariant c.cut_line.ensures.cut c.cut_line.ensures.shorter c.in_ok-row.ensures (λ rows. c.in_ok-add.ensures.adds rows ∙ ap (λ (ps : List Piece). ends c.loop-rest.joiner (map word_of ps ∷ rows)) c.deref.ensures.value) c.in_ok-add.ensures.line c.in_ok-add.ensures.idle
