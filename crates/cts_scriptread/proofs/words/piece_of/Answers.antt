use Rattle.std.proofs.Common.{Some, ap, sym, ◌∙◌}
use Rattle.cts_scriptread.proofs.DigitPairs.{no_piece, one_piece}
use Rattle.cts_scriptread.proofs.words.piece_of.Goals as goal

pub returns-then-not-is_piece_size : goal.returns-then-not-is_piece_size
returns-then-not-is_piece_size c = no_piece c.args.word.now (sym c.is_piece_size.ensures ∙ c.if-not-is_piece_size.true)

pub returns-in-Some : goal.returns-in-Some
returns-in-Some c =
    one_piece c.args.word.now c.of.result (ap Some c.of.ensures ∙ (rw c.in-Some.is at c.in_ok-bytes.ensures)) (sym c.is_piece_size.ensures ∙ c.if-not-is_piece_size.false)
