use Rattle.std.proofs.Common.{◌≡◌, ◌++◌, take, map}
use Rattle.cts_words.specs.Grammar.{text}
use Rattle.cts_words.specs.Seen.{word_of}
use Rattle.cts_words.proofs.joiner.push_texts.Given as goal

abbrev pub invariant-loop-piece : goal.invariant-loop-piece
invariant-loop-piece l = l.words.items ≡ l.fn.words.items ++ map text (map word_of (take l.piece-index l.pieces))
