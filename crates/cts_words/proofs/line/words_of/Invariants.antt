use Rattle.std.proofs.Common.{◌≡◌, length, map}
use Rattle.cts_words.specs.Grammar.{words, Between}
use Rattle.cts_words.specs.Seen.{word_of}
use Rattle.cts_words.proofs.Words.{with_words}
use Rattle.cts_words.proofs.line.words_of.Given as goal

abbrev pub invariant-loop-found : goal.invariant-loop-found
invariant-loop-found l = with_words (map word_of l.found.items) (words Between l.rest) ≡ words Between l.line

abbrev pub decreases-loop-found : goal.decreases-loop-found
decreases-loop-found l = length l.rest
