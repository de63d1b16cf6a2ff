use Rattle.cts_words.specs.Grammar.{words, Between}
use Rattle.cts_words.proofs.Words.{found_more}
use Rattle.cts_words.proofs.line.words_of.Goals as goal

pub loop-found-preserved : goal.loop-found-preserved
loop-found-preserved c = found_more c.loop-found.rest.now c.loop-found.found.items c.push.new.self.items c.in-Word.word (words Between c.in-Word.after.now) (words Between c.args.line.now) c.in-Word.ensures.0 c.in_ok-push-in-Word.ensures.items c.loop-found.invariant
