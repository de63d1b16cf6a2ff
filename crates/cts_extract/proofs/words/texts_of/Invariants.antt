use Rattle.std.proofs.Common.{◌≡◌, ◌++◌, length, map}
use Rattle.cts_extract.specs.Words.{texts_of}
use Rattle.cts_extract.proofs.words.texts_of.Given as goal

abbrev pub invariant-texts : goal.invariant-texts
invariant-texts l = map (λ t. t.now) l.texts.items ++ texts_of l.left ≡ texts_of l.word

abbrev pub decreases-texts : goal.decreases-texts
decreases-texts l = length l.left
