-- How the values of the reading code are seen.
use Rattle.std.specs.Prelude.{Bool, false, ◌∷◌, not, ◌==◌, ◌≡◌, ℕ, ◌<◌, List, [], length, Some, None}
use Rattle.cts_words.specs.Grammar.{Word, Bare, Quoted, Between, words, with_word, is_white}
use Rattle.cts_words.specs.declared.line.Piece.{Piece}
use Rattle.cts_words.specs.declared.line.Piece.TheVariants as piece
use Rattle.cts_words.specs.declared.line.Stop.{Stop}
use Rattle.cts_words.specs.declared.line.Stop.TheVariants as stop
use Rattle.cts_words.specs.declared.line.Next.{Next}
use Rattle.cts_words.specs.declared.line.Next.TheVariants as next

abbrev pub word_of : Piece → Word
word_of (piece.Bare w) = Bare w.now
word_of (piece.Quoted w) = Quoted w.now

-- What stands next in a line: the end, a quote that does not end, or a word and what follows it.
abbrev pub NextIs : List ℕ → Next → Type 0
NextIs line next.End = words Between line ≡ Some []
NextIs line next.Open = words Between line ≡ None
NextIs line (next.Word w rest) = (words Between line ≡ with_word (word_of w) (words Between rest.now)) × (length rest.now < length line)

abbrev pub stops : Stop → ℕ → Bool
stops stop.White b = is_white b
stops stop.Black b = not (is_white b)
stops (stop.Byte c) b = b == c

abbrev pub IsBlackFirst : List ℕ → Type 0
IsBlackFirst [] = Unit {0}
IsBlackFirst (c ∷ rest) = is_white c ≡ false
