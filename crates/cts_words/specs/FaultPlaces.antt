-- Where a text has a fault, said of its lines: each is a condition on the whole text.
use Rattle.std.specs.Prelude.{ℕ, ◌≡◌, ◌+◌, List, [], ◌∷◌, ◌++◌, length, Some, None, ◌↔◌}
use Rattle.std.specs.List.{AllByRecursion}
use Rattle.cts_words.specs.Grammar.{Word, Bare}
use Rattle.cts_words.specs.Spelling.{Spells, LeavesOpen}
use Rattle.cts_words.specs.Statements.{lines, open_quote, dangling_join}

-- every quoted word of the line ends
abbrev pub IsClosed : List ℕ → Type 0
IsClosed line = LeavesOpen line → ⊥

-- The text has so many lines up to and with one on which a quoted word does not end, and every quoted word ends on the
-- lines before it.
pub record IsFirstOpenLine (text : List ℕ) (number : ℕ) : Type 0 where
  pub front : List (List ℕ)
  pub line : List ℕ
  pub later : List (List ℕ)
  pub parts : lines text ≡ front ++ line ∷ later
  pub number_is : number ≡ length front + 1
  pub closed : AllByRecursion IsClosed front
  pub left_open : LeavesOpen line

-- The quote that is told is the first one that is left open, and none is told exactly where none is left open.
abbrev pub FirstOpenQuoteIsTold : Type 0
FirstOpenQuoteIsTold = (text : List ℕ) (number : ℕ) → (open_quote text ≡ Some number) ↔ IsFirstOpenLine text number

abbrev pub ClosedQuotesAreNotTold : Type 0
ClosedQuotesAreNotTold = (text : List ℕ) → (open_quote text ≡ None) ↔ AllByRecursion IsClosed (lines text)

-- the last word of the line is the unquoted word `&`
abbrev pub EndsWithJoinWord : List ℕ → Type 0
EndsWithJoinWord line = (ws : List Word) × Spells line (ws ++ Bare (38 ∷ []) ∷ [])

-- The text has so many lines, and the last of them ends with the join word.
pub record IsJoinedToNothing (text : List ℕ) (number : ℕ) : Type 0 where
  pub front : List (List ℕ)
  pub last : List ℕ
  pub parts : lines text ≡ front ++ last ∷ []
  pub number_is : number ≡ length front + 1
  pub joins : EndsWithJoinWord last

abbrev pub JoinToNothingIsTold : Type 0
JoinToNothingIsTold = (text : List ℕ) (number : ℕ) → (dangling_join text ≡ Some number) ↔ IsJoinedToNothing text number
