-- What is said of lines that are read one by one.
use Rattle.std.specs.Prelude.{ℕ, suc, false, ◌≡◌, ◌∷◌, [], ◌+◌, if◌then◌else◌, List, ◌++◌, length, Option, Some, None, Result, Ok, Err}
use Rattle.cts_words.specs.Grammar.{Word, Between, words}
use Rattle.cts_words.specs.Statements.{joined, dangles, cut, statement}
use Rattle.cts_words.specs.declared.fault.WordFault.{WordFault}
use Rattle.cts_words.specs.declared.fault.WordFault.TheVariants.{OpenQuote, DanglingJoin}
use Rattle.cts_words.specs.declared.statement.Statement.{Statement}
use Rattle.cts_words.specs.declared.joiner.Joiner.{Joiner}

infixl 10 ◌>>=◌
abbrev pub ◌>>=◌ : {A B : Type 0} → Result A WordFault → (A → Result B WordFault) → Result B WordFault
(Ok x) >>= f = f x
(Err e) >>= f = Err e

abbrev pub or_open : ℕ → Option (List Word) → Result (List Word) WordFault
or_open n None = Err (OpenQuote n)
or_open n (Some ws) = Ok ws

-- The words of each line, the first of which has number n, or the first line with an open quote.
abbrev pub rows : ℕ → List (List ℕ) → Result (List (List Word)) WordFault
rows n [] = Ok []
rows n (line ∷ lines) = do
  row ← or_open n (words Between line)
  others ← rows (suc n) lines
  Ok (row ∷ others)

abbrev pub unless_dangling : List (List Word) → Result (List Statement) WordFault
unless_dangling rows = if dangles false rows then Err (DanglingJoin (length rows)) else Ok (joined rows)

-- What lines say.
abbrev pub lines_said : List (List ℕ) → Result (List Statement) WordFault
lines_said lines = rows 1 lines >>= unless_dangling

-- The statements of the lines that were added and of these rows after them.
abbrev pub ends : Joiner → List (List Word) → Result (List Statement) WordFault
ends j rows =
    let rest = cut (j.line + 1) rows in
    if dangles j.joined rows then Err (DanglingJoin (j.line + length rows))
    else Ok (j.done.items ++ statement j.first (j.words.items ++ rest.0) ++ rest.1)

-- The new joiner is the old one with one more row.
abbrev pub Adds : Joiner → List Word → Joiner → Type 0
Adds old row new = (rows : List (List Word)) → ends new rows ≡ ends old (row ∷ rows)

-- The joiner has no lines yet.
abbrev pub IsStart : Joiner → Type 0
IsStart j = (rows : List (List Word)) → ends j rows ≡ unless_dangling rows
