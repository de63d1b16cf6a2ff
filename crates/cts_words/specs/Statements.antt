-- The statements of a text, and its faults.
use Rattle.std.specs.Prelude.{ℕ, suc, Bool, false, ◌==◌, ◌≡◌, if◌then◌else◌, List, [], ◌∷◌, ◌++◌, length, map, Option, Some, None, is_some, unwrap_or}
use Rattle.std.specs.Prelude.{Result, Ok, Err}
use Rattle.std.specs.Str.{is_utf8}
use Rattle.std.specs.Str.Lossy.{utf8_valid_len}
use Rattle.cts_words.specs.Grammar.{Word, Bare, Quoted, Between, text, words}
use Rattle.cts_words.specs.declared.fault.WordFault.{WordFault}
use Rattle.cts_words.specs.declared.fault.WordFault.TheVariants.{OpenQuote, DanglingJoin, NotText}
use Rattle.cts_words.specs.declared.statement.Statement.{Statement}

-- ---- lines

abbrev pub with_front : ℕ → List (List ℕ) → List (List ℕ)
with_front c [] = (c ∷ []) ∷ []
with_front c (line ∷ lines) = (c ∷ line) ∷ lines

-- The lines of a text: each ends with a line feed, or with the text.
abbrev pub lines : List ℕ → List (List ℕ)
lines [] = []
lines (c ∷ rest) = if c == 10 then [] ∷ lines rest else with_front c (lines rest)

-- The words of a line, none where a quoted word does not end.
abbrev pub line_words : List ℕ → List Word
line_words line = unwrap_or (words Between line) []

-- ---- joined lines

-- the unquoted word `&`
abbrev pub is_join : Word → Bool
is_join (Quoted w) = false
is_join (Bare []) = false
is_join (Bare (c ∷ d ∷ w)) = false
is_join (Bare (c ∷ [])) = c == 38

-- whether a line ends with the join word
abbrev pub joins : List Word → Bool
joins [] = false
joins (w ∷ []) = is_join w
joins (w ∷ v ∷ ws) = joins (v ∷ ws)

-- the words of a line without the join word at its end
abbrev pub own : List Word → List (List ℕ)
own [] = []
own (w ∷ []) = if is_join w then [] else text w ∷ []
own (w ∷ v ∷ ws) = text w ∷ own (v ∷ ws)

-- Words make a statement, none make no statement.
abbrev pub statement : ℕ → List (List ℕ) → List Statement
statement n [] = []
statement n (w ∷ ws) = record { line = n; words = w ∷ ws } ∷ []

-- The words up to the end of the joined line that the first of these lines is part of, and the
-- statements after it. The first line has number n.
abbrev pub cut : ℕ → List (List Word) → List (List ℕ) × List Statement
cut n [] = ([], [])
cut n (row ∷ rows) =
    let next = cut (suc n) rows in
    if joins row then (own row ++ next.0, next.1) else (own row, statement (suc n) next.0 ++ next.1)

-- the statements of these lines, the first of which has number n
abbrev pub joined_from : ℕ → List (List Word) → List Statement
joined_from n rows = let first = cut n rows in statement n first.0 ++ first.1

abbrev pub joined : List (List Word) → List Statement
joined rows = joined_from 1 rows

-- the statements of a text without fault
abbrev pub statements_of : List ℕ → List Statement
statements_of text = joined (map line_words (lines text))

-- ---- faults

-- Where a text is not UTF-8, the place of the first byte that begins no whole character.
abbrev pub not_text : List ℕ → Option ℕ
not_text text = if is_utf8 text then None else Some (utf8_valid_len text)

abbrev pub first_open : ℕ → List (List ℕ) → Option ℕ
first_open n [] = None
first_open n (line ∷ others) = if is_some (words Between line) then first_open (suc n) others else Some n

-- The first line on which a quoted word does not end.
abbrev pub open_quote : List ℕ → Option ℕ
open_quote text = first_open 1 (lines text)

-- whether the last line joins, where the line before these joins or not
abbrev pub dangles : Bool → List (List Word) → Bool
dangles before [] = before
dangles before (row ∷ rows) = dangles (joins row) rows

-- The line that ends with the join word and has no line after it, which can only be the last.
abbrev pub dangling_join : List ℕ → Option ℕ
dangling_join text = if dangles false (map line_words (lines text)) then Some (length (lines text)) else None

-- Where a text has each of the faults. An earlier one hides a later one.
abbrev pub IsNotTextAt : List ℕ → ℕ → Type 0
IsNotTextAt text place = not_text text ≡ Some place

abbrev pub IsOpenAt : List ℕ → ℕ → Type 0
IsOpenAt text line = (not_text text ≡ None) × (open_quote text ≡ Some line)

abbrev pub IsDanglingAt : List ℕ → ℕ → Type 0
IsDanglingAt text line = (not_text text ≡ None) × (open_quote text ≡ None) × (dangling_join text ≡ Some line)

-- ---- what a text says

-- the fault, if there is one, and else what is left to say
abbrev pub unless_fault : {X : Type 0} → (ℕ → WordFault) → Option ℕ → Result X WordFault → Result X WordFault
unless_fault fault None others = others
unless_fault fault (Some n) others = Err (fault n)

-- What a text says: its first fault in this order, and else its statements.
abbrev pub said : List ℕ → Result (List Statement) WordFault
said text =
    unless_fault NotText (not_text text)
    (unless_fault OpenQuote (open_quote text) (unless_fault DanglingJoin (dangling_join text) (Ok (statements_of text))))
