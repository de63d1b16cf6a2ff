-- Lines, words and statements, each said of the text, the line or the lines as a whole.
use Rattle.std.specs.Prelude.{ℕ, Bool, true, false, ◌==◌, ◌&&◌, ◌≡◌, ◌+◌, not, List, [], ◌∷◌, ◌++◌, length, map, if◌then◌else◌, Some, None, IsTrue, ◌↔◌}
use Rattle.std.specs.List.{list_all, flat_map}
use Rattle.cts_words.specs.Grammar.{Word, Bare, Quoted, Between, text, words, is_white, is_quote, hash}
use Rattle.cts_words.specs.Statements.{lines, is_join, joins, own, statement, joined_from}

-- whether a line ends here, or white space follows
abbrev pub ends_word : List ℕ → Bool
ends_word [] = true
ends_word (c ∷ rest) = is_white c

abbrev pub ends_line : List ℕ → Bool
ends_line [] = true
ends_line (c ∷ rest) = c == hash

-- whether these bytes can begin an unquoted word
abbrev pub begins_bare : List ℕ → Bool
begins_bare [] = false
begins_bare (c ∷ w) = not (is_white c) && not (c == hash) && not (is_quote c)

abbrev pub all_white : List ℕ → Bool
all_white = list_all is_white

abbrev pub none_white : List ℕ → Bool
none_white = list_all (λ c. not (is_white c))

abbrev pub is_without : ℕ → List ℕ → Bool
is_without quote = list_all (λ c. not (c == quote))

-- No word: white space, and then the end or a comment.
pub record IsBlank (line : List ℕ) : Type 0 where
  pub white : List ℕ
  pub rest : List ℕ
  pub parts : line ≡ white ++ rest
  pub blank : IsTrue (all_white white)
  pub over : IsTrue (ends_line rest)

-- An unquoted word: white space, the word, and the rest, which is empty or begins with white space.
pub record IsBareWord (word line rest : List ℕ) : Type 0 where
  pub white : List ℕ
  pub parts : line ≡ white ++ (word ++ rest)
  pub blank : IsTrue (all_white white)
  pub begin : IsTrue (begins_bare word)
  pub bytes : IsTrue (none_white word)
  pub over : IsTrue (ends_word rest)

-- A quoted word: white space, a quote, bytes without that quote, the quote, and the rest.
pub record IsQuotedWord (word line rest : List ℕ) : Type 0 where
  pub white : List ℕ
  pub quote : ℕ
  pub parts : line ≡ white ++ quote ∷ (word ++ quote ∷ rest)
  pub blank : IsTrue (all_white white)
  pub begin : IsTrue (is_quote quote)
  pub bytes : IsTrue (is_without quote word)

-- A quoted word that does not end: white space, a quote, and bytes without that quote.
pub record IsOpenWord (line : List ℕ) : Type 0 where
  pub white : List ℕ
  pub quote : ℕ
  pub word : List ℕ
  pub parts : line ≡ white ++ quote ∷ word
  pub blank : IsTrue (all_white white)
  pub begin : IsTrue (is_quote quote)
  pub bytes : IsTrue (is_without quote word)

abbrev pub IsWord : Word → List ℕ → List ℕ → Type 0
IsWord (Bare w) line rest = IsBareWord w line rest
IsWord (Quoted w) line rest = IsQuotedWord w line rest

-- The line is these words, and then what End says.
abbrev pub SpellsThen : (List ℕ → Type 0) → List Word → List ℕ → Type 0
SpellsThen End [] line = End line
SpellsThen End (w ∷ ws) line = (rest : List ℕ) × IsWord w line rest × SpellsThen End ws rest

abbrev pub Spells : List ℕ → List Word → Type 0
Spells line ws = SpellsThen IsBlank ws line

-- The line is some words, and then a quoted word that does not end.
abbrev pub LeavesOpen : List ℕ → Type 0
LeavesOpen line = (ws : List Word) × SpellsThen IsOpenWord ws line

-- A text is cut after each line feed, and its last line may end with the text.
abbrev pub LinesEndAtFeeds : Type 0
LinesEndAtFeeds = (line rest : List ℕ) → IsTrue (is_without 10 line) → lines (line ++ 10 ∷ rest) ≡ line ∷ lines rest

abbrev pub LastLineEndsTheText : Type 0
LastLineEndsTheText = (c : ℕ) (line : List ℕ) → IsTrue (is_without 10 (c ∷ line)) → lines (c ∷ line) ≡ (c ∷ line) ∷ []

-- A line has words exactly where it spells them, and none exactly where it leaves a quote open.
abbrev pub WordsAreSpelled : Type 0
WordsAreSpelled = (line : List ℕ) (ws : List Word) → (words Between line ≡ Some ws) ↔ Spells line ws

abbrev pub OpenQuotesAreLeft : Type 0
OpenQuotesAreLeft = (line : List ℕ) → (words Between line ≡ None) ↔ LeavesOpen line

-- Lines that join, up to the first that does not, make one statement of all their own words, with
-- the number of the first of them.
abbrev pub JoinedLinesAreStatements : Type 0
JoinedLinesAreStatements = (n : ℕ) (front : List (List Word)) (last : List Word) (rest : List (List Word))
    → IsTrue (list_all joins front) → joins last ≡ false
    → joined_from n (front ++ last ∷ rest) ≡ statement n (flat_map own (front ++ last ∷ [])) ++ joined_from (n + length front + 1) rest

-- The words of a line are its own words, and the join word where it joins.
abbrev pub JoinWordEndsTheLine : Type 0
JoinWordEndsTheLine = (ws : List Word) (w : Word) → (joins (ws ++ w ∷ []) ≡ is_join w)
    × (own (ws ++ w ∷ []) ≡ map text (if is_join w then ws else ws ++ w ∷ []))
