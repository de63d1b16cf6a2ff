-- The table of lines: the keywords, and what the words after each have to be.
use Rattle.std.specs.Prelude.{ℕ, Bool, ◌==◌, List, [], ◌∷◌, length, codes, Option, Some, None}
use Rattle.cts_reader.specs.Words.{keyword_in}
use Rattle.cts_scriptread.specs.declared.form.Field.{Field}
use Rattle.cts_scriptread.specs.declared.form.Field.TheVariants as field
use Rattle.cts_scriptread.specs.declared.form.Keyword.{Keyword}
use Rattle.cts_scriptread.specs.declared.form.Keyword.TheVariants as keyword

-- the keywords, which are read in any case
abbrev pub keywords : List (List ℕ × Keyword)
keywords =
    (codes "TIME", keyword.Time)
    ∷ (codes "OPEN", keyword.Open)
    ∷ (codes "BYTES", keyword.Bytes)
    ∷ (codes "CLOSE", keyword.Close)
    ∷ (codes "WRITE", keyword.Write)
    ∷ (codes "CALL", keyword.Call)
    ∷ (codes "DRAIN", keyword.Drain)
    ∷ (codes "STOP", keyword.Stop) ∷ []

unfoldable pub keyword_of : List ℕ → Option Keyword
keyword_of word = keyword_in keywords word

-- what each word after a keyword has to be
abbrev pub fields : Keyword → List Field
fields keyword.Time = field.Number ∷ field.Number ∷ []
fields keyword.Open = field.Who ∷ []
fields keyword.Bytes = field.Who ∷ field.Digits ∷ []
fields keyword.Close = field.Who ∷ field.Why ∷ []
fields keyword.Write = field.Interface ∷ field.Count ∷ []
fields keyword.Call = field.Number ∷ field.Text ∷ []
fields keyword.Drain = field.Drained ∷ field.Count ∷ []
fields keyword.Stop = []

-- the words after a keyword are as many as those of its row
abbrev pub has_form : Keyword → List (List ℕ) → Bool
has_form keyword words = length words == length (fields keyword)

-- ---- a line

abbrev pub with_words : List (List ℕ) → Option Keyword → Option (Keyword × List (List ℕ))
with_words words None = None
with_words words (Some keyword) = Some (keyword, words)

-- the keyword of a line, if its first word is one, and the words after it
abbrev pub parts : List (List ℕ) → Option (Keyword × List (List ℕ))
parts [] = None
parts (word ∷ words) = with_words words (keyword_of word)
