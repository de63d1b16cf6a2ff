-- Words by their places, and keywords in any case.
use Rattle.std.specs.Prelude.{ℕ, Bool, List, [], ◌∷◌, Option, Some, None, zip, if◌then◌else◌}
use Rattle.std.specs.List.{list_any, slice_index_or}
use Rattle.cts_base.specs.Names.{spells}

-- the word at a place, and an empty one where there is none
abbrev pub word_at : List (List ℕ) → ℕ → List ℕ
word_at words at = slice_index_or words at []

-- the word is this text in any case
unfoldable pub is_keyword : List ℕ → List ℕ → Bool
is_keyword word text = spells word text

-- the keyword of a list that the word is
abbrev pub keyword_in : {K : Type 0} → List (List ℕ × K) → List ℕ → Option K
keyword_in [] word = None
keyword_in (k ∷ list) word = if is_keyword word k.0 then Some k.1 else keyword_in list word

-- a word passes the test at its field
abbrev pub any_word : {F : Type 0} → (F → List ℕ → Bool) → List F → List (List ℕ) → Bool
any_word {F} test fields words = list_any (λ (p : F × List ℕ). test p.0 p.1) (zip fields words)
