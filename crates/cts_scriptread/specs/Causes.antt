-- Why a line is refused: each cause by the site and the words of the line alone.
use Rattle.std.specs.Prelude.{ℕ, ◌/◌, Bool, false, not, ◌&&◌, List, [], ◌∷◌, length, codes, Option, Some, None, is_none, find}
use Rattle.cts_def.specs.Sites.{SiteData}
use Rattle.cts_reader.specs.Words.{any_word}
use Rattle.cts_scriptread.specs.declared.cause.ScriptCause.{ScriptCause}
use Rattle.cts_scriptread.specs.declared.cause.ScriptCause.TheVariants.{UnknownKeyword, WrongCount, NotNumber, BadHex, PieceSize, UnknownMaker, UnknownWhy}
use Rattle.cts_scriptread.specs.declared.form.Field.{Field}
use Rattle.cts_scriptread.specs.declared.form.Field.TheVariants.{Who, Interface, Drained, Number, Count, Digits, Why}
use Rattle.cts_scriptread.specs.declared.form.Keyword.{Keyword}
use Rattle.cts_scriptread.specs.Forms.{fields, has_form}
use Rattle.cts_scriptread.specs.Makers.{interface_named, slot_named, maker_named}
use Rattle.cts_scriptread.specs.Words.{number_of, count_of, are_byte_digits, is_piece_size, why_of, is_log}

-- ---- one word at its field

-- no interface or slot, no interface, or neither a slot nor the logs
abbrev pub is_unknown_maker : SiteData → Field → List ℕ → Bool
is_unknown_maker site Who word = is_none (maker_named site word)
is_unknown_maker site Interface word = is_none (interface_named site word)
is_unknown_maker site Drained word = not (is_log word) && is_none (slot_named site word)
is_unknown_maker site _ word = false

abbrev pub is_no_number : Field → List ℕ → Bool
is_no_number Number word = is_none (number_of word)
is_no_number Count word = is_none (count_of word)
is_no_number _ word = false

abbrev pub is_bad_hex : Field → List ℕ → Bool
is_bad_hex Digits word = not (are_byte_digits word)
is_bad_hex _ word = false

-- the bytes, two digits each, are none or too many
abbrev pub is_wrong_size : Field → List ℕ → Bool
is_wrong_size Digits word = not (is_piece_size (length word / 2))
is_wrong_size _ word = false

abbrev pub is_unknown_why : Field → List ℕ → Bool
is_unknown_why Why word = is_none (why_of word)
is_unknown_why _ word = false

abbrev pub no_word : Field → List ℕ → Bool
no_word field word = false

-- the cause lies in the word
abbrev pub is_against : SiteData → ScriptCause → Field → List ℕ → Bool
is_against site UnknownKeyword = no_word
is_against site WrongCount = no_word
is_against site UnknownMaker = is_unknown_maker site
is_against site NotNumber = is_no_number
is_against site BadHex = is_bad_hex
is_against site PieceSize = is_wrong_size
is_against site UnknownWhy = is_unknown_why

-- ---- a line

-- the cause holds of the words after a keyword
abbrev pub holds : SiteData → ScriptCause → Keyword → List (List ℕ) → Bool
holds site UnknownKeyword keyword words = false
holds site WrongCount keyword words = not (has_form keyword words)
holds site UnknownMaker keyword words = any_word (is_unknown_maker site) (fields keyword) words
holds site NotNumber keyword words = any_word is_no_number (fields keyword) words
holds site BadHex keyword words = any_word is_bad_hex (fields keyword) words
holds site PieceSize keyword words = any_word is_wrong_size (fields keyword) words
holds site UnknownWhy keyword words = any_word is_unknown_why (fields keyword) words

-- the order in which the causes of a known keyword are tried
abbrev pub order : List ScriptCause
order = WrongCount ∷ UnknownMaker ∷ NotNumber ∷ BadHex ∷ PieceSize ∷ UnknownWhy ∷ []

abbrev pub cause_in : SiteData → Option (Keyword × List (List ℕ)) → Option ScriptCause
cause_in site None = Some UnknownKeyword
cause_in site (Some line) = find (λ c. holds site c line.0 line.1) order

-- ---- names

abbrev pub name_of_cause : ScriptCause → List ℕ
name_of_cause UnknownKeyword = codes "UnknownKeyword"
name_of_cause WrongCount = codes "WrongCount"
name_of_cause NotNumber = codes "NotNumber"
name_of_cause BadHex = codes "BadHex"
name_of_cause PieceSize = codes "PieceSize"
name_of_cause UnknownMaker = codes "UnknownMaker"
name_of_cause UnknownWhy = codes "UnknownWhy"
