-- Why the words of a statement are refused, by what is open before it and the words alone.
use Rattle.std.specs.Prelude.{ℕ, Bool, true, false, not, ◌||◌, List, [], ◌∷◌, ◌++◌, codes, Option, Some, None, is_none, find, if◌then◌else◌}
use Rattle.cts_defstatement.specs.declared.cause.DefCause.{DefCause}
use Rattle.cts_defstatement.specs.declared.cause.DefCause.TheVariants.{UnknownKeyword, OutsidePacket, WrongCount, BadName, FloatItem, DerivedItem}
use Rattle.cts_defstatement.specs.declared.cause.DefCause.TheVariants.{ArrayItem, NotNumber}
use Rattle.cts_defstatement.specs.declared.keyword.Keyword.{Keyword}
use Rattle.cts_defstatement.specs.declared.keyword.Keyword.TheVariants.{Command, Telemetry, Item, Parameter, Hazardous, Meta, AllowShort}
use Rattle.cts_defstatement.specs.declared.keyword.Field.{Field}
use Rattle.cts_defstatement.specs.declared.open.Open.{Open}
use Rattle.cts_defstatement.specs.declared.open.Open.TheVariants as open_
use Rattle.cts_defstatement.specs.declared.open.PacketKind.{PacketKind}
use Rattle.cts_defstatement.specs.declared.open.PacketKind.TheVariants as «kind»
use Rattle.cts_defstatement.specs.Fields.{is_other_choice, is_bad_name, is_type_of, is_no_number}
use Rattle.cts_defstatement.specs.Forms.{wanted, more, fits, keyword_of, kind_of_keyword, is_array_keyword}
use Rattle.cts_reader.specs.Words.{any_word}

-- the kind of the open definition
abbrev pub open_kind : Open → Option PacketKind
open_kind open_.Nothing = None
open_kind (open_.Packet k) = Some k
open_kind (open_.Item k) = Some k

abbrev pub has_item : Open → Bool
has_item (open_.Item k) = true
has_item _ = false

-- the kind by which a form is chosen, where it matters
abbrev pub form_kind : Option PacketKind → PacketKind
form_kind None = «kind».Telemetry
form_kind (Some k) = k

abbrev pub are_other_kinds : PacketKind → PacketKind → Bool
are_other_kinds «kind».Telemetry «kind».Command = true
are_other_kinds «kind».Command «kind».Telemetry = true
are_other_kinds _ _ = false

-- the keyword is of the other kind of definition than the one that is open
abbrev pub is_of_other_kind : Option PacketKind → Option PacketKind → Bool
is_of_other_kind (Some k) (Some j) = are_other_kinds k j
is_of_other_kind _ _ = false

-- what has to be open before a statement: nothing, a definition, or an item
abbrev pub is_outside : Open → Keyword → Bool
is_outside opened Command = false
is_outside opened Telemetry = false
is_outside opened (Item append id) = is_none (open_kind opened)
is_outside opened (Parameter append id) = is_none (open_kind opened)
is_outside opened Hazardous = is_none (open_kind opened)
is_outside opened Meta = is_none (open_kind opened)
is_outside opened AllowShort = is_none (open_kind opened)
is_outside opened _ = not (has_item opened)

-- what the words have to be, also those that may be left out
abbrev pub fields : Open → Keyword → List (List ℕ) → List Field
fields opened k words = wanted k words ++ more (form_kind (open_kind opened)) k

abbrev pub holds : DefCause → Open → Keyword → List (List ℕ) → Bool
holds UnknownKeyword opened k words = is_of_other_kind (open_kind opened) (kind_of_keyword k)
holds OutsidePacket opened k words = is_outside opened k
holds WrongCount opened k words =
    not (fits (form_kind (open_kind opened)) k words) || any_word is_other_choice (fields opened k words) words
holds BadName opened k words = any_word is_bad_name (fields opened k words) words
holds FloatItem opened k words = any_word (is_type_of (codes "FLOAT")) (fields opened k words) words
holds DerivedItem opened k words = any_word (is_type_of (codes "DERIVED")) (fields opened k words) words
holds ArrayItem opened k words = any_word (is_type_of (codes "ARRAY")) (fields opened k words) words
holds NotNumber opened k words = any_word is_no_number (fields opened k words) words
holds _ opened k words = false

-- the causes of words, in the order in which they are tried
abbrev pub word_order : List DefCause
word_order = UnknownKeyword ∷ OutsidePacket ∷ WrongCount ∷ BadName ∷ FloatItem ∷ DerivedItem ∷ ArrayItem ∷ NotNumber ∷ []

abbrev pub keyword_cause : Open → Option Keyword → List (List ℕ) → Option DefCause
keyword_cause opened None words = Some UnknownKeyword
keyword_cause opened (Some k) words = find (λ c. holds c opened k words) word_order

-- The first cause for which the words of a statement are refused, the first of which is the keyword.
abbrev pub word_cause : Open → List (List ℕ) → Option DefCause
word_cause opened [] = Some UnknownKeyword
word_cause opened (word ∷ words) = if is_array_keyword word then Some ArrayItem else keyword_cause opened (keyword_of word) words
