-- The table of statements: the keywords, and which words follow each.
use Rattle.std.specs.Prelude.{ℕ, ◌+◌, Bool, true, false, ◌&&◌, ◌||◌, ◌==◌, nat_le, List, [], ◌∷◌, ◌++◌, length, take, codes, Option, Some, None, if◌then◌else◌}
use Rattle.cts_base.specs.Names.{spells}
use Rattle.cts_def.specs.Items.{is_same}
use Rattle.cts_reader.specs.Words.{word_at, keyword_in}
use Rattle.cts_defstatement.specs.declared.keyword.Keyword.{Keyword}
use Rattle.cts_defstatement.specs.declared.keyword.Keyword.TheVariants.{Command, Telemetry, Item, Parameter, State, Limits, Poly, Segment, Units}
use Rattle.cts_defstatement.specs.declared.keyword.Keyword.TheVariants.{Format, Overflow, Required, Hazardous, Meta, AllowShort}
use Rattle.cts_defstatement.specs.declared.keyword.Field.{Field}
use Rattle.cts_defstatement.specs.declared.keyword.Field.TheVariants as field
use Rattle.cts_defstatement.specs.declared.open.PacketKind.{PacketKind}
use Rattle.cts_defstatement.specs.declared.open.PacketKind.TheVariants as «kind»

abbrev pub keywords : List (List ℕ × Keyword)
keywords =
    (codes "COMMAND", Command) ∷ (codes "TELEMETRY", Telemetry)
    ∷ (codes "ITEM", Item false false) ∷ (codes "APPEND_ITEM", Item true false)
    ∷ (codes "ID_ITEM", Item false true) ∷ (codes "APPEND_ID_ITEM", Item true true)
    ∷ (codes "PARAMETER", Parameter false false) ∷ (codes "APPEND_PARAMETER", Parameter true false)
    ∷ (codes "ID_PARAMETER", Parameter false true) ∷ (codes "APPEND_ID_PARAMETER", Parameter true true)
    ∷ (codes "STATE", State) ∷ (codes "LIMITS", Limits)
    ∷ (codes "POLY_READ_CONVERSION", Poly) ∷ (codes "SEG_POLY_READ_CONVERSION", Segment)
    ∷ (codes "UNITS", Units) ∷ (codes "FORMAT_STRING", Format) ∷ (codes "OVERFLOW", Overflow)
    ∷ (codes "REQUIRED", Required) ∷ (codes "HAZARDOUS", Hazardous)
    ∷ (codes "META", Meta) ∷ (codes "ALLOW_SHORT", AllowShort) ∷ []

abbrev pub keyword_of : List ℕ → Option Keyword
keyword_of word = keyword_in keywords word

-- the word begins with this text, in any case
abbrev pub begins_with : List ℕ → List ℕ → Bool
begins_with text word = nat_le (length text) (length word) && spells (take (length text) word) text

-- this text, of one byte at least, stands somewhere in the word, in any case
abbrev pub is_within : List ℕ → List ℕ → Bool
is_within text [] = false
is_within text (c ∷ rest) = begins_with text (c ∷ rest) || is_within text rest

-- a keyword for arrays, of which no other cause is tried
abbrev pub is_array_keyword : List ℕ → Bool
is_array_keyword word = is_within (codes "ARRAY_ITEM") word || is_within (codes "ARRAY_PARAMETER") word

-- the kind of definition for which a keyword is, where it is for one alone
abbrev pub kind_of_keyword : Keyword → Option PacketKind
kind_of_keyword (Item append id) = Some «kind».Telemetry
kind_of_keyword Limits = Some «kind».Telemetry
kind_of_keyword Poly = Some «kind».Telemetry
kind_of_keyword Segment = Some «kind».Telemetry
kind_of_keyword (Parameter append id) = Some «kind».Command
kind_of_keyword Required = Some «kind».Command
kind_of_keyword Hazardous = Some «kind».Command
kind_of_keyword _ = None

-- where the size stands in the words of an item
abbrev pub size_at : Bool → ℕ
size_at append = if append then 1 else 2

-- the type of a text or block
abbrev pub is_text_type : List ℕ → Bool
is_text_type word = is_same word (codes "STRING") || is_same word (codes "BLOCK")

abbrev pub has_text_type : Bool → List (List ℕ) → Bool
has_text_type append words = is_text_type (word_at words (size_at append + 1))

-- ---- forms: what each word has to be

-- an item or parameter up to its type
abbrev pub place_fields : Bool → List Field
place_fields append =
    if append then field.Name ∷ field.Whole ∷ field.Type ∷ []
    else field.Name ∷ field.Whole ∷ field.Whole ∷ field.Type ∷ []

-- the id of an item, which may be a text or block
abbrev pub id_field : Bool → Field
id_field text = if text then field.TextId else field.Bound

-- an item, with its id if it has one
abbrev pub item_fields : Bool → Bool → Bool → List Field
item_fields append id text = place_fields append ++ (if id then id_field text ∷ [] else [])

-- a parameter that is a number: the least value, the greatest, and the default or id
abbrev pub number_fields : Bool → List Field
number_fields append = place_fields append ++ field.Bound ∷ field.Bound ∷ field.Bound ∷ []

-- A text or block has a default alone. Of an id parameter of such a type least and greatest are not read.
abbrev pub text_fields : Bool → Bool → List Field
text_fields append id =
    place_fields append ++ (if id then field.Text ∷ field.Text ∷ id_field true ∷ [] else field.Text ∷ [])

abbrev pub parameter_fields : Bool → Bool → Bool → List Field
parameter_fields append id text = if text then text_fields append id else number_fields append

abbrev pub state_wanted : List Field
state_wanted = field.Text ∷ field.Whole ∷ []

abbrev pub limits_wanted : List Field
limits_wanted =
    field.Name ∷ field.Persistence ∷ field.Enabling ∷ field.Decimal ∷ field.Decimal ∷ field.Decimal ∷ field.Decimal ∷ []

-- the words that have to be there
abbrev pub wanted : Keyword → List (List ℕ) → List Field
wanted Command words = field.Name ∷ field.Name ∷ field.Order ∷ []
wanted Telemetry words = field.Name ∷ field.Name ∷ field.Order ∷ []
wanted (Item append id) words = item_fields append id (has_text_type append words)
wanted (Parameter append id) words = parameter_fields append id (has_text_type append words)
wanted State words = state_wanted
wanted Limits words = limits_wanted
wanted Poly words = field.Decimal ∷ []
wanted Segment words = field.Decimal ∷ field.Decimal ∷ []
wanted Units words = field.Text ∷ field.Text ∷ []
wanted Format words = field.Text ∷ []
wanted Overflow words = field.Overflow ∷ []
wanted Required words = []
wanted Hazardous words = []
wanted Meta words = field.Text ∷ []
wanted AllowShort words = []

-- a description, and the order of the bytes of an item
abbrev pub last_fields : List Field
last_fields = field.Text ∷ field.Order ∷ []

-- what may stand after the name and the value of a state
abbrev pub state_fields : PacketKind → List Field
state_fields «kind».Telemetry = field.Color ∷ []
state_fields «kind».Command = field.Hazard ∷ field.Text ∷ []

-- seven coefficients more than the first
abbrev pub coefficient_fields : List Field
coefficient_fields =
    field.Decimal ∷ field.Decimal ∷ field.Decimal ∷ field.Decimal ∷ field.Decimal ∷ field.Decimal ∷ field.Decimal ∷ []

-- the words that may follow them: a description and an order, the green pair of limits, and so on
abbrev pub more : PacketKind → Keyword → List Field
more kind Command = field.Text ∷ []
more kind Telemetry = field.Text ∷ []
more kind (Item append id) = last_fields
more kind (Parameter append id) = last_fields
more kind State = state_fields kind
more kind Limits = field.Decimal ∷ field.Decimal ∷ []
more kind Poly = coefficient_fields
more kind Segment = coefficient_fields
more kind Hazardous = field.Text ∷ []
more kind _ = []

-- There are enough words and not too many: those that have to be there, and any of the others from the first on. The
-- green pair of limits is there or not, and META takes any number of words.
abbrev pub fits_in : Keyword → ℕ → ℕ → ℕ → Bool
fits_in Limits least most count = count == least || count == most
fits_in Meta least most count = nat_le least count
fits_in _ least most count = nat_le least count && nat_le count most

abbrev pub fits : PacketKind → Keyword → List (List ℕ) → Bool
fits kind k words = fits_in k (length (wanted k words)) (length (wanted k words ++ more kind k)) (length words)
