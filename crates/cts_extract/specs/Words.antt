-- What the words of a command that asks for columns say.
use Rattle.std.specs.Prelude.{ℕ, ◌==◌, Bool, nat_lt, List, [], ◌∷◌, codes, Option, Some, None, if◌then◌else◌}
use Rattle.std.specs.List.{count_by}
use Rattle.cts_conv.specs.declared.value.ValueKind.{ValueKind}
use Rattle.cts_conv.specs.declared.value.ValueKind.TheVariants.{Raw, Converted, Formatted, WithUnits}
use Rattle.cts_def.specs.Items.{is_same}

-- the kind of values that a word names, exactly as it is written here
abbrev pub kind_named : List ℕ → Option ValueKind
kind_named word =
    if is_same word (codes "RAW") then Some Raw
    else if is_same word (codes "CONVERTED") then Some Converted
    else if is_same word (codes "FORMATTED") then Some Formatted
    else if is_same word (codes "WITH_UNITS") then Some WithUnits else None

abbrev pub is_comma : ℕ → Bool
is_comma b = b == 44

-- a byte before the first of some texts
abbrev pub onto : ℕ → List (List ℕ) → List (List ℕ)
onto b [] = (b ∷ []) ∷ []
onto b (text ∷ texts) = (b ∷ text) ∷ texts

-- the texts between the commas of a word; one of them may have no bytes
abbrev pub texts_of : List ℕ → List (List ℕ)
texts_of [] = [] ∷ []
texts_of (b ∷ bs) = if is_comma b then [] ∷ texts_of bs else onto b (texts_of bs)

-- There are at most 64 texts: at most 63 commas stand between them.
abbrev pub has_few_texts : List ℕ → Bool
has_few_texts word = nat_lt (count_by is_comma word) 64
