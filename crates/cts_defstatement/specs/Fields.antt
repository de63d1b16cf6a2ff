-- What a word has to be at its field.
use Rattle.std.specs.Prelude.{ℕ, Bool, false, not, ◌||◌, List, codes, is_none, is_ok}
use Rattle.cts_base.specs.Names.{is_name}
use Rattle.cts_base.specs.Wholes.{whole_of}
use Rattle.cts_base.specs.Decimals.{decimal_of}
use Rattle.cts_def.specs.Items.{is_same}
use Rattle.cts_defstatement.specs.declared.field.Check.{Check}
use Rattle.cts_defstatement.specs.declared.field.Check.TheVariants as check
use Rattle.cts_defstatement.specs.declared.keyword.Field.{Field}
use Rattle.cts_defstatement.specs.declared.keyword.Field.TheVariants as field
use Rattle.cts_defstatement.specs.Numbers.{order_of, kind_of, is_bound, is_bound_of_types, persistence_of}

-- the types that are known, those that no item may have among them
abbrev pub is_type : List ℕ → Bool
is_type word =
    not (is_none (kind_of word)) || is_same word (codes "FLOAT") || is_same word (codes "DERIVED") || is_same word (codes "ARRAY")

abbrev pub is_enabling : List ℕ → Bool
is_enabling word = is_same word (codes "ENABLED") || is_same word (codes "DISABLED")

abbrev pub is_color : List ℕ → Bool
is_color word = is_same word (codes "GREEN") || is_same word (codes "YELLOW") || is_same word (codes "RED")

abbrev pub is_overflow : List ℕ → Bool
is_overflow word = is_same word (codes "ERROR") || is_same word (codes "TRUNCATE") || is_same word (codes "SATURATE")

-- a fixed word that is none of its choices
abbrev pub is_other_choice : Field → List ℕ → Bool
is_other_choice field.Order word = is_none (order_of word)
is_other_choice field.Type word = not (is_type word)
is_other_choice field.Enabling word = not (is_enabling word)
is_other_choice field.Color word = not (is_color word)
is_other_choice field.Hazard word = not (is_same word (codes "HAZARDOUS"))
is_other_choice field.Overflow word = not (is_overflow word)
is_other_choice _ word = false

abbrev pub is_bad_name : Field → List ℕ → Bool
is_bad_name field.Name word = not (is_name word)
is_bad_name _ word = false

-- a type with this word
abbrev pub is_type_of : List ℕ → Field → List ℕ → Bool
is_type_of text field.Type word = is_same word text
is_type_of text _ word = false

abbrev pub is_no_number : Field → List ℕ → Bool
is_no_number field.Whole word = is_none (whole_of word)
is_no_number field.Bound word = not (is_bound word)
is_no_number field.TextId word = not (is_bound_of_types word)
is_no_number field.Decimal word = not (is_ok (decimal_of word))
is_no_number field.Persistence word = is_none (persistence_of word)
is_no_number _ word = false

-- a word fails this check at its field
abbrev pub fails : Check → Field → List ℕ → Bool
fails check.Choice = is_other_choice
fails check.Name = is_bad_name
fails check.NotFloat = is_type_of (codes "FLOAT")
fails check.NotDerived = is_type_of (codes "DERIVED")
fails check.NotArray = is_type_of (codes "ARRAY")
fails check.Number = is_no_number
