-- Refusals as they are told.
use Rattle.std.specs.Prelude.{ℕ, ℤ, Bool, true, false, List, [], ◌++◌, codes}
use Rattle.std.specs.Fmt.{signed_decimal}
use Rattle.cts_cmd.specs.declared.refused.Refused.{Refused}
use Rattle.cts_cmd.specs.declared.refused.Refused.TheVariants.{UnknownTarget, UnknownCommand, UnknownParameter, Twice, Missing, WrongType}
use Rattle.cts_cmd.specs.declared.refused.Refused.TheVariants.{UnknownState, OutOfRange, Overflow, Hazardous, Memory}

-- a value that is not within its range
abbrev pub range_text : List ℕ → ℤ → ℤ → ℤ → List ℕ
range_text name value min max =
    codes "Out of range: " ++ name ++ codes " " ++ signed_decimal value ++ codes " not in " ++ signed_decimal min ++ codes ".." ++ signed_decimal max

-- Why a command is refused, with the name of the parameter as it is in the refusal. Want of memory is told nobody.
abbrev pub refusal_text : Refused → List ℕ
refusal_text UnknownTarget = codes "Unknown target"
refusal_text UnknownCommand = codes "Unknown command"
refusal_text (UnknownParameter name) = codes "Unknown parameter: " ++ name
refusal_text (Twice name) = codes "Given twice: " ++ name
refusal_text (Missing name) = codes "Missing: " ++ name
refusal_text (WrongType name) = codes "Wrong type: " ++ name
refusal_text (UnknownState name) = codes "Unknown state: " ++ name
refusal_text (OutOfRange name value min max) = range_text name value min max
refusal_text (Overflow name) = codes "Overflow: " ++ name
refusal_text Hazardous = codes "Hazardous"
refusal_text Memory = []

-- whether it is told
abbrev pub has_words : Refused → Bool
has_words UnknownTarget = true
has_words UnknownCommand = true
has_words (UnknownParameter name) = true
has_words (Twice name) = true
has_words (Missing name) = true
has_words (WrongType name) = true
has_words (UnknownState name) = true
has_words (OutOfRange name value min max) = true
has_words (Overflow name) = true
has_words Hazardous = true
has_words Memory = false
