-- What the words of the command line ask for.
use Rattle.std.specs.Prelude.{ℕ, nat_eq, nat_le, nat_lt, List, [], ◌∷◌, length, slice_index, Bool, ◌&&◌, codes}
use Rattle.std.specs.Prelude.{Option, Some, None, option_map, ℤ, pos, negsuc, if◌then◌else◌}
use Rattle.cts_base.specs.Wholes.{whole_of}
use Rattle.std.specs.Cmp.Lexicographic.{pointwise}
use Rattle.cts_run.specs.declared.words.Command.{Command}
use Rattle.cts_run.specs.declared.words.Command.TheVariants.{Check, Replay, Rehearse, Dump, Play, Extract, Hub}
use Rattle.cts_extract.specs.Words.{kind_named}
use Rattle.cts_run.specs.Wanted.{wanted_of}

abbrev pub is_word : List ℕ → List ℕ → Bool
is_word = pointwise nat_eq

-- from 1 to 1,000,000, where the first digit is not 0
abbrev pub most : ℕ
most = 1000000

abbrev pub up_to_most : Option ℤ → Option ℕ
up_to_most None = None
up_to_most (Some (pos n)) = if nat_le n most then Some n else None
up_to_most (Some (negsuc n)) = None

-- the number of a rehearsal that a word writes: a whole number of that size that begins with a digit 1 to 9, so without sign and
-- leading zero, and so in decimal digits
unfoldable pub rehearsal_number : List ℕ → Option ℕ
rehearsal_number word =
    if nat_lt (slice_index word 0) 49 then None
    else if nat_lt 57 (slice_index word 0) then None else up_to_most (whole_of word)

-- columns, where the words are as many and fit them
abbrev pub extract_asked : List (List ℕ) → Option Command
extract_asked (definitions ∷ log ∷ target ∷ packet ∷ kind ∷ items ∷ []) =
    option_map (Extract definitions log) (wanted_of target packet items (kind_named kind))
extract_asked words = None

-- a hub, where the words are as many
abbrev pub hub_asked : List (List ℕ) → Option Command
hub_asked (definitions ∷ site ∷ script ∷ below ∷ who ∷ name ∷ cut ∷ []) =
    Some (Hub definitions site script below (record { who = who; name = name; cut = cut }))
hub_asked words = None

-- the greatest number of files of a dump
abbrev pub most_logs : ℕ
most_logs = 64

-- a dump of these files
abbrev pub dump_asked : List (List ℕ) → Option Command
dump_asked logs = if nat_lt 0 (length logs) && nat_le (length logs) most_logs then Some (Dump logs) else None

-- a command over a site that reads one more file
abbrev pub sited_asked : List ℕ → List ℕ → List ℕ → List ℕ → Option Command
sited_asked command definitions site last =
    if is_word command (codes "replay") then Some (Replay definitions site last)
    else if is_word command (codes "play") then Some (Play definitions site last) else None

-- the command of this name that takes as many words, if they fit it
abbrev pub asked_of : List ℕ → List (List ℕ) → Option Command
asked_of command (number ∷ []) = if is_word command (codes "rehearse") then option_map Rehearse (rehearsal_number number) else None
asked_of command (definitions ∷ site ∷ []) = if is_word command (codes "check") then Some (Check definitions site) else None
asked_of command (definitions ∷ site ∷ last ∷ []) = sited_asked command definitions site last
asked_of command words = None

-- the command that the words ask for, if they fit one
abbrev pub asked : List (List ℕ) → Option Command
asked [] = None
asked (command ∷ words) =
    if is_word command (codes "dump") then dump_asked words
    else if is_word command (codes "extract") then extract_asked words
    else if is_word command (codes "hub") then hub_asked words else asked_of command words
