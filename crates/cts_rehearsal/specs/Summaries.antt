-- The eight lines of a rehearsal.
use Rattle.std.specs.Prelude.{ℕ, List, ◌++◌, length, codes}
use Rattle.std.specs.Fmt.{decimal}
use Rattle.hex.specs.Hex.{encode_lower}
use Rattle.md5.specs.Md5.{md5}
use Rattle.cts_rehearsal.specs.declared.tally.Tally.{Tally}

-- the first three lines
abbrev pub counts_text : ℕ → ℕ → ℕ → List ℕ
counts_text entries packets commands = codes "entries " ++ decimal entries ++ codes "\npackets " ++ decimal packets ++ codes "\ncommands "
    ++ decimal commands ++ codes "\n"

-- the next ones, up to the digest of the log
abbrev pub more_counts_text : ℕ → ℕ → ℕ → List ℕ
more_counts_text refused limits bytes = codes "refused " ++ decimal refused ++ codes "\nevents " ++ decimal limits ++ codes "\nlog bytes "
    ++ decimal bytes ++ codes "\nlog md5 "

-- its eight lines, by the numbers of entries and of limits events
abbrev pub summary_text : ℕ → ℕ → Tally → List ℕ
summary_text entries limits tally =
    counts_text entries tally.packets tally.commands ++ (more_counts_text tally.refused limits (length tally.log)
    ++ (encode_lower (md5 tally.log) ++ (codes "\nEND " ++ decimal entries ++ codes "\n")))
