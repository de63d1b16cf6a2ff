-- Why a command halts, from what the crates below say.
use Rattle.std.specs.Prelude.{ℕ, List, codes, Result, Ok, Err}
use Rattle.cts_chain.specs.declared.build.ChainFault.{ChainFault}
use Rattle.cts_chain.specs.declared.build.ChainFault.TheVariants as chain
use Rattle.cts_defstatement.specs.Causes.{cause_name}
use Rattle.cts_plan.specs.Causes.{name_of_cause}
use Rattle.cts_scriptread.specs.Causes.{name_of_cause as name_of_script_cause}
use Rattle.cts_words.specs.declared.fault.WordFault.{WordFault}
use Rattle.cts_words.specs.declared.fault.WordFault.TheVariants as words
use Rattle.cts_run.specs.declared.halt.Halt.{Halt}
use Rattle.cts_run.specs.declared.halt.Halt.TheVariants.{Memory, WriteFault, LogFault, Refused, ShelfEmpty}
use Rattle.cts_run.specs.declared.halt.cause.Cause.{Cause}
use Rattle.cts_run.specs.declared.halt.cause.Cause.TheVariants as cause
use Rattle.cts_run.specs.declared.halt.file_kind.FileKind.{FileKind}
use Rattle.cts_run.specs.declared.halt.file_kind.FileKind.TheVariants.{Configuration, Script}
use Rattle.cts_run.specs.declared.putting.Undone.{Undone}
use Rattle.cts_run.specs.declared.putting.Undone.TheVariants as undone

-- a cause as it is printed
abbrev pub cause_text : Cause → List ℕ
cause_text cause.TooLarge = codes "TooLarge"
cause_text cause.OpenQuote = codes "OpenQuote"
cause_text cause.DanglingJoin = codes "DanglingJoin"
cause_text cause.NotText = codes "NotText"
cause_text cause.WrongCount = codes "WrongCount"
cause_text (cause.Definition c) = cause_name c
cause_text (cause.Site c) = name_of_cause c
cause_text (cause.Script c) = name_of_script_cause c
cause_text cause.NotEnabled = codes "NotEnabled"

-- the cause of a fault of the words; of a script it is that of a wrong number of words
abbrev pub words_cause : FileKind → Cause → Cause
words_cause Configuration c = c
words_cause Script c = cause.WrongCount

-- a fault of the words of a file; a text that is none has no lines
abbrev pub words_halt : FileKind → List ℕ → WordFault → Halt
words_halt kind name (words.OpenQuote line) = Refused name kind line (words_cause kind cause.OpenQuote)
words_halt kind name (words.DanglingJoin line) = Refused name kind line (words_cause kind cause.DanglingJoin)
words_halt kind name (words.NotText place) = Refused name kind 0 (words_cause kind cause.NotText)
words_halt kind name words.Memory = Memory

-- a shelf without enough boxes of a kind, or want of memory
abbrev pub chain_halt : ChainFault → Halt
chain_halt (chain.ShelfEmpty kind needed stocked) = ShelfEmpty kind needed stocked
chain_halt chain.Memory = Memory

-- what was not done outside
abbrev pub undone_halt : Undone → Halt
undone_halt undone.WriteFault = WriteFault
undone_halt undone.LogFault = LogFault
undone_halt undone.Memory = Memory

abbrev pub put_answer : Result (Unit {0}) Undone → Result (Unit {0}) Halt
put_answer (Ok done) = Ok done
put_answer (Err why) = Err (undone_halt why)
