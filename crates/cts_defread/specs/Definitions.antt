-- What statements define, or the first of them that is refused.
use Rattle.std.specs.Prelude.{ℕ, List, Option, Some, None, Result}
use Rattle.std.specs.List.{filter_map}
use Rattle.cts_def.specs.Packets.{DefinitionsData}
use Rattle.cts_defstatement.specs.declared.cause.DefCause.{DefCause}
use Rattle.cts_defstatement.specs.declared.line.Line.{Line}
use Rattle.cts_defstatement.specs.Lines.{line_in}
use Rattle.cts_defstatement.specs.Refusals.{word_cause}
use Rattle.cts_defread.specs.declared.drafted.Drafted.{Drafted}
use Rattle.cts_defread.specs.Causes.{opened, place_cause}
use Rattle.cts_defread.specs.Standing.{standing, set_names_of, definitions_at}
use Rattle.cts_words.specs.declared.statement.Statement.{Statement}
use Rattle.cts_words.specs.Refusals.{Refusal, or_else}
use Rattle.cts_reader.specs.Reading.{at_line, said_of}

-- ---- the cause of a statement

-- the cause that lies in what stands, of a line that is known
abbrev pub cause_of_line : List Drafted → List (List ℕ) → Option Line → Option DefCause
cause_of_line packets sets None = None
cause_of_line packets sets (Some l) = place_cause packets sets l

-- the first cause of a statement after the definitions and limits sets
abbrev pub cause_of : List Drafted → List (List ℕ) → List (List ℕ) → Option DefCause
cause_of packets sets words = or_else (word_cause (opened packets) words) (cause_of_line packets sets (line_in words))

-- what statements say, one line each
abbrev pub lines_of : List Statement → List Line
lines_of statements = filter_map (λ (s : Statement). line_in s.words) statements

-- the first cause of a statement after others, none of which is refused
abbrev pub cause : List Statement → Statement → Option DefCause
cause before s = cause_of (standing (lines_of before)) (set_names_of (lines_of before)) s.words

-- ---- the refusal

-- the refusal of a statement after the definitions and limits sets
abbrev pub refusal_in : List Drafted → List (List ℕ) → Statement → Option (Refusal DefCause)
refusal_in packets sets s = at_line s.line (cause_of packets sets s.words)

abbrev pub refusal : List Statement → Statement → Option (Refusal DefCause)
refusal before s = refusal_in (standing (lines_of before)) (set_names_of (lines_of before)) s

-- nothing more is judged after the last statement
abbrev pub at_end : List Statement → Option (Refusal DefCause)
at_end all = None

-- ---- the definitions

-- What the statements define, or the line and the cause of the first that is refused.
abbrev pub definitions_of : List Statement → Result DefinitionsData (Refusal DefCause)
definitions_of statements = said_of refusal at_end (λ all. definitions_at (lines_of all)) statements
