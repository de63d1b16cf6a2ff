-- The events that a script says in a site, or the first line that is refused.
use Rattle.std.specs.Prelude.{ℕ, List, Option, None, Result, Ok, Err, option_map, option_and_then}
use Rattle.std.specs.List.{filter_map}
use Rattle.std.specs.Result.{result_map_both}
use Rattle.cts_def.specs.Sites.{SiteData}
use Rattle.cts_entry.specs.declared.event.Event.{Event}
use Rattle.cts_words.specs.declared.fault.WordFault.{WordFault}
use Rattle.cts_words.specs.declared.fault.WordFault.TheVariants as word_fault
use Rattle.cts_words.specs.declared.statement.Statement.{Statement}
use Rattle.cts_words.specs.Refusals.{Refusal}
use Rattle.cts_words.specs.Statements.{said}
use Rattle.cts_reader.specs.Reading.{at_line, said_of}
use Rattle.cts_scriptread.specs.declared.cause.ScriptCause.{ScriptCause}
use Rattle.cts_scriptread.specs.declared.cause.ScriptCause.TheVariants.{WrongCount}
use Rattle.cts_scriptread.specs.declared.form.Keyword.{Keyword}
use Rattle.cts_scriptread.specs.Causes.{cause_in}
use Rattle.cts_scriptread.specs.Events.{event_of}
use Rattle.cts_scriptread.specs.Forms.{parts}

abbrev pub Refused : Type 0
Refused = Refusal ScriptCause

-- ---- one line

-- the first cause of a statement, with its line
abbrev pub refusal_in : SiteData → Statement → Option Refused
refusal_in site s = at_line s.line (cause_in site (parts s.words))

abbrev pub event_in : SiteData → List (List ℕ) → Option Event
event_in site words = option_and_then (λ (line : Keyword × List (List ℕ)). event_of site line.0 line.1) (parts words)

-- the event of a statement, with its line
abbrev pub line_in : SiteData → Statement → Option (ℕ × Event)
line_in site s = option_map (λ (e : Event). (s.line, e)) (event_in site s.words)

-- ---- all of them

-- no statement is judged by those before it, and nothing at the end
abbrev pub refusal : SiteData → List Statement → Statement → Option Refused
refusal site before s = refusal_in site s

abbrev pub no_refusal : List Statement → Option Refused
no_refusal statements = None

-- the events of the statements in order, or the first refusal
abbrev pub events_of : SiteData → List Statement → Result (List (ℕ × Event)) Refused
events_of site statements = said_of (refusal site) no_refusal (filter_map (line_in site)) statements

-- ---- a text

-- where the words of a text have a fault
abbrev pub line_of : WordFault → ℕ
line_of (word_fault.OpenQuote line) = line
line_of (word_fault.DanglingJoin line) = line
line_of (word_fault.NotText place) = 0
line_of word_fault.Memory = 0

abbrev pub script_in : SiteData → Result (List Statement) WordFault → Result (List (ℕ × Event)) Refused
script_in site (Ok statements) = events_of site statements
script_in site (Err fault) = Err (line_of fault, WrongCount)

-- a text whose words have a fault is refused at its line
abbrev pub script_of : SiteData → List ℕ → Result (List (ℕ × Event)) Refused
script_of site text = script_in site (said text)

-- ---- how contracts see an answer

abbrev pub seen : {V T E : Type 0} → (V → T) → Result V E → Result T E
seen view answer = result_map_both view (λ e. e) answer
