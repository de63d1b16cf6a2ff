-- What holds of scripts, said of all their statements.
use Rattle.std.specs.Prelude.{◌≡◌, ◌↔◌, ℕ, true, List, Some, None, is_some, Ok, Err}
use Rattle.std.specs.List.{AllZip, filter_map}
use Rattle.cts_def.specs.Sites.{SiteData}
use Rattle.cts_entry.specs.declared.event.Event.{Event}
use Rattle.cts_words.specs.declared.statement.Statement.{Statement}
use Rattle.cts_words.specs.Refusals.{NoneRefused, IsRefusedFirst}
use Rattle.cts_scriptread.specs.Lines.{NamesInterface, NamesSlot, NamesMaker, WritesNumber, WritesCount, Says}
use Rattle.cts_scriptread.specs.Makers.{interface_named, slot_named, maker_named}
use Rattle.cts_scriptread.specs.Scripts.{Refused, refusal_in, refusal, line_in, events_of}
use Rattle.cts_scriptread.specs.Words.{number_of, count_of}

-- The statement that is refused is the first one with a cause, and it is refused for the first of its causes.
abbrev pub RefusesTheFirst : Type 0
RefusesTheFirst = (site : SiteData) (all : List Statement) (r : Refused) → (events_of site all ≡ Err r) ↔ IsRefusedFirst (refusal site) all r

-- Where no statement has a cause, there are events.
abbrev pub TakesTheOthers : Type 0
TakesTheOthers = (site : SiteData) (all : List Statement) → NoneRefused (refusal site) all → events_of site all ≡ Ok (filter_map (line_in site) all)

-- A line has no cause exactly where its words say an event.
abbrev pub LinesAreRefused : Type 0
LinesAreRefused = (site : SiteData) (s : Statement) → (refusal_in site s ≡ None) ↔ ((e : Event) × Says site s.words e)

-- an event with its line is what a statement says
abbrev pub IsOfStatement : SiteData → Statement → ℕ × Event → Type 0
IsOfStatement site s e = (e.0 ≡ s.line) × Says site s.words e.1

-- The events are one of each statement, in order, with its line: the one that its words say.
abbrev pub EventsAreOfTheirStatements : Type 0
EventsAreOfTheirStatements = (site : SiteData) (all : List Statement) (events : List (ℕ × Event)) → events_of site all ≡ Ok events
    → AllZip (IsOfStatement site) all events

-- ---- words

-- A word names an interface or slot exactly where there is one of that name.
abbrev pub MakersAreNamed : Type 0
MakersAreNamed = (site : SiteData) (word : List ℕ) → (is_some (maker_named site word) ≡ true) ↔ ((number : ℕ) × NamesMaker site word number)

abbrev pub InterfacesAreNamed : Type 0
InterfacesAreNamed = (site : SiteData) (word : List ℕ) → (is_some (interface_named site word) ≡ true) ↔ ((number : ℕ) × NamesInterface site word number)

abbrev pub SlotsAreNamed : Type 0
SlotsAreNamed = (site : SiteData) (word : List ℕ) → (is_some (slot_named site word) ≡ true) ↔ ((number : ℕ) × NamesSlot site word number)

-- A word says a number exactly where it writes it, within its bound.
abbrev pub NumbersAreWritten : Type 0
NumbersAreWritten = (word : List ℕ) (n : ℕ) → (number_of word ≡ Some n) ↔ WritesNumber word n

abbrev pub CountsAreWritten : Type 0
CountsAreWritten = (word : List ℕ) (n : ℕ) → (count_of word ≡ Some n) ↔ WritesCount word n
