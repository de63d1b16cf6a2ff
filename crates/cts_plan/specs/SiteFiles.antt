-- The site that statements say, or the first that is refused.
use Rattle.std.specs.Prelude.{ℕ, Bool, true, false, List, [], ◌∷◌, Option, Some, None, Result, find, if◌then◌else◌}
use Rattle.cts_def.specs.Packets.{DefinitionsData}
use Rattle.cts_def.specs.Sites.{SiteData}
use Rattle.cts_words.specs.declared.statement.Statement.{Statement}
use Rattle.cts_words.specs.Refusals.{or_else}
use Rattle.cts_reader.specs.Reading.{at_line, said_of}
use Rattle.cts_plan.specs.declared.draft.Draft.{Draft}
use Rattle.cts_plan.specs.declared.keyword.Keyword.{Keyword}
use Rattle.cts_plan.specs.declared.keyword.Keyword.TheVariants as keyword
use Rattle.cts_plan.specs.declared.line.Line.{Line}
use Rattle.cts_plan.specs.declared.fault.SiteCause.{SiteCause}
use Rattle.cts_plan.specs.declared.fault.SiteCause.TheVariants.{UnknownKeyword}
use Rattle.cts_plan.specs.Forms.{keyword_of}
use Rattle.cts_plan.specs.Lines.{line_of}
use Rattle.cts_plan.specs.Standing.{start, completed, closed, place}
use Rattle.cts_plan.specs.Causes.{holds, order}
use Rattle.cts_plan.specs.Completing.{Refused, due}

-- ---- statements

-- a known keyword, and the words after it
abbrev pub with_words : List (List ℕ) → Option Keyword → Option (Keyword × List (List ℕ))
with_words ws None = None
with_words ws (Some k) = Some (k, ws)

abbrev pub parts : List (List ℕ) → Option (Keyword × List (List ℕ))
parts [] = None
parts (w ∷ ws) = with_words ws (keyword_of w)

-- what a statement of this number says
abbrev pub line_in : ℕ → Option (Keyword × List (List ℕ)) → Option Line
line_in n None = None
line_in n (Some p) = Some (line_of n p.0 p.1)

abbrev pub line_of_statement : Statement → Option Line
line_of_statement s = line_in s.line (parts s.words)

-- an INTERFACE or ROUTER statement, which completes the interface or router before it
abbrev pub opening : Keyword → Bool
opening keyword.Interface = true
opening keyword.Router = true
opening _ = false

abbrev pub opens : Option (Keyword × List (List ℕ)) → Bool
opens None = false
opens (Some p) = opening p.0

-- what stands when a statement is judged
abbrev pub ready : Option (Keyword × List (List ℕ)) → Draft → Draft
ready p stands = if opens p then closed stands else stands

abbrev pub with_line : ℕ → Option (Keyword × List (List ℕ)) → Draft → Draft
with_line n None stands = stands
with_line n (Some p) stands = place (line_of n p.0 p.1) (ready (Some p) stands)

-- what stands after one more statement
abbrev pub step : Draft → Statement → Draft
step stands s = with_line s.line (parts s.words) stands

abbrev pub later : Draft → List Statement → Draft
later stands [] = stands
later stands (s ∷ rest) = later (step stands s) rest

-- what stands after the statements
abbrev pub after : DefinitionsData → List Statement → Draft
after d statements = later (start d) statements

-- ---- refusals

-- the first cause of a statement of this number, where this stands
abbrev pub cause_in : Draft → ℕ → Option (Keyword × List (List ℕ)) → Option SiteCause
cause_in stands n None = Some UnknownKeyword
cause_in stands n (Some p) = find (λ c. holds c stands p.0 p.1 (line_of n p.0 p.1)) order

-- What is wrong with the interface or router that a statement completes, and else with the statement itself.
abbrev pub refusal_in : Draft → Statement → Option Refused
refusal_in stands s =
    let p = parts s.words in
    or_else (if opens p then due stands else None) (at_line s.line (cause_in (ready p stands) s.line p))

abbrev pub refusal : DefinitionsData → List Statement → Statement → Option Refused
refusal d before s = refusal_in (after d before) s

-- the end of the file completes the last interface or router
abbrev pub at_end : DefinitionsData → List Statement → Option Refused
at_end d before = due (after d before)

-- ---- the site

-- the site of what stands, complete
abbrev pub site_in : Draft → SiteData
site_in stands = completed stands.site stands.current

-- The site that the statements say, with the definitions of its packets, or the line and the cause of the first refusal.
abbrev pub site_of : DefinitionsData → List Statement → Result SiteData Refused
site_of d statements = said_of (refusal d) (at_end d) (λ all. site_in (after d all)) statements
