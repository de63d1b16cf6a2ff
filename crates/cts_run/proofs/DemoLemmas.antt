-- The demo's files are taken, and their site is as rehearsals want it.
use Rattle.std.proofs.Common.{◌≡◌, ◌∙◌, ℕ, Bool, List, [], length, Option, Some, None, Result, Ok, refl, sym, ap, subst, arith}
use Rattle.std.specs.Prelude.{if◌then◌else◌, nat_lt}
use Rattle.std.specs.Option.{option_or}
use Rattle.std.specs.Result.{result_unwrap_or}
use Rattle.std.specs.Str.Lossy.{utf8_valid_len}
use Rattle.std.proofs.lemmas.Str.{IsUtf8-from_ascii, is_utf8-from_IsUtf8}
use Rattle.cts_api.proofs.TextLemmas.{ascii}
use Rattle.cts_base.specs.Decimals.{decimal_of}
use Rattle.cts_base.specs.Wholes.{whole_of}
use Rattle.cts_def.specs.Readings.{parts_of}
use Rattle.cts_def.specs.Sites.{SiteData}
use Rattle.cts_plan.specs.Forms.{head_fields, parameters, protocol_of}
use Rattle.cts_plan.specs.Words.{is_one_of}
use Rattle.cts_reader.specs.Words.{is_keyword}
use Rattle.cts_rehearsal_runs.specs.Sites.{IsDemoSite}
use Rattle.cts_words.specs.Statements.{dangling_join, not_text, open_quote, said, statements_of}
use Rattle.cts_words.specs.declared.fault.WordFault.{WordFault}
use Rattle.cts_words.specs.declared.statement.Statement.{Statement}
use Rattle.hex.specs.Hex.{decode_pairs}
use Rattle.cts_run.specs.Demo.{definitions_name, definitions_text, demo_files, demo_site, site_name, site_text}
use Rattle.cts_run.specs.Load.{definitions_read, no_definitions, no_site, site_phases, site_read, statements_in}
use Rattle.cts_run.specs.Load.Files.{file_limit, judge_said, too_large, verdict}
use Rattle.cts_run.specs.Phases.{first_halt}
use Rattle.cts_run.specs.declared.halt.Halt.{Halt}
use Rattle.cts_run.specs.declared.halt.cause.Cause.{Cause}
use Rattle.cts_run.specs.declared.halt.file_kind.FileKind.TheVariants.{Configuration}

-- ---- what the texts say

definitions_are_text : not_text definitions_text ≡ None
unfolding definitions_text
definitions_are_text = ap (λ (b : Bool). if b then None else Some (utf8_valid_len definitions_text)) (is_utf8-from_IsUtf8 definitions_text (IsUtf8-from_ascii definitions_text (ascii definitions_text refl)))

site_is_text : not_text site_text ≡ None
unfolding site_text
site_is_text = ap (λ (b : Bool). if b then None else Some (utf8_valid_len site_text)) (is_utf8-from_IsUtf8 site_text (IsUtf8-from_ascii site_text (ascii site_text refl)))

abbrev Said : List ℕ → Type 0
Said text = said text ≡ Ok (statements_of text)

says : (text : List ℕ) → not_text text ≡ None → open_quote text ≡ None → dangling_join text ≡ None → Said text
says text a b c = rw (a, b, c) refl

definitions_said : Said definitions_text
unfolding definitions_text
definitions_said = says definitions_text definitions_are_text refl refl

site_said : Said site_text
unfolding site_text
site_said = says site_text site_is_text refl refl

-- ---- the site

-- what is read of statements of definitions and of a site
abbrev site_from : List Statement → List Statement → SiteData
site_from definitions site = result_unwrap_or (site_read (result_unwrap_or (definitions_read definitions) no_definitions) site) no_site

abbrev said_in : Result (List Statement) WordFault → List Statement
said_in said = result_unwrap_or said []

site_is : demo_site ≡ site_from (statements_of definitions_text) (statements_of site_text)
site_is =
    ap (λ (s : Result (List Statement) WordFault). site_from (said_in s) (statements_in site_text)) definitions_said
    ∙ ap (λ (s : Result (List Statement) WordFault). site_from (statements_of definitions_text) (said_in s)) site_said

as_read : IsDemoSite (site_from (statements_of definitions_text) (statements_of site_text))
unfolding definitions_read site_read definitions_text site_text is_keyword decimal_of whole_of parts_of head_fields protocol_of parameters is_one_of decode_pairs
as_read = record {
  command = record { commands = refl; first = _; second = _; interfaces = refl; targets = refl };
  instrument = refl;
  unit = refl;
  router = refl;
  desk = omega arith;
}

pub is_demo_site : IsDemoSite demo_site
is_demo_site = subst IsDemoSite (sym site_is) as_read

-- ---- no line of them is refused

-- why a file of this name and text is refused, if it is, by what is said in it and what is read of that
abbrev refusal_of : {X : Type 0} → List ℕ → (List Statement → Result X (ℕ × Cause)) → List ℕ → Result (List Statement) WordFault → Option Halt
refusal_of name read text says =
    if nat_lt file_limit (length text) then Some (too_large Configuration name) else judge_said Configuration name (λ statements. verdict Configuration name (read statements)) says

definitions_taken : refusal_of definitions_name definitions_read definitions_text (Ok (statements_of definitions_text)) ≡ None
unfolding definitions_read definitions_text is_keyword decimal_of whole_of parts_of head_fields protocol_of parameters is_one_of decode_pairs
definitions_taken = refl

site_taken : refusal_of site_name (site_read (result_unwrap_or (definitions_read (statements_of definitions_text)) no_definitions)) site_text (Ok (statements_of site_text)) ≡ None
unfolding definitions_read site_read definitions_text site_text is_keyword decimal_of whole_of parts_of head_fields protocol_of parameters is_one_of decode_pairs
site_taken = refl

pub demo_is_taken : first_halt (site_phases demo_files definitions_name site_name) ≡ None
demo_is_taken =
    ap (λ (s : Result (List Statement) WordFault). option_or (refusal_of definitions_name definitions_read definitions_text s) (option_or (refusal_of site_name (site_read (result_unwrap_or (definitions_read (said_in s)) no_definitions)) site_text (said site_text)) None)) definitions_said
    ∙ (ap (λ (s : Result (List Statement) WordFault). option_or (refusal_of definitions_name definitions_read definitions_text (Ok (statements_of definitions_text))) (option_or (refusal_of site_name (site_read (result_unwrap_or (definitions_read (statements_of definitions_text)) no_definitions)) site_text s) None)) site_said
    ∙ (ap (λ (h : Option Halt). option_or h (option_or (refusal_of site_name (site_read (result_unwrap_or (definitions_read (statements_of definitions_text)) no_definitions)) site_text (Ok (statements_of site_text))) None)) definitions_taken
    ∙ ap (λ (h : Option Halt). option_or h None) site_taken))
