-- The files of a site and its script: the phases in which they are read, and what they say.
use Rattle.std.specs.Prelude.{ℕ, List, [], ◌∷◌, Option, None, Result, Ok, Err, unwrap_or}
use Rattle.std.specs.Result.{result_unwrap_or}
use Rattle.md5.specs.Md5.{md5}
use Rattle.cts_words.specs.declared.statement.Statement.{Statement}
use Rattle.cts_words.specs.Statements.{said}
use Rattle.cts_def.specs.Packets.{DefinitionsData}
use Rattle.cts_def.specs.Sites.{SiteData}
use Rattle.cts_defread.specs.Definitions.{definitions_of}
use Rattle.cts_entry.specs.declared.event.Event.{Event}
use Rattle.cts_plan.specs.SiteFiles.{site_of}
use Rattle.cts_scriptread.specs.Scripts.{events_of}
use Rattle.cts_run.specs.Load.Files.{judge, verdict}
use Rattle.cts_run.specs.Phases.{Phase, reading}
use Rattle.cts_run.specs.declared.halt.cause.Cause.{Cause}
use Rattle.cts_run.specs.declared.halt.cause.Cause.TheVariants as cause
use Rattle.cts_run.specs.declared.halt.file_kind.FileKind.TheVariants.{Configuration, Script}
pub mod Files

-- ---- what is read of statements

-- a refused line and its cause, of a kind of causes
abbrev pub or_cause : {X C : Type 0} → (C → Cause) → Result X (ℕ × C) → Result X (ℕ × Cause)
or_cause as_cause (Ok x) = Ok x
or_cause as_cause (Err r) = Err (r.0, as_cause r.1)

unfoldable pub definitions_read : List Statement → Result DefinitionsData (ℕ × Cause)
definitions_read statements = or_cause cause.Definition (definitions_of statements)

unfoldable pub site_read : DefinitionsData → List Statement → Result SiteData (ℕ × Cause)
site_read definitions statements = or_cause cause.Site (site_of definitions statements)

unfoldable pub script_read : SiteData → List Statement → Result (List (ℕ × Event)) (ℕ × Cause)
script_read site statements = or_cause cause.Script (events_of site statements)

-- ---- what a file says that is taken

-- the bytes of a file, none where it is not there
abbrev pub bytes_of : Option (List ℕ) → List ℕ
bytes_of file = unwrap_or file []

-- the statements of a text, none where it is refused
abbrev pub statements_in : List ℕ → List Statement
statements_in text = result_unwrap_or (said text) []

-- what is read of the statements of a file
abbrev pub read_in : {X : Type 0} → (List Statement → Result X (ℕ × Cause)) → X → Option (List ℕ) → X
read_in read none file = result_unwrap_or (read (statements_in (bytes_of file))) none

abbrev pub no_definitions : DefinitionsData
no_definitions = record { telemetry = []; commands = []; set_names = [] }

abbrev pub no_site : SiteData
no_site = record { definitions = no_definitions; interfaces = []; routers = []; api_port = 7777; desks = 4; log_layout = 2; log_cycle = None }

abbrev pub no_events : List (ℕ × Event)
no_events = []

-- the definitions in the file of this name
abbrev pub definitions_asked : (List ℕ → Option (List ℕ)) → List ℕ → DefinitionsData
definitions_asked files name = read_in definitions_read no_definitions (files name)

-- the digest of the bytes of that file
abbrev pub digest_asked : (List ℕ → Option (List ℕ)) → List ℕ → List ℕ
digest_asked files name = md5 (bytes_of (files name))

-- the site in the file of this name, over these definitions
abbrev pub site_asked_over : (List ℕ → Option (List ℕ)) → DefinitionsData → List ℕ → SiteData
site_asked_over files definitions name = read_in (site_read definitions) no_site (files name)

-- the site in the files of these names
abbrev pub site_asked : (List ℕ → Option (List ℕ)) → List ℕ → List ℕ → SiteData
site_asked files definitions site = site_asked_over files (definitions_asked files definitions) site

-- the events in the file of this name, for a site
abbrev pub events_asked : (List ℕ → Option (List ℕ)) → SiteData → List ℕ → List (ℕ × Event)
events_asked files site name = read_in (script_read site) no_events (files name)

-- ---- the phases

abbrev pub definitions_phase : (List ℕ → Option (List ℕ)) → List ℕ → Phase
definitions_phase files name = reading name (judge Configuration name (λ statements. verdict Configuration name (definitions_read statements))) (files name)

abbrev pub site_phase : (List ℕ → Option (List ℕ)) → DefinitionsData → List ℕ → Phase
site_phase files definitions name = reading name (judge Configuration name
    (λ statements. verdict Configuration name (site_read definitions statements))) (files name)

abbrev pub script_phase : (List ℕ → Option (List ℕ)) → SiteData → List ℕ → Phase
script_phase files site name = reading name (judge Script name (λ statements. verdict Script name (script_read site statements))) (files name)

-- definitions, and then the site over them
abbrev pub site_phases : (List ℕ → Option (List ℕ)) → List ℕ → List ℕ → List Phase
site_phases files definitions site = definitions_phase files definitions ∷ site_phase files (definitions_asked files definitions) site ∷ []
