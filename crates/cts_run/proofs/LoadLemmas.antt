-- What is read of the files, and what it means for the command.
use Rattle.std.proofs.Common.{◌≡◌, ℕ, ◌≤◌, false, List, [], ◌∷◌, length, take, Option, Some, None, Result, Ok, Err, IfOk, IfSome, refl, sym, ◌∙◌, ap, ap₂, subst, arith}
use Rattle.std.specs.Prelude.{nat_lt, IsSomeAnd}
use Rattle.std.specs.Result.{result_unwrap_or}
use Rattle.std.proofs.lemmas.Bool.Decides.{nat_tests}
use Rattle.cts_def.specs.Packets.{DefinitionsData}
use Rattle.cts_def.specs.Sites.{IsSoundSite, SiteData}
use Rattle.cts_defstatement.specs.declared.cause.DefCause.{DefCause}
use Rattle.cts_defread.specs.Definitions.{definitions_of}
use Rattle.cts_entry.specs.declared.event.Event.{Event}
use Rattle.cts_outside.specs.Seen.{FilesSeen}
use Rattle.cts_plan.proofs.Kept.{at_start}
use Rattle.cts_plan.specs.declared.fault.SiteCause.{SiteCause}
use Rattle.cts_plan.specs.SiteFiles.{site_of}
use Rattle.cts_plan_laws.proofs.SiteSaid.{sites_are_of_their_statements}
use Rattle.cts_plan_laws.proofs.SoundSites.{sites_are_sound}
use Rattle.cts_scriptread.specs.Scripts.{events_of}
use Rattle.cts_scriptread.specs.declared.cause.ScriptCause.{ScriptCause}
use Rattle.md5.specs.Md5.{md5}
use Rattle.cts_words.specs.declared.statement.Statement.{Statement}
use Rattle.cts_words.specs.Statements.{said}
use Rattle.cts_run.specs.Hub.{pair_phases}
use Rattle.cts_run.specs.Load.{bytes_of, definitions_asked, definitions_phase, definitions_read, digest_asked, no_definitions, no_site, or_cause, read_in, script_read, site_asked, site_asked_over, site_phase, site_phases, site_read, statements_in}
use Rattle.cts_run.specs.Load.Files.{GivesBytes, GivesDigested, GivesStatements, IsReason, ReadsAs, ReadsTwice, Says, file_limit, judge, judge_said, too_large, verdict}
use Rattle.cts_run.specs.Phases.{HaltsAt, IsFound, LoadCounts, Phase, Takes, TakesAt, file_halt, is_fault, reading}
use Rattle.cts_run.specs.declared.halt.Halt.{Halt}
use Rattle.cts_run.specs.declared.halt.Halt.TheVariants as halt
use Rattle.cts_run.specs.declared.halt.cause.Cause.{Cause}
use Rattle.cts_run.specs.declared.halt.cause.Cause.TheVariants as cause
use Rattle.cts_run.specs.declared.halt.file_kind.FileKind.{FileKind}
use Rattle.cts_run.specs.declared.halt.file_kind.FileKind.TheVariants.{Configuration}
use Rattle.cts_run.proofs.PhaseLemmas.{first_past, load_stays, here, none_both, past, none_alone}

-- what was read so far is how the file begins
abbrev pub Begins : Option (List ℕ) → List ℕ → Type 0
Begins None held = held ≡ []
Begins (Some bytes) held = (length held ≤ length bytes) × (take (length held) bytes ≡ held)

-- ---- the statements of a file

-- why a command halts at the bytes it halts at the statements
pub bytes_fail : (told : Option (List ℕ → Option (List ℕ))) (kind : FileKind) (name : List ℕ) (h : Halt)
    → IfSome told (λ all. GivesBytes file_limit (too_large kind name) name (all name) (Err h)) → IfSome told (λ all. (verdicts : List Statement → Option Halt) → HaltsAt (reading name (judge kind name verdicts) (all name)) h)
bytes_fail None kind name h k = tt
bytes_fail (Some all) kind name h k = λ verdicts. k (λ b. judge_said kind name verdicts (said b))

-- a file that is not too large is judged by its statements
small_judged : (kind : FileKind) (name : List ℕ) (verdicts : List Statement → Option Halt) (bytes : List ℕ) → length bytes ≤ file_limit → judge kind name verdicts bytes ≡ judge_said kind name verdicts (said bytes)
small_judged kind name verdicts bytes h = let e : nat_lt file_limit (length bytes) ≡ false = grind (arith, nat_tests) in rw e refl

-- a reason that is no fault of the outside
halts_at : (p : Phase) (reason : Option Halt) (h : Halt) → p.halts ≡ reason → is_fault h ≡ false → IsReason reason h → HaltsAt p h
halts_at p reason halt.Memory e f k = tt
halts_at p reason (halt.ReadFault name) e f k = absurd (cc f)
halts_at p reason (halt.Absent name) e f k = absurd (cc f)
halts_at p reason halt.WriteFault e f k = absurd (cc f)
halts_at p reason halt.LogFault e f k = absurd (cc f)
halts_at p reason (halt.Refused name kind line cause) e f k = e ∙ k
halts_at p reason (halt.ShelfEmpty kind needed stocked) e f k = e ∙ k
halts_at p reason (halt.HistoryFull entries bytes) e f k = absurd (cc f)
halts_at p reason (halt.LogRefused place) e f k = e ∙ k
halts_at p reason (halt.UnknownName name) e f k = e ∙ k
halts_at p reason (halt.HubRefused cause) e f k = e ∙ k
halts_at p reason halt.Misused e f k = e ∙ k

-- a file that was read, and whose statements are refused
pub said_fail : (told : Option (List ℕ → Option (List ℕ))) (kind : FileKind) (name bytes : List ℕ) (h : Halt)
    → IfSome told (λ all. GivesBytes file_limit (too_large kind name) name (all name) (Ok bytes)) → Says kind name bytes (Err h) → IfSome told (λ all. (verdicts : List Statement → Option Halt) → HaltsAt (reading name (judge kind name verdicts) (all name)) h)
said_fail None kind name bytes h g k = tt
said_fail (Some all) kind name bytes h g k = λ verdicts.
    let judged : file_halt name (judge kind name verdicts) (all name) ≡ judge_said kind name verdicts (said bytes) = ap (file_halt name (judge kind name verdicts)) g.0 ∙ small_judged kind name verdicts bytes g.1 in
    halts_at (reading name (judge kind name verdicts) (all name)) (judge_said kind name verdicts (said bytes)) h judged k.0 (k.1 verdicts)

-- and whose statements are found
pub said_so : (told : Option (List ℕ → Option (List ℕ))) (kind : FileKind) (name bytes : List ℕ) (statements : List Statement)
    → IfSome told (λ all. GivesBytes file_limit (too_large kind name) name (all name) (Ok bytes)) → said bytes ≡ Ok statements → IfSome told (λ all. GivesStatements kind name (all name) (Ok statements))
said_so None kind name bytes statements g k = tt
said_so (Some all) kind name bytes statements g k = subst (λ (f : Option (List ℕ)). IsSomeAnd f (λ b. (length b ≤ file_limit) × (said b ≡ Ok statements))) (sym g.0) (g.1, k)

-- either
pub said_gives : (told : Option (List ℕ → Option (List ℕ))) (kind : FileKind) (name bytes : List ℕ) (answer : Result (List Statement) Halt)
    → IfSome told (λ all. GivesBytes file_limit (too_large kind name) name (all name) (Ok bytes)) → Says kind name bytes answer → IfSome told (λ all. GivesStatements kind name (all name) answer)
said_gives told kind name bytes (Ok statements) g k = said_so told kind name bytes statements g k
said_gives told kind name bytes (Err h) g k = said_fail told kind name bytes h g k

-- the same with the digest of the bytes
pub digested_so : (told : Option (List ℕ → Option (List ℕ))) (kind : FileKind) (name bytes digest : List ℕ) (statements : List Statement)
    → IfSome told (λ all. GivesBytes file_limit (too_large kind name) name (all name) (Ok bytes)) → said bytes ≡ Ok statements → digest ≡ md5 bytes → IfSome told (λ all. GivesDigested kind name (all name) (Ok (statements, digest)))
digested_so None kind name bytes digest statements g k d = tt
digested_so (Some all) kind name bytes digest statements g k d = subst (λ (f : Option (List ℕ)). IsSomeAnd f (λ b. (length b ≤ file_limit) × (said b ≡ Ok statements) × (digest ≡ md5 b))) (sym g.0) (g.1, k, d)

-- what was found with its digest
pub without_digest : (told : Option (List ℕ → Option (List ℕ))) (kind : FileKind) (name digest : List ℕ) (statements : List Statement)
    → IfSome told (λ all. GivesDigested kind name (all name) (Ok (statements, digest))) → IfSome told (λ all. GivesStatements kind name (all name) (Ok statements))
without_digest None kind name digest statements g = tt
without_digest (Some all) kind name digest statements g = by_file (all name) g
  where
    by_file : (file : Option (List ℕ)) → GivesDigested kind name file (Ok (statements, digest)) → GivesStatements kind name file (Ok statements)
    by_file None g = absurd g
    by_file (Some bytes) g = (g.0, g.1)

-- its digest is that of the file
digest_so : (kind : FileKind) (name : List ℕ) (file : Option (List ℕ)) (digest : List ℕ) (statements : List Statement) → GivesDigested kind name file (Ok (statements, digest)) → digest ≡ md5 (bytes_of file)
digest_so kind name None digest statements g = absurd g
digest_so kind name (Some bytes) digest statements g = g.2

pub with_digest : (told : Option (List ℕ → Option (List ℕ))) (name digest : List ℕ) (d : DefinitionsData) (statements : List Statement)
    → IfSome told (λ all. GivesDigested Configuration name (all name) (Ok (statements, digest))) → IfSome told (λ all. TakesAt (definitions_phase all name) (definitions_asked all name) (Ok d))
    → IfSome told (λ all. TakesAt {T = DefinitionsData × List ℕ} (definitions_phase all name) (definitions_asked all name, digest_asked all name) (Ok (d, digest)))
with_digest None name digest d statements g k = tt
with_digest (Some all) name digest d statements g k = (k.0, ap₂ (λ (x : DefinitionsData) (y : List ℕ). (x, y)) k.1 (digest_so Configuration name (all name) digest statements g))

-- ---- what is read of the statements

-- a file whose statements are found is judged by them
judged_so : (kind : FileKind) (name : List ℕ) (verdicts : List Statement → Option Halt) (file : Option (List ℕ)) (statements : List Statement)
    → GivesStatements kind name file (Ok statements) → file_halt name (judge kind name verdicts) file ≡ verdicts statements
judged_so kind name verdicts None statements h = absurd h
judged_so kind name verdicts (Some bytes) statements h = small_judged kind name verdicts bytes h.0 ∙ ap (judge_said kind name verdicts) h.1

-- what is read of them is read of the file
value_so : {X : Type 0} (kind : FileKind) (name : List ℕ) (reads : List Statement → Result X (ℕ × Cause)) (none x : X) (file : Option (List ℕ)) (statements : List Statement)
    → GivesStatements kind name file (Ok statements) → reads statements ≡ Ok x → x ≡ read_in reads none file
value_so kind name reads none x None statements h e = absurd h
value_so kind name reads none x (Some bytes) statements h e = rw (h.1, e) refl

module _ {X : Type 0} (kind : FileKind) (name : List ℕ) (reads : List Statement → Result X (ℕ × Cause)) (none : X) (told : Option (List ℕ → Option (List ℕ))) where
  abbrev pub phase_of : (List ℕ → Option (List ℕ)) → Phase
  phase_of all = reading name (judge kind name (λ statements. verdict kind name (reads statements))) (all name)

  -- the statements were not found
  pub not_stated : (h : Halt) → IfSome told (λ all. GivesStatements kind name (all name) (Err h)) → IfSome told (λ all. HaltsAt (phase_of all) h)
  not_stated h k = on told k
    where
      on : (t : Option (List ℕ → Option (List ℕ))) → IfSome t (λ all. GivesStatements kind name (all name) (Err h)) → IfSome t (λ all. HaltsAt (phase_of all) h)
      on None k = tt
      on (Some all) k = k (λ statements. verdict kind name (reads statements))

  -- one of them is refused
  pub refuses : (statements : List Statement) (line : ℕ) (why : Cause) → IfSome told (λ all. GivesStatements kind name (all name) (Ok statements)) → reads statements ≡ Err (line, why)
      → IfSome told (λ all. HaltsAt (phase_of all) (halt.Refused name kind line why))
  refuses statements line why k e = on told k
    where
      on : (t : Option (List ℕ → Option (List ℕ))) → IfSome t (λ all. GivesStatements kind name (all name) (Ok statements)) → IfSome t (λ all. HaltsAt (phase_of all) (halt.Refused name kind line why))
      on None k = tt
      on (Some all) k = judged_so kind name (λ s. verdict kind name (reads s)) (all name) statements k ∙ ap (verdict kind name) e

  -- all are taken
  pub takes : (statements : List Statement) (x : X) → IfSome told (λ all. GivesStatements kind name (all name) (Ok statements)) → reads statements ≡ Ok x
      → IfSome told (λ all. TakesAt (phase_of all) (read_in reads none (all name)) (Ok x))
  takes statements x k e = on told k
    where
      on : (t : Option (List ℕ → Option (List ℕ))) → IfSome t (λ all. GivesStatements kind name (all name) (Ok statements)) → IfSome t (λ all. TakesAt (phase_of all) (read_in reads none (all name)) (Ok x))
      on None k = tt
      on (Some all) k = (judged_so kind name (λ s. verdict kind name (reads s)) (all name) statements k ∙ ap (verdict kind name) e, value_so kind name reads none x (all name) statements k e)

-- the definitions that were read
module _ (told : Option (List ℕ → Option (List ℕ))) (name digest : List ℕ) (statements : List Statement) (given : IfSome told (λ all. GivesDigested Configuration name (all name) (Ok (statements, digest)))) where
  pub definitions_given : (d : DefinitionsData) → definitions_read statements ≡ Ok d → IfSome told (λ all. TakesAt {T = DefinitionsData × List ℕ} (definitions_phase all name) (definitions_asked all name, digest_asked all name) (Ok (d, digest)))
  definitions_given d e =
      with_digest told name digest d statements given (takes Configuration name definitions_read no_definitions told statements d (without_digest told Configuration name digest statements given) e)

-- or why a command halts at them
pub definitions_halt : (told : Option (List ℕ → Option (List ℕ))) (name digest : List ℕ) (statements : List Statement) (h : Halt)
    → IfSome told (λ all. GivesDigested Configuration name (all name) (Ok (statements, digest))) → ReadsAs Configuration name (definitions_read statements) (Err h)
    → IfSome told (λ all. TakesAt {T = DefinitionsData × List ℕ} (definitions_phase all name) (definitions_asked all name, digest_asked all name) (Err h))
definitions_halt None name digest statements h given k = tt
definitions_halt (Some all) name digest statements h given k =
    let stated = without_digest (Some all) Configuration name digest statements given in
    halts_at (definitions_phase all name) (verdict Configuration name (definitions_read statements)) h (judged_so Configuration name (λ s. verdict Configuration name (definitions_read s)) (all name) statements stated) k.1 k.0

-- ---- the files of a site in their order

abbrev TakesDefinitions : (List ℕ → Option (List ℕ)) → List ℕ → Result (DefinitionsData × List ℕ) Halt → Type 0
TakesDefinitions all name answer = TakesAt (definitions_phase all name) (definitions_asked all name, digest_asked all name) answer

abbrev TakesPlan : (List ℕ → Option (List ℕ)) → DefinitionsData → List ℕ → Result SiteData Halt → Type 0
TakesPlan all d name answer = TakesAt (site_phase all d name) (site_asked_over all d name) answer

abbrev TakesSite : (List ℕ → Option (List ℕ)) → List ℕ → List ℕ → Result (SiteData × List ℕ) Halt → Type 0
TakesSite all definitions site answer = Takes (site_phases all definitions site) (site_asked all definitions site, digest_asked all definitions) answer

pub definitions_fail : (told : Option (List ℕ → Option (List ℕ))) (definitions site : List ℕ) (h : Halt)
    → IfSome told (λ all. TakesDefinitions all definitions (Err h)) → IfSome told (λ all. TakesSite all definitions site (Err h))
definitions_fail None definitions site h k = tt
definitions_fail (Some all) definitions site h k = here (definitions_phase all definitions) (site_phase all (definitions_asked all definitions) site ∷ []) h k

module _ (told second : Option (List ℕ → Option (List ℕ))) (definitions site : List ℕ) (d : DefinitionsData) (digest : List ℕ) where
  pub site_fails : (h : Halt) → second ≡ told → IfSome told (λ all. TakesDefinitions all definitions (Ok (d, digest))) → IfSome second (λ all. TakesPlan all d site (Err h)) → IfSome told (λ all. TakesSite all definitions site (Err h))
  site_fails h same ds k = by_told told ds (subst (λ (t : Option (List ℕ → Option (List ℕ))). IfSome t (λ all. TakesPlan all d site (Err h))) same k)
    where
      by_told : (t : Option (List ℕ → Option (List ℕ))) → IfSome t (λ all. TakesDefinitions all definitions (Ok (d, digest))) → IfSome t (λ all. TakesPlan all d site (Err h)) → IfSome t (λ all. TakesSite all definitions site (Err h))
      by_told None ds k = tt
      by_told (Some all) ds k =
          let k' = subst (λ (x : DefinitionsData × List ℕ). TakesPlan all x.0 site (Err h)) ds.1 k in
          past (definitions_phase all definitions ∷ []) (site_phase all (definitions_asked all definitions) site ∷ []) h (none_alone (definitions_phase all definitions) ds.0)
          (here (site_phase all (definitions_asked all definitions) site) [] h k')

  pub site_taken : (x : SiteData) → second ≡ told → IfSome told (λ all. TakesDefinitions all definitions (Ok (d, digest))) → IfSome second (λ all. TakesPlan all d site (Ok x)) → IfSome told (λ all. TakesSite all definitions site (Ok (x, digest)))
  site_taken x same ds k = by_told told ds (subst (λ (t : Option (List ℕ → Option (List ℕ))). IfSome t (λ all. TakesPlan all d site (Ok x))) same k)
    where
      by_told : (t : Option (List ℕ → Option (List ℕ))) → IfSome t (λ all. TakesDefinitions all definitions (Ok (d, digest))) → IfSome t (λ all. TakesPlan all d site (Ok x)) → IfSome t (λ all. TakesSite all definitions site (Ok (x, digest)))
      by_told None ds k = tt
      by_told (Some all) ds k =
          let k' = subst (λ (y : DefinitionsData × List ℕ). TakesPlan all y.0 site (Ok x)) ds.1 k in (
            none_both (definitions_phase all definitions) (site_phase all (definitions_asked all definitions) site) ds.0 k'.0,
            ap₂ (λ (y : SiteData) (z : List ℕ). (y, z)) k'.1 (ap (λ (y : DefinitionsData × List ℕ). y.1) ds.1),
          )

-- ---- what the readers give

-- ---- two sites over the same definitions

abbrev TakesTwice : (List ℕ → Option (List ℕ)) → List ℕ → Result (DefinitionsData × DefinitionsData) Halt → Type 0
TakesTwice all name answer = TakesAt (definitions_phase all name) (definitions_asked all name, definitions_asked all name) answer

abbrev TakesPair : (List ℕ → Option (List ℕ)) → List ℕ → List ℕ → List ℕ → Result (SiteData × SiteData) Halt → Type 0
TakesPair all definitions site below answer = Takes (pair_phases all definitions site below) (site_asked all definitions site, site_asked all definitions below) answer

pub twice_given : (told : Option (List ℕ → Option (List ℕ))) (name digest : List ℕ) (statements : List Statement) (both : DefinitionsData × DefinitionsData)
    → IfSome told (λ all. GivesDigested Configuration name (all name) (Ok (statements, digest))) → definitions_read statements ≡ Ok both.0 → definitions_read statements ≡ Ok both.1 → IfSome told (λ all. TakesTwice all name (Ok both))
twice_given told name digest statements both given e f = by_told told (definitions_given told name digest statements given both.0 e) (definitions_given told name digest statements given both.1 f)
  where
    by_told : (t : Option (List ℕ → Option (List ℕ))) → IfSome t (λ all. TakesDefinitions all name (Ok (both.0, digest))) → IfSome t (λ all. TakesDefinitions all name (Ok (both.1, digest))) → IfSome t (λ all. TakesTwice all name (Ok both))
    by_told None a b = tt
    by_told (Some all) a b = (a.0, ap₂ (λ (x y : DefinitionsData). (x, y)) (ap (λ (t : DefinitionsData × List ℕ). t.0) a.1) (ap (λ (t : DefinitionsData × List ℕ). t.0) b.1))

pub twice_halts : (told : Option (List ℕ → Option (List ℕ))) (name digest : List ℕ) (statements : List Statement) (h : Halt)
    → IfSome told (λ all. GivesDigested Configuration name (all name) (Ok (statements, digest))) → ReadsAs {X = DefinitionsData} Configuration name (definitions_read statements) (Err h) → IfSome told (λ all. TakesTwice all name (Err h))
twice_halts told name digest statements h given k = by_told told (definitions_halt told name digest statements h given k)
  where
    by_told : (t : Option (List ℕ → Option (List ℕ))) → IfSome t (λ all. TakesDefinitions all name (Err h)) → IfSome t (λ all. TakesTwice all name (Err h))
    by_told None a = tt
    by_told (Some all) a = a

pub twice_answer : (told : Option (List ℕ → Option (List ℕ))) (name digest : List ℕ) (statements : List Statement) (answer : Result (DefinitionsData × DefinitionsData) Halt)
    → IfSome told (λ all. GivesDigested Configuration name (all name) (Ok (statements, digest))) → ReadsTwice Configuration name (definitions_read statements) answer → IfSome told (λ all. TakesTwice all name answer)
twice_answer told name digest statements (Ok both) given k = twice_given told name digest statements both given k.0 k.1
twice_answer told name digest statements (Err h) given k = twice_halts told name digest statements h given k

pub twice_unread : (told : Option (List ℕ → Option (List ℕ))) (name : List ℕ) (h : Halt) → IfSome told (λ all. GivesDigested Configuration name (all name) (Err h)) → IfSome told (λ all. TakesTwice all name (Err h))
twice_unread None name h k = tt
twice_unread (Some all) name h k = k (λ statements. verdict Configuration name (definitions_read statements))

-- both are the same
pub twice_same : (name : List ℕ) (read : Result DefinitionsData (ℕ × Cause)) (answer : Result (DefinitionsData × DefinitionsData) Halt) → ReadsTwice Configuration name read answer → IfOk answer (λ both. both.0 ≡ both.1)
twice_same name read (Ok both) k = cc (sym k.0 ∙ k.1)
twice_same name read (Err h) k = tt

pub twice_counts : (name : List ℕ) (read : Result DefinitionsData (ℕ × Cause)) (answer : Result (DefinitionsData × DefinitionsData) Halt) (files files' : FilesSeen) → ReadsTwice Configuration name read answer → IsFound files files' → LoadCounts answer files files'
twice_counts name read (Ok both) files files' k f = f
twice_counts name read (Err h) files files' k f = load_stays h files files' k.1 f

pub twice_fails : (told : Option (List ℕ → Option (List ℕ))) (definitions site below : List ℕ) (h : Halt) → IfSome told (λ all. TakesTwice all definitions (Err h)) → IfSome told (λ all. TakesPair all definitions site below (Err h))
twice_fails None definitions site below h k = tt
twice_fails (Some all) definitions site below h k =
    here (definitions_phase all definitions) (site_phase all (definitions_asked all definitions) site ∷ site_phase all (definitions_asked all definitions) below ∷ []) h k

module _ (told second third : Option (List ℕ → Option (List ℕ))) (definitions site below : List ℕ) (both : DefinitionsData × DefinitionsData) (same : second ≡ told) (again : third ≡ second)
    (ds : IfSome told (λ all. TakesTwice all definitions (Ok both))) where
  pub first_fails : (h : Halt) → IfSome second (λ all. TakesPlan all both.0 site (Err h)) → IfSome told (λ all. TakesPair all definitions site below (Err h))
  first_fails h k = by_told told ds (subst (λ (t : Option (List ℕ → Option (List ℕ))). IfSome t (λ all. TakesPlan all both.0 site (Err h))) same k)
    where
      by_told : (t : Option (List ℕ → Option (List ℕ))) → IfSome t (λ all. TakesTwice all definitions (Ok both)) → IfSome t (λ all. TakesPlan all both.0 site (Err h)) → IfSome t (λ all. TakesPair all definitions site below (Err h))
      by_told None ds k = tt
      by_told (Some all) ds k =
          let k' = subst (λ (x : DefinitionsData × DefinitionsData). TakesPlan all x.0 site (Err h)) ds.1 k in
          past (definitions_phase all definitions ∷ []) (site_phase all (definitions_asked all definitions) site ∷ site_phase all (definitions_asked all definitions) below ∷ []) h (none_alone (definitions_phase all definitions) ds.0)
          (here (site_phase all (definitions_asked all definitions) site) (site_phase all (definitions_asked all definitions) below ∷ []) h k')

  module _ (x : SiteData) (first : IfSome second (λ all. TakesPlan all both.0 site (Ok x))) where
    pub second_fails : (h : Halt) → IfSome third (λ all. TakesPlan all both.1 below (Err h)) → IfSome told (λ all. TakesPair all definitions site below (Err h))
    second_fails h k =
        by_told told ds (subst (λ (t : Option (List ℕ → Option (List ℕ))). IfSome t (λ all. TakesPlan all both.0 site (Ok x))) same first)
        (subst (λ (t : Option (List ℕ → Option (List ℕ))). IfSome t (λ all. TakesPlan all both.1 below (Err h))) (again ∙ same) k)
      where
        by_told : (t : Option (List ℕ → Option (List ℕ))) → IfSome t (λ all. TakesTwice all definitions (Ok both)) → IfSome t (λ all. TakesPlan all both.0 site (Ok x)) → IfSome t (λ all. TakesPlan all both.1 below (Err h))
            → IfSome t (λ all. TakesPair all definitions site below (Err h))
        by_told None ds f k = tt
        by_told (Some all) ds f k =
            let d = definitions_asked all definitions in
            let f' = subst (λ (y : DefinitionsData × DefinitionsData). TakesPlan all y.0 site (Ok x)) ds.1 f in
            let k' = subst (λ (y : DefinitionsData × DefinitionsData). TakesPlan all y.1 below (Err h)) ds.1 k in
            past (definitions_phase all definitions ∷ site_phase all d site ∷ []) (site_phase all d below ∷ []) h (none_both (definitions_phase all definitions) (site_phase all d site) ds.0 f'.0)
            (here (site_phase all d below) [] h k')

    pub pair_taken : (y : SiteData) → IfSome third (λ all. TakesPlan all both.1 below (Ok y)) → IfSome told (λ all. TakesPair all definitions site below (Ok (x, y)))
    pair_taken y k =
        by_told told ds (subst (λ (t : Option (List ℕ → Option (List ℕ))). IfSome t (λ all. TakesPlan all both.0 site (Ok x))) same first)
        (subst (λ (t : Option (List ℕ → Option (List ℕ))). IfSome t (λ all. TakesPlan all both.1 below (Ok y))) (again ∙ same) k)
      where
        by_told : (t : Option (List ℕ → Option (List ℕ))) → IfSome t (λ all. TakesTwice all definitions (Ok both)) → IfSome t (λ all. TakesPlan all both.0 site (Ok x)) → IfSome t (λ all. TakesPlan all both.1 below (Ok y))
            → IfSome t (λ all. TakesPair all definitions site below (Ok (x, y)))
        by_told None ds f k = tt
        by_told (Some all) ds f k =
            let d = definitions_asked all definitions in
            let f' = subst (λ (z : DefinitionsData × DefinitionsData). TakesPlan all z.0 site (Ok x)) ds.1 f in
            let k' = subst (λ (z : DefinitionsData × DefinitionsData). TakesPlan all z.1 below (Ok y)) ds.1 k in (
              first_past (definitions_phase all definitions ∷ site_phase all d site ∷ []) (site_phase all d below ∷ []) (none_both (definitions_phase all definitions) (site_phase all d site) ds.0 f'.0)
                  ∙ none_alone (site_phase all d below) k'.0,
              ap₂ (λ (s t : SiteData). (s, t)) f'.1 k'.1,
            )

-- the definitions of a site are those over which it is read
pub over_definitions : (d : DefinitionsData) (statements : List Statement) (site : SiteData) → site_of d statements ≡ Ok site → site.definitions ≡ d
over_definitions d statements site e = (sites_are_of_their_statements d statements site e).definitions

pub definitions_ok : (statements : List Statement) (d : DefinitionsData) → definitions_of statements ≡ Ok d → definitions_read statements ≡ Ok d
unfolding definitions_read
definitions_ok statements d e = ap (or_cause cause.Definition) e

pub definitions_err : (statements : List Statement) (line : ℕ) (c : DefCause) → definitions_of statements ≡ Err (line, c) → definitions_read statements ≡ Err (line, cause.Definition c)
unfolding definitions_read
definitions_err statements line c e = ap (or_cause cause.Definition) e

pub site_ok : (d : DefinitionsData) (statements : List Statement) (site : SiteData) → site_of d statements ≡ Ok site → site_read d statements ≡ Ok site
unfolding site_read
site_ok d statements site e = ap (or_cause cause.Site) e

pub site_err : (d : DefinitionsData) (statements : List Statement) (line : ℕ) (c : SiteCause) → site_of d statements ≡ Err (line, c) → site_read d statements ≡ Err (line, cause.Site c)
unfolding site_read
site_err d statements line c e = ap (or_cause cause.Site) e

pub script_ok : (site : SiteData) (statements : List Statement) (events : List (ℕ × Event)) → events_of site statements ≡ Ok events → script_read site statements ≡ Ok events
unfolding script_read
script_ok site statements events h = ap (or_cause cause.Script) h

pub script_err : (site : SiteData) (statements : List Statement) (line : ℕ) (c : ScriptCause) → events_of site statements ≡ Err (line, c) → script_read site statements ≡ Err (line, cause.Script c)
unfolding script_read
script_err site statements line c h = ap (or_cause cause.Script) h

-- ---- a site that is asked for keeps the rules of sites

read_sound : (r : Result SiteData (ℕ × SiteCause)) → ((s : SiteData) → r ≡ Ok s → IsSoundSite s) → IsSoundSite (result_unwrap_or (or_cause cause.Site r) no_site)
read_sound (Ok s) k = k s refl
read_sound (Err r) k = (at_start no_definitions).site

asked_sound : (definitions : DefinitionsData) (statements : List Statement) → IsSoundSite (result_unwrap_or (site_read definitions statements) no_site)
unfolding site_read
asked_sound definitions statements = read_sound (site_of definitions statements) (sites_are_sound definitions statements)

pub site_asked_sound : (files : List ℕ → Option (List ℕ)) (definitions site : List ℕ) → IsSoundSite (site_asked files definitions site)
site_asked_sound files definitions site = asked_sound (definitions_asked files definitions) (statements_in (bytes_of (files site)))
