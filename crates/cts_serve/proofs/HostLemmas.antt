-- A server up to the end of its workers: its phases, its counts and its shelf.
use Rattle.std.proofs.Common.{◌≡◌, ◌≢◌, ℕ, zero, suc, false, List, [], ◌∷◌, take, Option, Some, None, IfSome, Result, Ok, Err, refl, sym, ◌∙◌, ap, subst, inl, inr}
use Rattle.std.specs.Prelude.{IfErr, IfOk, OnOk, OnErr}
use Rattle.std.specs.List.{AllByRecursion}
use Rattle.cts_chain.specs.Builds.{Taken}
use Rattle.cts_connection.specs.LineChains.{line_uses}
use Rattle.cts_def.specs.Sites.{SiteData}
use Rattle.cts_outside.specs.Seen.{FilesSeen, SinkSeen}
use Rattle.cts_proto.specs.Meaning.{Meaning}
use Rattle.cts_run.specs.Command.{LeavesShelf, ShelfBy, first_phases}
use Rattle.cts_run.specs.Endings.{EndsHalted, halt_status}
use Rattle.cts_run.specs.Load.{digest_asked, no_site, site_asked, site_phases}
use Rattle.cts_run.specs.Phases.{FileCounts, Gives, HaltCounts, HaltsIn, IsFound, LoadCounts, LoadHalts, Phase, first_halt}
use Rattle.cts_run.specs.Putting.{HaltLogs, IsPut, SinkCounts}
use Rattle.cts_serve.specs.Served.{serves_on}
use Rattle.cts_server.specs.Ready.{PutsReady, ready_line}
use Rattle.cts_server.specs.declared.worked.NotStarted.{NotStarted}
use Rattle.cts_server.specs.declared.worked.NotStarted.TheVariants as unstarted
use Rattle.cts_serve.specs.Serving.{Finds, IsPlanned, UnstartedBy, answered, done_as}
use Rattle.cts_run.specs.Start.{shelf_phase}
use Rattle.cts_run.specs.declared.halt.Halt.{Halt}
use Rattle.cts_run.specs.declared.halt.Halt.TheVariants as halt
use Rattle.cts_run.specs.declared.halt.file_kind.FileKind.TheVariants.{Configuration, Script}
use Rattle.cts_run.specs.declared.halt.status.Status.{Status}
use Rattle.cts_run.specs.declared.halt.status.Status.TheVariants as is
use Rattle.cts_run.proofs.CommandLemmas.{TakesSite, begun_shelf, made_shelf, no_vault, unmade_shelf}
use Rattle.cts_run.proofs.PhaseLemmas.{first_past, front, load_stays, past}

-- ---- what it is started from

module _ (stock : List Meaning) (definitions site : List ℕ) where
  abbrev begins : (List ℕ → Option (List ℕ)) → List Phase
  begins all = site_phases all definitions site

  abbrev shelf : (List ℕ → Option (List ℕ)) → List Phase
  shelf all = shelf_phase stock (site_asked all definitions site) ∷ []

  abbrev Asked : (List ℕ → Option (List ℕ)) → SiteData → List ℕ → Type 0
  Asked all x digest = (x ≡ site_asked all definitions site) × (digest ≡ digest_asked all definitions)

  pub plan_finds : {T : Type 0} (result : Result T Halt) (site_of : T → SiteData) (digest_of : T → List ℕ) (told : Option (List ℕ → Option (List ℕ)))
      (x : SiteData × List ℕ) → IfSome told (λ all. TakesSite all definitions site (Ok x))
      → Gives (shelf_phase stock x.0 ∷ []) (λ p. (site_of p ≡ x.0) × (digest_of p ≡ x.1)) result
      → IfSome told (λ all. Finds (first_phases stock all definitions site) (λ p. Asked all (site_of p) (digest_of p)) result)
  plan_finds result site_of digest_of None x s g = tt
  plan_finds (Ok p) site_of digest_of (Some all) x s g = (
    first_past (begins all) (shelf all) s.0 ∙ subst (λ (y : SiteData × List ℕ). first_halt (shelf_phase stock y.0 ∷ []) ≡ None) s.1 g.0,
    (g.1.0 ∙ ap (λ (y : SiteData × List ℕ). y.0) s.1, g.1.1 ∙ ap (λ (y : SiteData × List ℕ). y.1) s.1),
  )
  plan_finds (Err h) site_of digest_of (Some all) x s g = past (begins all) (shelf all) h s.0
      (subst (λ (y : SiteData × List ℕ). HaltsIn (shelf_phase stock y.0 ∷ []) h) s.1 g.0)

  pub unloaded_finds : (told : Option (List ℕ → Option (List ℕ))) (h : Halt) → IfSome told (λ all. TakesSite all definitions site (Err h))
      → IfSome told (λ all. HaltsIn (first_phases stock all definitions site) h)
  unloaded_finds None h k = tt
  unloaded_finds (Some all) h k = front (begins all) (shelf all) h k

  -- the site and the digest are those that the files say
  pub planned : (told : Option (List ℕ → Option (List ℕ))) (x : SiteData) (digest : List ℕ)
      → IfSome told (λ all. (first_halt (first_phases stock all definitions site) ≡ None) × Asked all x digest)
      → IsPlanned told (Some (definitions, site)) x digest
  planned None x digest k = tt
  planned (Some all) x digest k = k.1

  pub phases_past : (told : Option (List ℕ → Option (List ℕ))) (x : SiteData) (digest : List ℕ)
      → IfSome told (λ all. (first_halt (first_phases stock all definitions site) ≡ None) × Asked all x digest)
      → IfSome told (λ all. first_halt (first_phases stock all definitions site) ≡ None)
  phases_past None x digest k = tt
  phases_past (Some all) x digest k = k.0

  pub halts_early : (told : Option (List ℕ → Option (List ℕ))) (h : Halt) (out : SinkSeen)
      → IfSome told (λ all. HaltsIn (first_phases stock all definitions site) h)
      → IfSome told (λ all. UnstartedBy (first_phases stock all definitions site) h out out)
  halts_early None h out k = tt
  halts_early (Some all) h out k = early (first_phases stock all definitions site) h k
    where
      early : (ps : List Phase) (h : Halt) → HaltsIn ps h → UnstartedBy ps h out out
      early ps halt.Memory k = inl refl
      early ps (halt.ReadFault name) k = (k, refl)
      early ps (halt.Absent name) k = (k, refl)
      early ps halt.WriteFault k = absurd k
      early ps halt.LogFault k = absurd k
      early ps (halt.Refused name kind line cause) k = (k, refl)
      early ps (halt.ShelfEmpty kind needed stocked) k = (k, refl)
      early ps (halt.HistoryFull entries bytes) k = (k, refl)
      early ps (halt.LogRefused place) k = (k, refl)
      early ps (halt.UnknownName name) k = (k, refl)
      early ps (halt.HubRefused cause) k = (k, refl)
      early ps halt.Misused k = (k, refl)

pub plan_counts : {T : Type 0} (result : Result T Halt) (ps : List Phase) (holds : T → Type 0) (files mid : FilesSeen) → Gives ps holds result
    → IsFound files mid → LoadCounts result files mid
plan_counts (Ok p) ps holds files mid g f = f
plan_counts (Err h) ps holds files mid g f = load_stays h files mid g.1 f

pub plan_boxes : {T : Type 0} (result : Result T Halt) (stock new : List Meaning) (definitions site : List ℕ)
    (told : Option (List ℕ → Option (List ℕ))) (x : SiteData × List ℕ) (holds : T → Type 0) → IfSome told (λ all. TakesSite all definitions site (Ok x))
    → Gives (shelf_phase stock x.0 ∷ []) holds result → OnOk result (Taken stock (line_uses x.0) new) → OnErr result (new ≡ stock)
    → IfSome told (λ all. LeavesShelf all definitions site (done_as result) stock new)
plan_boxes (Ok p) stock new definitions site told x holds s g taken kept = made_shelf stock new definitions site told x (Ok tt) s g.0 taken
plan_boxes (Err h) stock new definitions site told x holds s g taken kept = unmade_shelf stock new definitions site told x h s g.0 kept

-- ---- its workers

pub still_first : {X : Type 0} (P : X → Type 0) (n : ℕ) (xs : List X) → AllByRecursion P xs → AllByRecursion P (take n xs)
still_first P zero xs k = tt
still_first P (suc n) [] k = tt
still_first P (suc n) (x ∷ xs) k = (k.0, still_first P n xs k.1)

-- ---- after its phases

none_some : {A : Type 0} (h : Halt) → first_halt [] ≡ Some h → A
none_some h e = absurd (cc e)

pub work_counts : (h : Halt) (old new : SinkSeen) (files files' : FilesSeen) → UnstartedBy [] h old new → IsFound files files' → HaltCounts h files files'
work_counts halt.Memory old new files files' u f = f
work_counts (halt.ReadFault name) old new files files' u f = absurd u.0
work_counts (halt.Absent name) old new files files' u f = none_some (halt.Absent name) u.0
work_counts halt.WriteFault old new files files' u f = f
work_counts halt.LogFault old new files files' u f = absurd u.0
work_counts (halt.Refused name kind line cause) old new files files' u f = f
work_counts (halt.ShelfEmpty kind needed stocked) old new files files' u f = f
work_counts (halt.HistoryFull entries bytes) old new files files' u f = f
work_counts (halt.LogRefused place) old new files files' u f = f
work_counts (halt.UnknownName name) old new files files' u f = f
work_counts (halt.HubRefused cause) old new files files' u f = f
work_counts halt.Misused old new files files' u f = f

pub halts_late : (ps : List Phase) (h : Halt) (old new : SinkSeen) → first_halt ps ≡ None → UnstartedBy [] h old new → UnstartedBy ps h old new
halts_late ps halt.Memory old new e u = u
halts_late ps (halt.ReadFault name) old new e u = absurd u.0
halts_late ps (halt.Absent name) old new e u = none_some (halt.Absent name) u.0
halts_late ps halt.WriteFault old new e u = (e, u.1)
halts_late ps halt.LogFault old new e u = absurd u.0
halts_late ps (halt.Refused name kind line cause) old new e u = none_some (halt.Refused name kind line cause) u.0
halts_late ps (halt.ShelfEmpty kind needed stocked) old new e u = none_some (halt.ShelfEmpty kind needed stocked) u.0
halts_late ps (halt.HistoryFull entries bytes) old new e u = none_some (halt.HistoryFull entries bytes) u.0
halts_late ps (halt.LogRefused place) old new e u = none_some (halt.LogRefused place) u.0
halts_late ps (halt.UnknownName name) old new e u = none_some (halt.UnknownName name) u.0
halts_late ps (halt.HubRefused cause) old new e u = none_some (halt.HubRefused cause) u.0
halts_late ps halt.Misused old new e u = none_some halt.Misused u.0

pub halts_late_told : (stock : List Meaning) (definitions site : List ℕ) (told : Option (List ℕ → Option (List ℕ))) (h : Halt) (old new : SinkSeen)
    → IfSome told (λ all. first_halt (first_phases stock all definitions site) ≡ None) → UnstartedBy [] h old new
    → IfSome told (λ all. UnstartedBy (first_phases stock all definitions site) h old new)
halts_late_told stock definitions site None h old new e u = tt
halts_late_told stock definitions site (Some all) h old new e u = halts_late (first_phases stock all definitions site) h old new e u

-- the boxes of all chains are gone, whatever came then
pub boxes_late : (site : SiteData) (first : Option Halt) (answer : Result (Unit {0}) Halt) (old new : List Meaning) → first ≡ None
    → ShelfBy site first (Ok tt) old new → ShelfBy site first answer old new
boxes_late site (Some h) answer old new e k = k
boxes_late site None answer old new e k = begun_shelf site answer old new k

pub boxes_late_told : (stock new : List Meaning) (definitions site : List ℕ) (told : Option (List ℕ → Option (List ℕ)))
    (answer : Result (Unit {0}) Halt) → IfSome told (λ all. first_halt (first_phases stock all definitions site) ≡ None)
    → IfSome told (λ all. LeavesShelf all definitions site (Ok tt) stock new) → IfSome told (λ all. LeavesShelf all definitions site answer stock new)
boxes_late_told stock new definitions site None answer e k = tt
boxes_late_told stock new definitions site (Some all) answer e k = boxes_late (site_asked all definitions site)
    (first_halt (first_phases stock all definitions site)) answer stock new e k

-- ---- it was not started

pub some_plan : (told : Option (List ℕ → Option (List ℕ))) (asked : Option (List ℕ × List ℕ)) → (site : SiteData) × (digest : List ℕ)
    × IsPlanned told asked site digest
some_plan None asked = (no_site, [], tt)
some_plan (Some all) None = (no_site, [], tt)
some_plan (Some all) (Some names) = (site_asked all names.0 names.1, digest_asked all names.0, (refl, refl))

pub load_unserved : (h : Halt) (files files' : FilesSeen) → LoadHalts h files files' → serves_on (halt_status h) ≡ false
load_unserved halt.Memory files files' k = refl
load_unserved (halt.ReadFault name) files files' k = refl
load_unserved (halt.Absent name) files files' k = refl
load_unserved halt.WriteFault files files' k = absurd k
load_unserved halt.LogFault files files' k = absurd k
load_unserved (halt.Refused name Configuration line cause) files files' k = refl
load_unserved (halt.Refused name Script line cause) files files' k = refl
load_unserved (halt.ShelfEmpty kind needed stocked) files files' k = refl
load_unserved (halt.HistoryFull entries bytes) files files' k = absurd k
load_unserved (halt.LogRefused place) files files' k = refl
load_unserved (halt.UnknownName name) files files' k = refl
load_unserved (halt.HubRefused cause) files files' k = absurd k
load_unserved halt.Misused files files' k = absurd k

-- nor that the words fit no command
pub load_fits : (h : Halt) (files files' : FilesSeen) → LoadHalts h files files' → halt_status h ≢ is.Usage
load_fits halt.Memory files files' k = λ e. absurd (cc e)
load_fits (halt.ReadFault name) files files' k = λ e. absurd (cc e)
load_fits (halt.Absent name) files files' k = λ e. absurd (cc e)
load_fits halt.WriteFault files files' k = absurd k
load_fits halt.LogFault files files' k = absurd k
load_fits (halt.Refused name Configuration line cause) files files' k = λ e. absurd (cc e)
load_fits (halt.Refused name Script line cause) files files' k = λ e. absurd (cc e)
load_fits (halt.ShelfEmpty kind needed stocked) files files' k = λ e. absurd (cc e)
load_fits (halt.HistoryFull entries bytes) files files' k = absurd k
load_fits (halt.LogRefused place) files files' k = λ e. absurd (cc e)
load_fits (halt.UnknownName name) files files' k = λ e. absurd (cc e)
load_fits (halt.HubRefused cause) files files' k = absurd k
load_fits halt.Misused files files' k = absurd k

pub fitting_status : (h : Halt) (status : Status) (old new : SinkSeen) → halt_status h ≢ is.Usage → EndsHalted h status old new → status ≢ is.Usage
fitting_status h status old new n (inl k) = λ e. n (sym k.0 ∙ e)
fitting_status h status old new n (inr k) = λ e. absurd (cc (sym k.1 ∙ e))

-- no vault failed
pub unserved_logs : (h : Halt) → serves_on (halt_status h) ≡ false → HaltLogs h no_vault no_vault
unserved_logs halt.Memory e = refl
unserved_logs (halt.ReadFault name) e = refl
unserved_logs (halt.Absent name) e = refl
unserved_logs halt.WriteFault e = refl
unserved_logs halt.LogFault e = absurd (cc e)
unserved_logs (halt.Refused name kind line cause) e = refl
unserved_logs (halt.ShelfEmpty kind needed stocked) e = refl
unserved_logs (halt.HistoryFull entries bytes) e = refl
unserved_logs (halt.LogRefused place) e = refl
unserved_logs (halt.UnknownName name) e = refl
unserved_logs (halt.HubRefused cause) e = refl
unserved_logs halt.Misused e = refl

pub unserved_status : (h : Halt) (status : Status) (old new : SinkSeen) → serves_on (halt_status h) ≡ false → EndsHalted h status old new
    → serves_on status ≡ false
unserved_status h status old new e (inl k) = ap serves_on k.0 ∙ e
unserved_status h status old new e (inr k) = ap serves_on k.1

-- ---- by what the workers answer

module _ {T : Type 0} where
  pub work_files : (result : Result T Halt) (old new : SinkSeen) (files files' : FilesSeen) → IfErr result (λ h. UnstartedBy [] h old new)
      → IsFound files files' → FileCounts result files files'
  work_files (Ok w) old new files files' u f = f
  work_files (Err h) old new files files' u f = work_counts h old new files files' u f

  pub work_halts : (result : Result T Halt) (stock : List Meaning) (definitions site : List ℕ) (told : Option (List ℕ → Option (List ℕ)))
      (old new : SinkSeen) → IfSome told (λ all. first_halt (first_phases stock all definitions site) ≡ None)
      → IfErr result (λ h. UnstartedBy [] h old new) → IfErr result (λ h. IfSome told (λ all. UnstartedBy (first_phases stock all definitions site) h old new))
  work_halts (Ok w) stock definitions site told old new e u = tt
  work_halts (Err h) stock definitions site told old new e u = halts_late_told stock definitions site told h old new e u

  pub on_ok : (result : Result T Halt) (P : Type 0) → P → OnOk result P
  on_ok (Ok w) P p = p
  on_ok (Err h) P p = tt

  pub on_err_as : (result : Result T Halt) (P Q : Type 0) → (P → Q) → OnErr result P → OnErr result Q
  on_err_as (Ok w) P Q f p = tt
  on_err_as (Err h) P Q f p = f p

  pub if_ok_as : (result : Result T Halt) (P Q : T → Type 0) → ((w : T) → P w → Q w) → IfOk result P → IfOk result Q
  if_ok_as (Ok w) P Q f p = f w p
  if_ok_as (Err h) P Q f p = tt

-- ---- by what the workers of a site answer

module _ {T : Type 0} where
  site_halts : (served : Result T NotStarted) (old new : SinkSeen) → PutsReady old new served → IfErr (answered served) (λ h. UnstartedBy [] h old new)
  site_halts (Ok w) old new p = tt
  site_halts (Err unstarted.Memory) old new p = p
  site_halts (Err unstarted.WriteFault) old new p = (refl, (p.0, (λ e. absurd (cc e)), p.1))

  site_sink : (served : Result T NotStarted) (old new : SinkSeen) → PutsReady old new served → SinkCounts (answered served) old new
  site_sink (Ok w) old new p = p.0
  site_sink (Err unstarted.Memory) old new p = elim p [
    | inl e ↦ ap (λ (s : SinkSeen). s.faults) e
    | inr q ↦ q.0
  ]
  site_sink (Err unstarted.WriteFault) old new p = p.0

  site_unserved : (served : Result T NotStarted) → IfErr (answered served) (λ h. serves_on (halt_status h) ≡ false)
  site_unserved (Ok w) = tt
  site_unserved (Err unstarted.Memory) = refl
  site_unserved (Err unstarted.WriteFault) = refl

  site_fits : (served : Result T NotStarted) → IfErr (answered served) (λ h. halt_status h ≢ is.Usage)
  site_fits (Ok w) = tt
  site_fits (Err unstarted.Memory) = λ e. absurd (cc e)
  site_fits (Err unstarted.WriteFault) = λ e. absurd (cc e)

  site_ready : (served : Result T NotStarted) (old new : SinkSeen) → PutsReady old new served → OnOk (answered served) (IsPut ready_line old new)
  site_ready (Ok w) old new p = p
  site_ready (Err unstarted.Memory) old new p = tt
  site_ready (Err unstarted.WriteFault) old new p = tt

  site_err : (served : Result T NotStarted) (P : Type 0) → OnErr served P → OnErr (answered served) P
  site_err (Ok w) P p = tt
  site_err (Err unstarted.Memory) P p = p
  site_err (Err unstarted.WriteFault) P p = p

  site_ok : (served : Result T NotStarted) (P : T → Type 0) → IfOk served P → IfOk (answered served) P
  site_ok (Ok w) P p = p
  site_ok (Err unstarted.Memory) P p = tt
  site_ok (Err unstarted.WriteFault) P p = tt

  module _ (result : Result T Halt) (served : Result T NotStarted) (same : result ≡ answered served) where
    pub host_halts : (old new : SinkSeen) → PutsReady old new served → IfErr result (λ h. UnstartedBy [] h old new)
    host_halts old new p = subst (λ (r : Result T Halt). IfErr r (λ h. UnstartedBy [] h old new)) (sym same) (site_halts served old new p)

    pub host_sink : (old new : SinkSeen) → PutsReady old new served → SinkCounts result old new
    host_sink old new p = subst (λ (r : Result T Halt). SinkCounts r old new) (sym same) (site_sink served old new p)

    pub host_unserved : IfErr result (λ h. serves_on (halt_status h) ≡ false)
    host_unserved = subst (λ (r : Result T Halt). IfErr r (λ h. serves_on (halt_status h) ≡ false)) (sym same) (site_unserved served)

    pub host_fits : IfErr result (λ h. halt_status h ≢ is.Usage)
    host_fits = subst (λ (r : Result T Halt). IfErr r (λ h. halt_status h ≢ is.Usage)) (sym same) (site_fits served)

    pub host_ready : (old new : SinkSeen) → PutsReady old new served → OnOk result (IsPut ready_line old new)
    host_ready old new p = subst (λ (r : Result T Halt). OnOk r (IsPut ready_line old new)) (sym same) (site_ready served old new p)

    pub host_err : (P : Type 0) → OnErr served P → OnErr result P
    host_err P p = subst (λ (r : Result T Halt). OnErr r P) (sym same) (site_err served P p)

    pub host_ok : (P : T → Type 0) → IfOk served P → IfOk result P
    host_ok P p = subst (λ (r : Result T Halt). IfOk r P) (sym same) (site_ok served P p)
