-- A server: why it does not start, and what its workers did where it does.
use Rattle.std.specs.Prelude.{◌≡◌, ◌⊎◌, ℕ, List, Option, None, Result, Ok, Err, IfSome}
use Rattle.cts_def.specs.Sites.{SiteData}
use Rattle.cts_outside.specs.Seen.{SinkSeen}
use Rattle.cts_scribe.specs.declared.ending.ScribeWhy.{ScribeWhy}
use Rattle.cts_server.specs.Ready.{ready_line}
use Rattle.cts_server.specs.declared.worked.NotStarted.{NotStarted}
use Rattle.cts_server.specs.declared.worked.NotStarted.TheVariants as unstarted
use Rattle.cts_server.specs.declared.worked.Worked.{Worked}
use Rattle.cts_run.specs.Endings.{EndsHalted}
use Rattle.cts_run.specs.Load.{digest_asked, site_asked}
use Rattle.cts_run.specs.Phases.{HaltsIn, Phase, first_halt}
use Rattle.cts_run.specs.Putting.{FailsWithin, IsPut}
use Rattle.cts_run.specs.declared.halt.Halt.{Halt}
use Rattle.cts_run.specs.declared.halt.Halt.TheVariants.{Memory, WriteFault}
use Rattle.cts_run.specs.declared.halt.status.Status.{Status}
use Rattle.cts_serve.specs.declared.serving.ended.Ended.{Ended}

-- ---- what it is started from

-- the site of a server, and the digest of its definitions, where the files are told that its words name
abbrev pub IsPlanned : Option (List ℕ → Option (List ℕ)) → Option (List ℕ × List ℕ) → SiteData → List ℕ → Type 0
IsPlanned told asked site digest = IfSome told (λ all. IfSome asked (λ names. (site ≡ site_asked all names.0 names.1) × (digest ≡ digest_asked all names.0)))

-- These phases give a value of which this holds, or halt.
abbrev pub Finds : {T : Type 0} → List Phase → (T → Type 0) → Result T Halt → Type 0
Finds phases holds (Ok x) = (first_halt phases ≡ None) × holds x
Finds phases holds (Err halt) = HaltsIn phases halt

-- the same answer without its value
abbrev pub done_as : {T E : Type 0} → Result T E → Result (Unit {0}) E
done_as (Ok x) = Ok tt
done_as (Err e) = Err e

-- ---- why it does not start

-- what a server answers whose workers have worked, or have not begun
abbrev pub answered : {T : Type 0} → Result T NotStarted → Result T Halt
answered (Ok x) = Ok x
answered (Err unstarted.Memory) = Err Memory
answered (Err unstarted.WriteFault) = Err WriteFault

-- A server halts for a reason of its phases, and nothing was put; or for want of memory, which may come once it is said that it is ready;
-- or since that could not be said.
abbrev pub UnstartedBy : List Phase → Halt → SinkSeen → SinkSeen → Type 0
UnstartedBy phases Memory old new = (new ≡ old) ⊎ IsPut ready_line old new
UnstartedBy phases WriteFault old new = (first_halt phases ≡ None) × FailsWithin ready_line old new
UnstartedBy phases halt old new = HaltsIn phases halt × (new ≡ old)

-- and ends with that reason's status and last line
pub record HaltsServing (phases : List Phase) (status : Status) (old new : SinkSeen) : Type 0 where
  pub halt : Halt
  pub mid : SinkSeen
  pub halts : UnstartedBy phases halt old mid
  pub ends : EndsHalted halt status mid new

-- ---- what its workers did

-- what a server left whose workers have worked
abbrev pub worked_of : Ended → ScribeWhy → Worked
worked_of e scribe = record { history = e.history; lines = e.lines; desks = e.desks; scribe = scribe }
