-- Laws of runs.
use Rattle.std.specs.Prelude.{◌≡◌, ℕ, ◌+◌, true, false, List, ◌++◌, length, take, drop}
use Rattle.std.specs.List.{All, list_any}
use Rattle.cts_def.specs.Makers.{first_desk, server}
use Rattle.cts_def.specs.Sites.{IsSoundSite, SiteData}
use Rattle.cts_def.specs.declared.time.Time.{Time}
use Rattle.cts_entry.specs.declared.entry.Entry.{Entry}
use Rattle.cts_entry.specs.declared.event.Event.{Event}
use Rattle.cts_entry.specs.Legal.{is_ended, IsLegal}
use Rattle.cts_table.specs.Keeping.{rules_of}
use Rattle.cts_table.specs.declared.basis.Basis.{Basis}
use Rattle.cts_framing.specs.Laws.{AllSound}
use Rattle.cts_framing.specs.Packets.{capped}
use Rattle.cts_trace.specs.Routing.{queue, walk}
use Rattle.cts_api.specs.Replies.{Reply as Answer}
use Rattle.cts_core.specs.States.{Environment, State, is_line, opening, ahead, unsent, packets_log, commands_log}
use Rattle.cts_core.specs.Runs.{Did, Ending, Runs}
use Rattle.cts_core.specs.Environments.{environment_of, site_environment}
use Rattle.cts_core_laws.specs.Logs.{drained_by, packets_logged, commands_logged}
use Rattle.cts_core.specs.Cursors.{IsPassed}
use Rattle.cts_core.specs.Sendings.{AreJudged}
use Rattle.cts_core_laws.specs.Told.{Told, told, history_of}

-- the chain of each maker is sound, and each body has exactly one reply of a desk
pub record IsSoundEnvironment (env : Environment) : Type 0 where
  pub chains : (by : ℕ) → AllSound (env.routing.chain by)
  pub some_answer : (history : List Entry) (desk : ℕ) (time : Time) (body : List ℕ) → (a : Answer) × env.answers history desk time body a
  pub one_answer : (history : List Entry) (desk : ℕ) (time : Time) (body : List ℕ) (a b : Answer) → env.answers history desk time body a
      → env.answers history desk time body b → a ≡ b

-- each list of events has a run
abbrev pub HasRun : Environment → Type 0
HasRun env = (s : State) (events : List Event) → (dids : List Did) × (ending : Ending) × Runs env s events dids ending

-- and no other
abbrev pub HasOneRun : Environment → Type 0
HasOneRun env = (s : State) (events : List Event) (dids others : List Did) (ending other : Ending)
    → Runs env s events dids ending → Runs env s events others other → (dids ≡ others) × (ending ≡ other)

-- neither the server nor a desk is a line
pub record AreApart (env : Environment) : Type 0 where
  pub server : is_line env server ≡ false
  pub desks : (desk : ℕ) → env.is_desk desk ≡ true → is_line env (first_desk + desk) ≡ false

-- what a desk replies is appended in its own name
abbrev pub IsAnsweredByDesks : Environment → Type 0
IsAnsweredByDesks env = (history : List Entry) (desk : ℕ) (time : Time) (body : List ℕ) (a : Answer) → env.answers history desk time body a
    → All (λ (e : Entry). e.by ≡ first_desk + desk) a.entries

-- What the history of a run says of each interface and slot is what the events told of it.
abbrev pub CoreIsTold : Environment → Type 0
CoreIsTold env = (events : List Event) (dids : List Did) (ending : Ending) (m : ℕ) → AreApart env → is_line env m ≡ true
    → Runs env opening events dids ending → Told env.routing m (history_of dids) (told m events dids)

-- The logs have what stands of the history up to the place that they have passed, and nothing else.
abbrev pub CoreIsLogged : Environment → Type 0
CoreIsLogged env = (events : List Event) (dids : List Did) (ending : Ending) → Runs env opening events dids ending
    → (packets_logged dids ≡ packets_log env (take (drained_by events dids) (history_of dids)))
    × (commands_logged dids ≡ commands_log env (take (drained_by events dids) (history_of dids)))

-- What a desk replies after a legal history in which nobody has ended leaves it legal, its limits too, and nobody ends by it.
pub record IsAnsweredLegally (base : Basis) : Type 0 where
  pub legal : (history : List Entry) (desk : ℕ) (time : Time) (body : List ℕ) (a : Answer) → (environment_of base).is_desk desk ≡ true
      → list_any (λ (e : Entry). is_ended e.what) history ≡ false
      → (environment_of base).answers history desk time body a → IsLegal (rules_of base) history → IsLegal (rules_of base) (history ++ a.entries)
  pub none_ended : (history : List Entry) (desk : ℕ) (time : Time) (body : List ℕ) (a : Answer)
      → (environment_of base).answers history desk time body a → list_any (λ (e : Entry). is_ended e.what) a.entries ≡ false

-- The history of a run is legal.
abbrev pub CoreIsLegal : Basis → Type 0
CoreIsLegal base = (events : List Event) (dids : List Did) (ending : Ending) → Runs (environment_of base) opening events dids ending
    → IsLegal (rules_of base) (history_of dids)

-- A maker's cursor may be kept as one place of the history, and a count of what was refused before it: what is ahead, and what
-- a Closed says is unsent, follow from these two.
abbrev pub CursorIsPlace : Environment → Type 0
CursorIsPlace env = (s : State) (by place count : ℕ) → IsPassed env s by place count
    → (ahead env s by ≡ walk env.routing by (drop place s.history)) × (unsent env s by ≡ capped (count + length (queue env.routing by (drop place s.history))))

-- The environments of sites keep a law, whatever the limits.
abbrev pub OfSites : (Environment → Type 0) → Type 0
OfSites Law = (base : Basis) → Law (environment_of base)

-- The numbers of a site's makers are apart, since it has at most sixteen interfaces and four routers.
abbrev pub SitesAreApart : Type 0
SitesAreApart = (base : Basis) → IsSoundSite base.site → AreApart (environment_of base)

-- In every run a command is refused exactly where its text asks for none, a check fails, its target has no interface, that interface
-- is not connected, or the history is full.
abbrev pub CommandsAreJudged : Type 0
CommandsAreJudged = (site : SiteData) (s : State) (events : List Event) (dids : List Did) (ending : Ending)
    → Runs (site_environment site) s events dids ending → AreJudged site s events dids
