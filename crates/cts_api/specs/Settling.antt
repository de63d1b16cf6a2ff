-- How a call that is done is settled: room for its entry, the text, and then the entry.
use Rattle.std.specs.Prelude.{◌≡◌, ℕ, ◌≤◌, Bool, true, false, map, Option, Some, None, IfSome, IfOk, Result, Ok, Err}
use Rattle.cts_base.specs.declared.memory.Memory.{Memory}
use Rattle.cts_cmd.specs.declared.request.Request.{Request}
use Rattle.cts_def.specs.declared.time.Time.{Time}
use Rattle.cts_entry.specs.declared.what.What.{What}
use Rattle.cts_entry.specs.declared.what.What.TheVariants.{SetLimits}
use Rattle.cts_entry.specs.Histories.{bytes_for, entries_for}
use Rattle.cts_entry.specs.Legal.{IsAllowed}
use Rattle.cts_rpc.specs.Replies.{result_reply}
use Rattle.cts_table.specs.Keeping.{rules_of, IsOfSite}
use Rattle.cts_table.specs.States.{Shown, fits}
use Rattle.serde_json.specs.Data.{Data}
use Rattle.serde_json.specs.View.{view}
use Rattle.cts_api.specs.declared.settling.Answer as code
use Rattle.cts_api.specs.declared.refusal.Refusal.{Refusal}
use Rattle.cts_api.specs.declared.refusal.Refusal.TheVariants.{NoSuch, NotDone, BadParams, Memory as NoMemory}
use Rattle.cts_api.specs.declared.sending.Done as done
use Rattle.cts_api.specs.Answers.{answer}
use Rattle.cts_methods.specs.Asking.{Asking, asks_received, asks_sent, enables, sets_limits, stops}
use Rattle.cts_api.specs.Points.{Point}
use Rattle.cts_api.specs.Replied.{Appends, IsUnchanged}
use Rattle.cts_api.specs.Replies.{HasRequest, IsTextFor, history_full, made, reply_with, respond}
use Rattle.cts_api.specs.Responding.{IsTold, RefusesWith}
use Rattle.cts_api.specs.Telling.{IsDoneBy, listed, point}

-- what is answered without memory
abbrev pub takes_memory : Asking → Bool
takes_memory (asks_received p) = false
takes_memory (asks_sent p) = false
takes_memory (enables on name) = false
takes_memory stops = false
takes_memory _ = true

-- What is asked is answered so, where its request, if it is a command, is this one. Memory stands beside each answer for which some is taken.
abbrev pub HasAnswered : Point → Asking → Result done.Done Refusal → Type 0
HasAnswered h asking (Err NoMemory) = takes_memory asking ≡ true
HasAnswered h asking (Err (NoSuch message)) = (r : Option Request) × HasRequest asking r × IsDoneBy h (answer h r asking) (Err (NoSuch message))
HasAnswered h asking (Err (NotDone message)) = (r : Option Request) × HasRequest asking r × IsDoneBy h (answer h r asking) (Err (NotDone message))
HasAnswered h asking (Err BadParams) = (r : Option Request) × HasRequest asking r × IsDoneBy h (answer h r asking) (Err BadParams)
HasAnswered h asking (Ok d) = (r : Option Request) × HasRequest asking r × IsDoneBy h (answer h r asking) (Ok d)

-- ---- the persistence of new limits is at least 1

abbrev pub HasPersistence : Option ℕ → Type 0
HasPersistence None = Unit {0}
HasPersistence (Some n) = 1 ≤ n

abbrev pub IsSoundAsking : Asking → Type 0
IsSoundAsking (sets_limits name new) = HasPersistence new.persistence
IsSoundAsking _ = Unit {0}

abbrev pub IsPersistent : What → Type 0
IsPersistent (SetLimits enabled packet item persistence set limits) = 1 ≤ persistence
IsPersistent _ = Unit {0}

abbrev pub LimitsPersist : Asking → Result done.Done Refusal → Type 0
LimitsPersist (sets_limits name new) (Ok d) = HasPersistence new.persistence → IfSome d.what IsPersistent
LimitsPersist _ _ = Unit {0}

-- ---- what is settled

-- what a desk says may stand after the entries
pub record CanSay (s : Shown) (by : ℕ) (time : Time) (what : What) : Type 0 where
  pub allowed : IsAllowed (rules_of s.basis) s.entries (made by time what)
  pub of_site : IsOfSite s.basis.site s.entries (made by time what)

abbrev pub CanSayIt : Shown → ℕ → Time → Option What → Type 0
CanSayIt s by time None = Unit {0}
CanSayIt s by time (Some what) = CanSay s by time what

-- the response to what is done: its result, or that the history has no room
abbrev pub text_by : Option Data → Data → Bool → Option Data
text_by id value true = respond id (λ i. result_reply i value)
text_by id value false = (history_full id).response

-- something is said, and the history has room for it
abbrev pub HasRoom : Shown → Option What → Type 0
HasRoom s None = ⊥
HasRoom s (Some what) = fits s (entries_for what) (bytes_for what) ≡ true

-- A result is told and what is said appended, or the history has no room for it.
abbrev pub Settled : Shown → ℕ → Time → Option Data → Data → Option What → Result code.Answer Memory → Shown → Type 0
Settled old by time id value what (Ok a) new =
    let r = reply_with (point old) id value (map (made by time) (listed what)) in
    IsTextFor r.response a.text × Appends old r a.appended new
Settled old by time id value what (Err e) new = IsUnchanged old new

-- ---- how a call ends

-- what is done may be said
abbrev pub CanEnd : Shown → ℕ → Time → Result done.Done Refusal → Type 0
CanEnd s by time (Ok d) = CanSayIt s by time d.what
CanEnd s by time (Err e) = Unit {0}

-- A refusal is told, and appends nothing.
pub record Refuses (old : Shown) (id : Option Data) (why : Refusal) (x : Result code.Answer Memory) (new : Shown) : Type 0 where
  pub same : new ≡ old
  pub none : IfOk x (λ a. a.appended ≡ 0)
  pub told : IfOk x (λ a. IsTold why)
  pub text : IfOk x (λ a. RefusesWith id why a.text)

-- What is done is settled.
abbrev pub Ends : Shown → ℕ → Time → Option Data → Result done.Done Refusal → Result code.Answer Memory → Shown → Type 0
Ends old by time id (Ok d) x new = Settled old by time id (view d.result) d.what x new
Ends old by time id (Err why) x new = Refuses old id why x new
