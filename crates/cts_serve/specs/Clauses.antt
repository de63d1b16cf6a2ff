-- What a server says of its status, of whether it was started and of the shelf, in one record for each.
use Rattle.std.specs.Prelude.{◌≡◌, ◌↔◌, ◌≤◌, ◌⊎◌, ℕ, true, List, Option, None, IfSome, IsSome, IsSomeAnd}
use Rattle.cts_entry.specs.Histories.{entries_in}
use Rattle.cts_entry.specs.Legal.{most_entries}
use Rattle.cts_entry.specs.declared.entry.Entry.{Entry}
use Rattle.cts_outside.specs.Causes.{Rose, Steady, raised}
use Rattle.cts_outside.specs.Seen.{CrewSeen, FilesSeen, LineSeen, SinkSeen, VaultSeen}
use Rattle.cts_proto.specs.Meaning.{Meaning}
use Rattle.cts_run.specs.Command.{first_phases}
use Rattle.cts_run.specs.Laws.{IsShortOf}
use Rattle.cts_run.specs.Lines.{usage_line}
use Rattle.cts_run.specs.Phases.{first_halt}
use Rattle.cts_run.specs.Putting.{Printed}
use Rattle.cts_run.specs.declared.halt.status.Status.{Status}
use Rattle.cts_run.specs.declared.halt.status.Status.TheVariants as is
use Rattle.cts_serve.specs.Served.{DialFailedIn, LeftNothing, VaultRose, serves_on}
use Rattle.cts_serve.specs.Serving.{HaltsServing}
use Rattle.cts_serve.specs.declared.serving.ended.Ended.{Ended}
use Rattle.cts_server.specs.Troubles.{has_closed}
use Rattle.cts_server.specs.declared.outcome.trouble.Trouble.TheVariants as trouble

-- ---- whether it was started, over the files that are told, the names that the words give, and what the shelf has

-- It was, wherever the status is one of these; where it was not, it left nothing. The phases of the words have no reason to halt where it
-- was; and the reason why it was not is one of them, or came with `READY`.
pub record Starts (told : Option (List ℕ → Option (List ℕ))) (asked : Option (List ℕ × List ℕ)) (stock : List Meaning) (e : Ended) (out out' : SinkSeen)
    : Type 0 where
  pub started : serves_on e.status ≡ true → IsSome e.scribe
  pub nothing : e.scribe ≡ None → LeftNothing e
  pub planned : IsSome e.scribe → IfSome told (λ all. IsSomeAnd asked (λ n. first_halt (first_phases stock all n.0 n.1) ≡ None))
  pub halted : e.scribe ≡ None → IfSome told (λ all. IfSome asked (λ n. HaltsServing (first_phases stock all n.0 n.1) e.status out out'))

-- The usage status comes exactly where the words ask for no server; and then the line that says which ones fit is put.
pub record TellsUsage (asked : Option (List ℕ × List ℕ)) (status : Status) (out out' : SinkSeen) : Type 0 where
  pub exact : status ≡ is.Usage ↔ (asked ≡ None)
  pub misused : asked ≡ None → Printed out out' usage_line

-- The status of a short shelf comes only where all chains of the site need more boxes of a kind than the shelf holds; and there no other
-- status comes, where no read failed, but want of memory.
pub record TellsShelf (told : Option (List ℕ → Option (List ℕ))) (asked : Option (List ℕ × List ℕ)) (stock : List Meaning) (status : Status)
    (files files' : FilesSeen) : Type 0 where
  pub short : status ≡ is.ShelfEmpty → IfSome told (λ all. IsSomeAnd asked (λ n. IsShortOf stock all n.0 n.1))
  pub exact : Steady files.faults files'.faults → IfSome told (λ all. IfSome asked (λ n. IsShortOf stock all n.0 n.1
      → (status ≡ is.ShelfEmpty) ⊎ (status ≡ is.Memory)))

-- ---- what a status of a fault says

-- Each of these comes only where a count rose: of the files, of the output, of the vault, of the crew, or of the failed dials of a door.
pub record TellsFaults {Q V : Type 0} (door_seen : Q → LineSeen) (vault_seen : V → VaultSeen) (status : Status) (files files' : FilesSeen)
    (out out' : SinkSeen) (doors doors' : List (Option Q)) (vault vault' : Option V) (crew crew' : CrewSeen) : Type 0 where
  pub read : status ≡ is.ReadFault → Rose files.faults files'.faults
  pub absent : status ≡ is.Absent → Rose files.absences files'.absences
  pub write : status ≡ is.WriteFault → Rose out.faults out'.faults
  pub log : status ≡ is.LogFault → VaultRose vault_seen vault vault'
  pub worker : status ≡ is.NoWorker → raised crew.faults ≤ crew'.faults
  pub door : status ≡ is.DoorFault → DialFailedIn door_seen doors doors'

-- That of a full history comes only where a connection was closed since the history was full, or as many entries count in it as may; and
-- where one was, no status with a greater number comes.
pub record TellsFull (status : Status) (history : List Entry) : Type 0 where
  pub cause : status ≡ is.HistoryFull → (has_closed trouble.HistoryFull history ≡ true) ⊎ (entries_in history ≡ most_entries)
  pub told : has_closed trouble.HistoryFull history ≡ true → (status ≡ is.Memory) ⊎ ((status ≡ is.WriteFault) ⊎ (status ≡ is.HistoryFull))
