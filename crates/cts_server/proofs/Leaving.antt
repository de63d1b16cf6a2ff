-- What a stop leaves of a server's logs is read.
use Rattle.std.proofs.Common.{◌≡◌, inl, inr, ℕ, List, [], take, drop, refl, sym, ap, ◌∙◌, subst, Some}
use Rattle.std.proofs.lemmas.List.{take-append-drop}
use Rattle.cts_def.specs.Makers.{scribe}
use Rattle.cts_def.specs.Sites.{SiteData}
use Rattle.cts_server.specs.Scribes.{OwesScribe}
use Rattle.cts_entry.specs.declared.entry.Entry.{Entry}
use Rattle.cts_outside.specs.Seen.{LineSeen, VaultSeen}
use Rattle.cts_outside.specs.Vaults.{Log, Logs, log_of}
use Rattle.cts_outside.specs.declared.vault.LogKind.{LogKind}
use Rattle.cts_outside.specs.declared.vault.LogKind.TheVariants.{Tlm, Cmd}
use Rattle.cts_scribe.specs.Ending.{LogsEnd}
use Rattle.cts_scribe.specs.Logs.{parts}
use Rattle.cts_scribe.specs.Vaults.{AreBegun, AreBlank, AreWhole, IsBegun}
use Rattle.cts_scribe.specs.declared.ending.ScribeWhy.{ScribeWhy}
use Rattle.cts_scribe.specs.declared.ending.ScribeWhy.TheVariants.{Drained, VaultFailed, NoMemory, Cancelled}
use Rattle.cts_scribe.proofs.Vaulting.{blank_begun, full_begun}
use Rattle.cts_turn.specs.Lists.{StartsWith}
use Rattle.cts_server.specs.ServedLogs.{ServedStopsLeaveLogs}

module _ (site : SiteData) (digest : List ℕ) (history : List Entry) where
  -- the parts of a log are a beginning of those of the log of some beginning of the history
  record IsSome (kind : LogKind) (l : Log) : Type 0 where
    entries : List Entry
    begins : StartsWith history entries
    begun : IsBegun kind site digest entries l

  followed : (cursor : ℕ) → StartsWith history (take cursor history)
  followed cursor = (drop cursor history, sym (take-append-drop cursor history))

  begun_some : (kind : LogKind) (cursor : ℕ) (l : Log) → IsBegun kind site digest (take cursor history) l → IsSome kind l
  begun_some kind cursor l b = record { entries = take cursor history; begins = followed cursor; begun = b }

  whole_some : (kind : LogKind) (cursor : ℕ) (logs : Logs) → AreWhole site digest (take cursor history) (Some logs) → IsSome kind (log_of kind logs)
  whole_some Tlm cursor logs so = begun_some Tlm cursor logs.tlm (full_begun logs.tlm (parts Tlm site digest (take cursor history)) so.0)
  whole_some Cmd cursor logs so = begun_some Cmd cursor logs.cmd (full_begun logs.cmd (parts Cmd site digest (take cursor history)) so.1)

  part_some : (kind : LogKind) (cursor : ℕ) (logs : Logs) → AreBegun site digest (take cursor history) (Some logs) → IsSome kind (log_of kind logs)
  part_some Tlm cursor logs so = begun_some Tlm cursor logs.tlm so.0
  part_some Cmd cursor logs so = begun_some Cmd cursor logs.cmd so.1

  blank_some : (kind : LogKind) (logs : Logs) → AreBlank (Some logs) → IsSome kind (log_of kind logs)
  blank_some Tlm logs so = record { entries = []; begins = (history, refl); begun = blank_begun Tlm site digest logs.tlm so.0 }
  blank_some Cmd logs so = record { entries = []; begins = (history, refl); begun = blank_begun Cmd site digest logs.cmd so.1 }

  ended_some : (kind : LogKind) (cursor : ℕ) (why : ScribeWhy) (logs : Logs) → LogsEnd site digest (take cursor history) why (Some logs)
      → IsSome kind (log_of kind logs)
  ended_some kind cursor Drained logs so = whole_some kind cursor logs so
  ended_some kind cursor VaultFailed logs so = part_some kind cursor logs so
  ended_some kind cursor NoMemory logs (inl so) = whole_some kind cursor logs so
  ended_some kind cursor NoMemory logs (inr so) = blank_some kind logs so
  ended_some kind cursor Cancelled logs so = absurd so

  owed_some : (old new : VaultSeen) (cursor : ℕ) (why : ScribeWhy) → AreBlank old.told → OwesScribe site digest scribe history old new cursor why
      → (kind : LogKind) (logs : Logs) → new.told ≡ Some logs → IsSome kind (log_of kind logs)
  owed_some old new cursor why blank (inl r) kind logs told = ended_some kind cursor why logs (subst (λ t. LogsEnd site digest
      (take cursor history) why t) told r.logs)
  owed_some old new cursor why blank (inr u) kind logs told = blank_some kind logs (subst (λ t. AreBlank t) (ap (λ v. v.told) (sym u.same) ∙ told) blank)

pub served_stops_leave_logs : {D Q V : Type 0} (line_seen : D → LineSeen) (door_seen : Q → LineSeen) (vault_seen : V → VaultSeen)
    → ServedStopsLeaveLogs line_seen door_seen vault_seen
served_stops_leave_logs line_seen door_seen vault_seen site digest w dialers dialers' doors doors' vault vault' crew crew' blank served
    kind logs files told stop =
    let s = owed_some site digest w.history (vault_seen vault) (vault_seen vault') served.scribe.0 w.scribe blank served.scribe.1 kind logs told in
    (s.entries, s.begins, served.readable kind s.entries (log_of kind logs) files s.begins s.begun stop)
