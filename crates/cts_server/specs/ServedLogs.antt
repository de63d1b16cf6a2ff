-- What a stop leaves of the logs of a server whose workers have worked.
use Rattle.std.specs.Prelude.{◌≡◌, ℕ, List, Option, Some}
use Rattle.cts_def.specs.Sites.{SiteData}
use Rattle.cts_entry.specs.declared.entry.Entry.{Entry}
use Rattle.cts_outside.specs.Seen.{CrewSeen, LineSeen, VaultSeen}
use Rattle.cts_outside.specs.Vaults.{Log, Logs, log_of}
use Rattle.cts_outside.specs.declared.vault.LogKind.{LogKind}
use Rattle.cts_scribe.specs.Laws.{IsAfterStop, IsLeftReadable}
use Rattle.cts_scribe.specs.Vaults.{AreBlank}
use Rattle.cts_server.specs.Serving.{HasServed}
use Rattle.cts_server.specs.declared.worked.Worked.{Worked}
use Rattle.cts_turn.specs.Lists.{StartsWith}

-- A stop leaves of a log files, one for each part, that are a beginning of the parts of the log of some beginning of the history: they are read, one after
-- the other, as the entries that lie whole in them, among which is each one that lies whole in what was synced.
abbrev pub LeavesLog : SiteData → List ℕ → List Entry → LogKind → Log → List (List ℕ) → Type 0
LeavesLog site digest history kind l files =
    (entries : List Entry) × StartsWith history entries × IsLeftReadable kind site digest entries l files

module _ {D Q V : Type 0} (line_seen : D → LineSeen) (door_seen : Q → LineSeen) (vault_seen : V → VaultSeen) where
  -- Where the workers of a site worked over a vault that was blank, every stop leaves so of each log that the vault tells, whyever the scribe ended.
  abbrev pub ServedStopsLeaveLogs : Type 0
  ServedStopsLeaveLogs = (site : SiteData) (digest : List ℕ) (w : Worked) (dialers dialers' : List (Option D)) (doors doors' : List (Option Q))
      (vault vault' : V) (crew crew' : CrewSeen) → AreBlank (vault_seen vault).told
      → HasServed line_seen door_seen vault_seen site digest w dialers dialers' doors doors' (Some vault) (Some vault') crew crew'
      → (kind : LogKind) (logs : Logs) (files : List (List ℕ)) → (vault_seen vault').told ≡ Some logs → IsAfterStop (log_of kind logs) files
      → LeavesLog site digest w.history kind (log_of kind logs) files
