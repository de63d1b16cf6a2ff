-- Laws of log files.
use Rattle.std.specs.Prelude.{◌≡◌, ◌≤◌, ◌↔◌, ℕ, ◌-◌, nat_le, if◌then◌else◌, Bool, true, List, [], ◌∷◌, ◌++◌, length, take, Some}
use Rattle.std.specs.List.{All}
use Rattle.cts_framing.specs.Heads.{AreBytes}
use Rattle.cts_log.specs.Dumping.{IsDumpLine}
use Rattle.cts_log.specs.Files.{IsLogHead, flagged_of, kind_of, log_file, log_head, log_head_len}
use Rattle.cts_log.specs.Logged.{Logged, FitsLogged, entry_bytes, entry_end, entry_of, has_entry}
use Rattle.cts_log.specs.Reading.{HasNoHead, IsLogRead}
use Rattle.cts_log.specs.declared.kind.LogKind.{LogKind}

-- an entry that was laid out is read again, whatever bytes follow it
pub record EntryIsRead (flagged : Bool) (e : Logged) (after : List ℕ) : Type 0 where
  pub whole : has_entry flagged (entry_bytes flagged e ++ after) ≡ true
  pub entry : entry_of flagged (entry_bytes flagged e ++ after) ≡ e
  pub end : entry_end flagged (entry_bytes flagged e ++ after) ≡ length (entry_bytes flagged e)

abbrev pub EntriesAreRead : Type 0
EntriesAreRead = (flagged : Bool) (e : Logged) (after : List ℕ) → FitsLogged flagged e → EntryIsRead flagged e after

-- bytes hold a whole entry exactly where they begin with one
abbrev pub EntriesAreExact : Type 0
EntriesAreExact = (flagged : Bool) (u : List ℕ) → AreBytes u → (has_entry flagged u ≡ true) ↔
    ((e : Logged) × (x : List ℕ) × FitsLogged flagged e × (u ≡ entry_bytes flagged e ++ x))

-- a file is a log of a kind, with flags or without, exactly where it begins with such a head
abbrev pub HeadsAreExact : Type 0
HeadsAreExact = (file : List ℕ) (kind : LogKind) (flagged : Bool) → ((kind_of file ≡ Some kind) × (flagged_of file ≡ flagged)) ↔
    ((head x : List ℕ) × IsLogHead kind flagged head × (file ≡ head ++ x))

-- the head that is written is one that is read
abbrev pub HeadsAreWritten : Type 0
HeadsAreWritten = (kind : LogKind) (flagged : Bool) (digest : List ℕ) → length digest ≡ 16 → AreBytes digest → IsLogHead kind flagged
    (log_head kind flagged digest)

-- a log that was written is read as its entries, up to its end
abbrev pub LogsAreReadAgain : Type 0
LogsAreReadAgain = (kind : LogKind) (flagged : Bool) (digest : List ℕ) (es : List Logged) → length digest ≡ 16 → AreBytes digest → All (FitsLogged flagged) es
    → IsLogRead (log_file kind flagged digest es) kind flagged es (length (log_file kind flagged digest es))

-- a file with a head has a read
abbrev pub LogsHaveARead : Type 0
LogsHaveARead = (file : List ℕ) (kind : LogKind) → AreBytes file → kind_of file ≡ Some kind → (es : List Logged) × (place : ℕ) × IsLogRead file kind
    (flagged_of file) es place

-- and no two
abbrev pub LogsAreReadOnce : Type 0
LogsAreReadOnce = (file : List ℕ) (kind other : LogKind) (flagged too : Bool) (es fs : List Logged) (place end : ℕ)
    → IsLogRead file kind flagged es place → IsLogRead file other too fs end
    → (kind ≡ other) × (flagged ≡ too) × (es ≡ fs) × (place ≡ end)

-- a file without a head has none
abbrev pub NoHeadNoRead : Type 0
NoHeadNoRead = (file : List ℕ) (kind : LogKind) (flagged : Bool) (es : List Logged) (place : ℕ) → HasNoHead file → IsLogRead file kind flagged es place → ⊥

-- the first of these entries, as long as they lie whole within `room` bytes
abbrev pub whole_within : Bool → ℕ → List Logged → List Logged
whole_within flagged room [] = []
whole_within flagged room (e ∷ es) = if nat_le (length (entry_bytes flagged e)) room then e ∷ whole_within flagged
    (room - length (entry_bytes flagged e)) es else []

-- Each beginning of a written log that has its whole head is read as the entries that lie whole in it, and the place is that of the
-- first byte after these.
abbrev pub BeginningsAreRead : Type 0
BeginningsAreRead = (kind : LogKind) (flagged : Bool) (digest : List ℕ) (es : List Logged) (n : ℕ) → length digest ≡ 16 → AreBytes digest
    → All (FitsLogged flagged) es
    → log_head_len ≤ n → n ≤ length (log_file kind flagged digest es)
    → IsLogRead (take n (log_file kind flagged digest es)) kind flagged (whole_within flagged (n - log_head_len) es)
    (length (log_file kind flagged digest (whole_within flagged (n - log_head_len) es)))

-- an entry has one line
abbrev pub EntriesHaveOneLine : Type 0
EntriesHaveOneLine = (e : Logged) (line other : List ℕ) → IsDumpLine e line → IsDumpLine e other → line ≡ other
