-- Laws of outcomes.
use Rattle.std.specs.Prelude.{◌≡◌, ◌↔◌, ◌<◌, ◌≤◌, ◌⊎◌, ◌++◌, ℕ, Bool, true, false, List, [], ◌∷◌, length, map, Option, Some, None, option_map, Result}
use Rattle.std.specs.List.{All}
use Rattle.cts_core.specs.Runs.{HistoryFull}
use Rattle.cts_def.specs.Sites.{SiteData}
use Rattle.cts_def.specs.declared.proto_spec.Kind.{Kind}
use Rattle.cts_framing.specs.Heads.{AreBytes}
use Rattle.cts_framing.specs.Patterns.{begins}
use Rattle.cts_log.specs.Files.{kind_of}
use Rattle.cts_log.specs.Logged.{FitsLogged, Logged}
use Rattle.cts_log.specs.Reading.{IsLogRead}
use Rattle.cts_log.specs.declared.kind.LogKind.{LogKind}
use Rattle.cts_log.specs.declared.kind.LogKind.TheVariants.{Tlm}
use Rattle.cts_log_parts.specs.Grouping.{BeginsParts, StartsWith}
use Rattle.cts_log_parts.specs.Parts.{groups_of, log_parts}
use Rattle.cts_log_parts.specs.Stops.{AreClosed, AreLeft, read_of}
use Rattle.cts_outside.specs.Contents.{appended}
use Rattle.cts_outside.specs.Vaults.{Logs, Part, log_of}
use Rattle.cts_outside.specs.declared.vault.LogKind.{LogKind as Kept}
use Rattle.cts_play.specs.Played.{played}
use Rattle.cts_proto.specs.Meaning.{Meaning}
use Rattle.cts_run.specs.Acts.{Act, Outside, after_acts, logged_of, puts, syncs, text_of}
use Rattle.cts_run.specs.Command.{Outcome, IsOutcome}
use Rattle.cts_run.specs.Demo.{definitions_name, demo_files, site_name}
use Rattle.cts_run.specs.Dump.{AreDumped, AreLines, head_after}
use Rattle.cts_run.specs.Extract.{unknown_word}
use Rattle.cts_run.specs.Hub.{ends_of, joint, pair_phases, tie_cause, tie_phases}
use Rattle.cts_run.specs.Tie.{TieData}
use Rattle.cts_run.specs.declared.halt.hub_cause.HubCause.{HubCause}
use Rattle.cts_run.specs.declared.hub.ends.Ends.{Ends}
use Rattle.cts_run.specs.Load.{bytes_of, definitions_asked, definitions_phase, site_asked, site_phases}
use Rattle.cts_run.specs.Load.Files.{log_limit}
use Rattle.cts_run.specs.Phases.{first_halt}
use Rattle.cts_run.specs.Play.{IsPlayed}
use Rattle.cts_run.specs.Start.{short_kind}
use Rattle.cts_run.specs.declared.halt.Halt.{Halt}
use Rattle.cts_run.specs.declared.halt.status.Status.TheVariants.{HubRefused, LogRefused, ShelfEmpty, UnknownName, Usage}
use Rattle.cts_run.specs.declared.words.Command.{Command}
use Rattle.cts_run.specs.declared.words.Command.TheVariants.{Dump, Extract, Hub, Play, Rehearse, Replay}
use Rattle.cts_run.specs.Wanted.{WantedData}

-- a command has one outcome, for a shelf with these boxes and files with this content
abbrev pub HasOneOutcome : Type 0
HasOneOutcome = (stock : List Meaning) (files : List ℕ → Option (List ℕ)) (asked : Option Command) (o p : Outcome) → IsOutcome stock files asked o
    → IsOutcome stock files asked p → o ≡ p

-- and there is one, whatever is asked for
abbrev pub HasOutcome : Type 0
HasOutcome = (stock : List Meaning) (files : List ℕ → Option (List ℕ)) (asked : Option Command) → (o : Outcome) × IsOutcome stock files asked o

-- Definitions and a site are taken, and the chains of the site whose world is made need more boxes of a kind than there are.
pub record IsShortFor (stock : List Meaning) (files : List ℕ → Option (List ℕ)) (definitions site : List ℕ) (made : SiteData) : Type 0 where
  pub taken : first_halt (site_phases files definitions site) ≡ None
  pub kind : Kind
  pub short : short_kind stock made ≡ Some kind

-- the same where that is the site of the files
abbrev pub IsShortOf : List Meaning → (List ℕ → Option (List ℕ)) → List ℕ → List ℕ → Type 0
IsShortOf stock files definitions site = IsShortFor stock files definitions site (site_asked files definitions site)

-- Definitions and two sites are taken and tied, and their worlds together need more boxes of a kind than there are.
pub record IsShortHub (stock : List Meaning) (files : List ℕ → Option (List ℕ)) (definitions site below : List ℕ) (tie : TieData) : Type 0 where
  pub taken : first_halt (pair_phases files definitions site below) ≡ None
  pub tied : first_halt (tie_phases (site_asked files definitions site) (site_asked files definitions below) tie) ≡ None
  pub kind : Kind
  pub short : short_kind stock (joint (site_asked files definitions site) (site_asked files definitions below)) ≡ Some kind

-- A replay of such a site is asked for; or a hub of two such sites; or a playback, and the site that plays logs is such; or a rehearsal, and
-- the demo's site is such.
abbrev pub IsShort : List Meaning → (List ℕ → Option (List ℕ)) → Option Command → Type 0
IsShort stock files (Some (Replay definitions site script)) = IsShortOf stock files definitions site
IsShort stock files (Some (Rehearse number)) = IsShortOf stock demo_files definitions_name site_name
IsShort stock files (Some (Play definitions site log)) = IsShortFor stock files definitions site (played 2 (site_asked files definitions site))
IsShort stock files (Some (Hub definitions site script below tie)) = IsShortHub stock files definitions site below tie
IsShort stock files asked = ⊥

-- the outcome has the status of a shelf that is short exactly there
abbrev pub ShortExactly : Type 0
ShortExactly = (stock : List Meaning) (files : List ℕ → Option (List ℕ)) (asked : Option Command) (o : Outcome) → IsOutcome stock files asked o
    → (o.status ≡ ShelfEmpty) ↔ IsShort stock files asked

-- the head of a log of either layout, and whole entries alone after it
abbrev pub IsWholeLog : List ℕ → Type 0
IsWholeLog file = (kind : LogKind) × (flagged : Bool) × (es : List Logged) × IsLogRead file kind flagged es (length file)

-- a file that is dumped where the files after the first have to begin so: it is not too large, begins so, and is a whole log
abbrev pub IsGoodLog : (List ℕ → Option (List ℕ)) → List ℕ → List ℕ → Type 0
IsGoodLog files head log = (file : List ℕ) × (files log ≡ Some file) × (length file ≤ log_limit) × (begins head file ≡ true) × IsWholeLog file

-- a file that is refused there: it is too large, begins otherwise, or is no head with whole entries alone after it
abbrev pub IsRefusedLog : (List ℕ → Option (List ℕ)) → List ℕ → List ℕ → Type 0
IsRefusedLog files head log =
    (file : List ℕ) × (files log ≡ Some file) × ((log_limit < length file) ⊎ ((begins head file ≡ false) ⊎ (IsWholeLog file → ⊥)))

-- One of the files is refused, and those before it are dumped.
abbrev pub HasRefused : (List ℕ → Option (List ℕ)) → List ℕ → List (List ℕ) → Type 0
HasRefused files head [] = ⊥
HasRefused files head (log ∷ logs) =
    IsRefusedLog files head log ⊎ (IsGoodLog files head log × HasRefused files (head_after head (bytes_of (files log))) logs)

-- A dump is asked for of files of which one is refused: it is too large, has another head than the first one, or is no head with whole
-- entries alone after it.
pub record IsBadLog (files : List ℕ → Option (List ℕ)) (asked : Option Command) : Type 0 where
  pub logs : List (List ℕ)
  pub asked_is : asked ≡ Some (Dump logs)
  pub bad : HasRefused files [] logs

-- Columns are asked for by definitions that are taken, of a file that is too large, or in which no word is unknown and that is no head with
-- whole entries alone after it. In a file without a head no word is unknown.
pub record IsBadTable (files : List ℕ → Option (List ℕ)) (asked : Option Command) : Type 0 where
  pub definitions : List ℕ
  pub log : List ℕ
  pub wanted : WantedData
  pub asked_is : asked ≡ Some (Extract definitions log wanted)
  pub taken : (definitions_phase files definitions).halts ≡ None
  pub file : List ℕ
  pub file_is : files log ≡ Some file
  pub bad : (log_limit < length file)
      ⊎ ((unknown_word (definitions_asked files definitions) wanted (kind_of file) ≡ None) × (IsWholeLog file → ⊥))

-- the head of a log of packets, and whole entries alone after it
abbrev pub IsWholePackets : List ℕ → Type 0
IsWholePackets file = (flagged : Bool) × (es : List Logged) × IsLogRead file Tlm flagged es (length file)

-- its whole entries get the history full
abbrev pub FillsHistory : SiteData → List ℕ → Type 0
FillsHistory site file = (acts : List Act) × (due : Result (Unit {0}) Halt) × (p : IsPlayed site file acts due) × (p.ending ≡ HistoryFull)

-- A playback is asked for by definitions and a site that are taken, the shelf has the box for it, and the file is too large, or is no head of a
-- log of packets with whole entries alone after it, and its whole entries don't get the history full.
pub record IsBadPlay (stock : List Meaning) (files : List ℕ → Option (List ℕ)) (asked : Option Command) : Type 0 where
  pub definitions : List ℕ
  pub site : List ℕ
  pub log : List ℕ
  pub asked_is : asked ≡ Some (Play definitions site log)
  pub taken : first_halt (site_phases files definitions site) ≡ None
  pub enough : short_kind stock (played 2 (site_asked files definitions site)) ≡ None
  pub file : List ℕ
  pub file_is : files log ≡ Some file
  pub bad : (log_limit < length file) ⊎ ((IsWholePackets file → ⊥) × (FillsHistory (site_asked files definitions site) file → ⊥))

abbrev pub IsRefused : List Meaning → (List ℕ → Option (List ℕ)) → Option Command → Type 0
IsRefused stock files asked = IsBadLog files asked ⊎ (IsBadTable files asked ⊎ IsBadPlay stock files asked)

-- Columns are asked for by definitions that are taken, of a log that is not too large, and this is the first word that names nothing.
pub record IsUnknownName (files : List ℕ → Option (List ℕ)) (asked : Option Command) : Type 0 where
  pub definitions : List ℕ
  pub log : List ℕ
  pub wanted : WantedData
  pub asked_is : asked ≡ Some (Extract definitions log wanted)
  pub taken : (definitions_phase files definitions).halts ≡ None
  pub file : List ℕ
  pub file_is : files log ≡ Some file
  pub small : length file ≤ log_limit
  pub name : List ℕ
  pub unknown : unknown_word (definitions_asked files definitions) wanted (kind_of file) ≡ Some name

-- the outcome has the status of a word that names nothing exactly there
abbrev pub UnknownExactly : Type 0
UnknownExactly = (stock : List Meaning) (files : List ℕ → Option (List ℕ)) (asked : Option Command) (o : Outcome) → IsOutcome stock files asked o
    → (o.status ≡ UnknownName) ↔ IsUnknownName files asked

-- the outcome has the status of a log that is refused exactly there
abbrev pub RefusedExactly : Type 0
RefusedExactly = (stock : List Meaning) (files : List ℕ → Option (List ℕ)) (asked : Option Command) (o : Outcome) → IsOutcome stock files asked o
    → (o.status ≡ LogRefused) ↔ IsRefused stock files asked

-- ---- a hub

-- Definitions and two sites are taken, and one of the words names nothing in them, or is no size of pieces.
pub record HasMisnamed (files : List ℕ → Option (List ℕ)) (definitions site below : List ℕ) (tie : TieData) : Type 0 where
  pub taken : first_halt (pair_phases files definitions site below) ≡ None
  pub none : ends_of (site_asked files definitions site) (site_asked files definitions below) tie ≡ None

-- the words fit no command, or a hub with such words
abbrev pub IsMisused : (List ℕ → Option (List ℕ)) → Option Command → Type 0
IsMisused files None = Unit {0}
IsMisused files (Some (Hub definitions site script below tie)) = HasMisnamed files definitions site below tie
IsMisused files asked = ⊥

-- Definitions and two sites are taken, and what the words name can't be tied.
pub record HasUntied (files : List ℕ → Option (List ℕ)) (definitions site below : List ℕ) (tie : TieData) : Type 0 where
  pub taken : first_halt (pair_phases files definitions site below) ≡ None
  pub ends : Ends
  pub named : ends_of (site_asked files definitions site) (site_asked files definitions below) tie ≡ Some ends
  pub cause : HubCause
  pub why : tie_cause (site_asked files definitions site) (site_asked files definitions below) ends ≡ Some cause

abbrev pub IsUntied : (List ℕ → Option (List ℕ)) → Option Command → Type 0
IsUntied files (Some (Hub definitions site script below tie)) = HasUntied files definitions site below tie
IsUntied files asked = ⊥

-- the outcome has the status of words that fit no command, and that of a hub that is refused, exactly there
abbrev pub MisusedExactly : Type 0
MisusedExactly = (stock : List Meaning) (files : List ℕ → Option (List ℕ)) (asked : Option Command) (o : Outcome) → IsOutcome stock files asked o
    → (o.status ≡ Usage) ↔ IsMisused files asked

abbrev pub UntiedExactly : Type 0
UntiedExactly = (stock : List Meaning) (files : List ℕ → Option (List ℕ)) (asked : Option Command) (o : Outcome) → IsOutcome stock files asked o
    → (o.status ≡ HubRefused) ↔ IsUntied files asked

-- ---- the parts of a log

-- Of the parts of a log, of which all but the last were synced, a stop has left these, each no longer than a log may be. A dump of the files
-- that have them puts the lines of a beginning of the log's entries, in which is each entry that lay whole in what was synced.
abbrev pub StopsAreDumped : Type 0
StopsAreDumped = (kind : LogKind) (fl : Bool) (digest : List ℕ) (cycle : Option ℕ) (es : List Logged) (ps : List Part) (left : List (List ℕ))
    (files : List ℕ → Option (List ℕ)) (names : List (List ℕ)) (acts : List Act) (due : Result (Unit {0}) Halt)
    → length digest ≡ 16 → AreBytes digest → All (FitsLogged fl) es
    → BeginsParts (log_parts kind fl digest cycle es) (map (λ p. p.bytes) ps) → AreClosed ps → AreLeft ps left
    → map files names ≡ map (λ f. Some f) left → All (λ f. length f ≤ log_limit) left → AreDumped files [] names acts due
    → (read : List Logged) × AreLines read acts × StartsWith es read × StartsWith read (read_of fl (groups_of fl cycle es) (map (λ p. p.synced) ps))

-- ---- what acts leave

-- a sink has their texts, after what was put before
abbrev pub TextsArePut : Type 0
TextsArePut = (acts : List Act) (o : Outside) → (after_acts acts o).out.told ≡ appended o.out.told (text_of acts)

-- each log has the bytes that they append to it, after its own
abbrev pub BytesAreKept : Type 0
BytesAreKept = (kind : Kept) (acts : List Act) (o : Outside)
    → option_map (λ (logs : Logs). (log_of kind logs).bytes) (after_acts acts o).vault.told ≡ option_map
    (λ (logs : Logs). (log_of kind logs).bytes ++ logged_of kind acts) o.vault.told

-- where both logs are synced last, all that was appended to each is sure to outlive a stop, whatever is put after that
abbrev pub AllIsSynced : Type 0
AllIsSynced = (kind : Kept) (acts : List Act) (line : List ℕ) (o : Outside)
    → option_map (λ (logs : Logs). (log_of kind logs).synced) (after_acts (acts ++ (syncs ++ puts line)) o).vault.told
    ≡ option_map (λ (logs : Logs). (log_of kind logs).bytes) (after_acts (acts ++ (syncs ++ puts line)) o).vault.told

-- no count rises by acts that are done
abbrev pub NoCountRises : Type 0
NoCountRises = (acts : List Act) (o : Outside) → ((after_acts acts o).out.faults ≡ o.out.faults) × ((after_acts acts o).vault.faults ≡ o.vault.faults)
