-- Columns of a log: the heading and the rows of a packet's entries, which words name nothing, and where the log is refused.
use Rattle.std.specs.Prelude.{◌≡◌, ℕ, Bool, true, false, List, [], ◌∷◌, ◌++◌, length, map, Option, Some, None, option_map, option_to_list, ◌⊎◌}
use Rattle.std.specs.Prelude.{is_some, Result, if◌then◌else◌}
use Rattle.std.specs.List.{flat_map}
use Rattle.cts_conv.specs.declared.value.ValueKind.{ValueKind}
use Rattle.cts_def.specs.Items.{ItemData}
use Rattle.cts_def.specs.Packets.{DefinitionsData, PacketData}
use Rattle.cts_extract.specs.Columns.{first_unknown, heading_text, is_of_packet, item_called, packet_named, row_text}
use Rattle.cts_extract.specs.Words.{texts_of}
use Rattle.cts_log.specs.Files.{kind_of}
use Rattle.cts_log.specs.Logged.{Logged}
use Rattle.cts_log.specs.Reading.{IsLogRead}
use Rattle.cts_log.specs.declared.kind.LogKind.{LogKind}
use Rattle.cts_log.specs.declared.kind.LogKind.TheVariants.{Tlm, Cmd}
use Rattle.cts_run.specs.Acts.{Act, DoesAll, Outside, puts}
use Rattle.cts_run.specs.Dump.{IsNoLog, dump_answer}
use Rattle.cts_run.specs.Load.{bytes_of, definitions_asked, definitions_phase}
use Rattle.cts_run.specs.Load.Files.{log_limit, within}
use Rattle.cts_run.specs.Phases.{Phase, asking, reading}
use Rattle.cts_run.specs.Wanted.{WantedData}
use Rattle.cts_run.specs.declared.halt.Halt.{Halt}
use Rattle.cts_run.specs.declared.halt.Halt.TheVariants as halt

-- ---- the phases

-- a log of commands has commands, and one of telemetry has packets
abbrev pub has_commands : LogKind → Bool
has_commands Tlm = false
has_commands Cmd = true

-- the first word that names nothing in a log of this kind; none where there is no log
abbrev pub unknown_word : DefinitionsData → WantedData → Option LogKind → Option (List ℕ)
unknown_word d w None = None
unknown_word d w (Some kind) = first_unknown d (has_commands kind) w.target w.packet (texts_of w.items)

-- a file without the head of a log is refused at its beginning
abbrev pub head_halt : List ℕ → Option Halt
head_halt file = if is_some (kind_of file) then None else Some (halt.LogRefused 0)

-- the head of the log, and then the words
abbrev pub table_phases : DefinitionsData → WantedData → List ℕ → List Phase
table_phases d w file = asking (head_halt file) ∷ asking (option_map halt.UnknownName (unknown_word d w (kind_of file))) ∷ []

-- the log is read; one that is too large is refused at the limit
abbrev pub columns_phase : (List ℕ → Option (List ℕ)) → List ℕ → Phase
columns_phase files name = reading name (within log_limit (halt.LogRefused log_limit) (λ bytes. None)) (files name)

-- definitions, then the log, its head and the words
abbrev pub extract_phases : (List ℕ → Option (List ℕ)) → List ℕ → List ℕ → WantedData → List Phase
extract_phases files definitions log w =
    definitions_phase files definitions ∷ columns_phase files log ∷ table_phases (definitions_asked files definitions) w (bytes_of (files log))

-- ---- what is put

-- the items of a packet that these words name, in order
abbrev pub items_called : PacketData → List (List ℕ) → List ItemData
items_called p words = flat_map (λ word. option_to_list (item_called p word)) words

-- the line of an entry of the packet; nothing of another one
abbrev pub row_line : ValueKind → PacketData → List ItemData → Logged → List ℕ
row_line kind p items e = if is_of_packet p e then row_text kind p items e ++ 10 ∷ [] else []

abbrev pub row_puts : ValueKind → PacketData → List ItemData → Logged → List Act
row_puts kind p items e = puts (row_line kind p items e)

-- the line of the heading
abbrev pub heading_line : List (List ℕ) → List ℕ
heading_line names = heading_text names ++ 10 ∷ []

-- the heading, and a row for each entry of the packet
abbrev pub lines_of : ValueKind → PacketData → List ItemData → List Logged → List Act
lines_of kind p items entries = puts (heading_line (map (λ (i : ItemData). i.name) items)) ++ flat_map (row_puts kind p items) entries

-- those of the packet that is named, and of the items that are
abbrev pub table_of : WantedData → List Logged → Option PacketData → List Act
table_of w entries None = []
table_of w entries (Some p) = lines_of w.kind p (items_called p (texts_of w.items)) entries

-- The table of all whole entries of a log. It is refused at the first byte that is in no entry, if there is one.
pub record IsTable (d : DefinitionsData) (w : WantedData) (file : List ℕ) (acts : List Act) (due : Result (Unit {0}) Halt) : Type 0 where
  pub kind : LogKind
  pub flagged : Bool
  pub entries : List Logged
  pub place : ℕ
  pub read : IsLogRead file kind flagged entries place
  pub acts_are : acts ≡ table_of w entries (packet_named d (has_commands kind) w.target w.packet)
  pub due_is : due ≡ dump_answer place (length file)

-- what is done of a file before the last line, and how it ends; a file that is no log is refused before
abbrev pub IsExtract : DefinitionsData → WantedData → List ℕ → List Act → Result (Unit {0}) Halt → Type 0
IsExtract d w file acts due = IsTable d w file acts due ⊎ IsNoLog file acts due

-- ---- what was put

-- These lines of the entries of a log were put, in their order, and the log was read to its end; or why not.
pub record PutsRows (rows : Logged → List Act) (file : List ℕ) (answer : Result (Unit {0}) Halt) (old new : Outside) : Type 0 where
  pub kind : LogKind
  pub flagged : Bool
  pub entries : List Logged
  pub place : ℕ
  pub read : IsLogRead file kind flagged entries place
  pub does : DoesAll (flat_map rows entries) (dump_answer place (length file)) answer old new

-- The same with the heading before them.
pub record PutsLines (kind : ValueKind) (p : PacketData) (items : List ItemData) (file : List ℕ) (answer : Result (Unit {0}) Halt) (old new : Outside) : Type 0
  where
    pub log : LogKind
    pub flagged : Bool
    pub entries : List Logged
    pub place : ℕ
    pub read : IsLogRead file log flagged entries place
    pub does : DoesAll (lines_of kind p items entries) (dump_answer place (length file)) answer old new
