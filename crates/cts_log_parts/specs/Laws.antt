-- Laws of the parts of a log.
use Rattle.std.specs.Prelude.{◌≡◌, ℕ, Bool, if◌then◌else◌, List, [], ◌∷◌, ◌++◌, length, map, Option, None}
use Rattle.std.specs.List.{All, flat_map}
use Rattle.cts_framing.specs.Heads.{AreBytes}
use Rattle.cts_log.specs.Cycling.{begins_part, size_next, size_with}
use Rattle.cts_log.specs.Files.{log_file, log_head, log_head_len}
use Rattle.cts_log.specs.Logged.{FitsLogged, Logged, entry_bytes}
use Rattle.cts_log.specs.declared.kind.LogKind.{LogKind}
use Rattle.cts_outside.specs.Vaults.{Part}
use Rattle.cts_log_parts.specs.Grouping.{BeginsParts, StartsWith, grouped, joined, last_of, size_after}
use Rattle.cts_log_parts.specs.Growths.{DoNotFall, cut_growth, given, with_entry}
use Rattle.cts_log_parts.specs.Parts.{AreLogParts, counted, entry_len, groups_of, log_parts}
use Rattle.cts_log_parts.specs.Stops.{AreClosed, AreLeft, AreRead, read_of}

-- The parts of a log are what they are to be, and nothing else is.
abbrev pub PartsAreThese : Type 0
PartsAreThese = (kind : LogKind) (fl : Bool) (digest : List ℕ) (cycle : Option ℕ) (es : List Logged) → AreLogParts kind fl digest cycle es
    (log_parts kind fl digest cycle es)

abbrev pub PartsAreOne : Type 0
PartsAreOne = (kind : LogKind) (fl : Bool) (digest : List ℕ) (cycle : Option ℕ) (es : List Logged) (parts : List (List ℕ))
    → AreLogParts kind fl digest cycle es parts → parts ≡ log_parts kind fl digest cycle es

-- the entries of the parts are those of the log, in order
abbrev pub PartsHaveTheEntries : Type 0
PartsHaveTheEntries = (fl : Bool) (cycle : Option ℕ) (es : List Logged) → flat_map (λ g. g) (groups_of fl cycle es) ≡ es

-- without a limit the log is one part
abbrev pub OnePartWithout : Type 0
OnePartWithout = (kind : LogKind) (fl : Bool) (digest : List ℕ) (es : List Logged) → log_parts kind fl digest None es ≡ log_file kind fl digest es ∷ []

-- The parts of more entries begin with those of the first ones: the last part goes on, and new ones follow.
abbrev pub PartsGoOn : Type 0
PartsGoOn = (fl : Bool) (cycle : Option ℕ) (size : ℕ) (xs ys : List Logged)
    → grouped (entry_len fl) cycle size (xs ++ ys) ≡ joined (grouped (entry_len fl) cycle size xs)
    (grouped (entry_len fl) cycle (size_after (entry_len fl) cycle size xs) ys)

abbrev pub PartsGrow : Type 0
PartsGrow = (kind : LogKind) (fl : Bool) (digest : List ℕ) (cycle : Option ℕ) (xs ys : List Logged)
    → BeginsParts (log_parts kind fl digest cycle (xs ++ ys)) (log_parts kind fl digest cycle xs)

-- the size after all entries is the length of the last part
abbrev pub SizeIsOfTheLast : Type 0
SizeIsOfTheLast = (kind : LogKind) (fl : Bool) (digest : List ℕ) (cycle : Option ℕ) (es : List Logged) → length digest ≡ 16 → AreBytes digest
    → length (last_of (log_parts kind fl digest cycle es)) ≡ size_after (entry_len fl) cycle log_head_len es

-- A cycle that counts so says where a part begins, and goes on to count so.
abbrev pub CyclesCount : Type 0
CyclesCount = (cycle : Option ℕ) (size n : ℕ) → (begins_part cycle (counted cycle size) n ≡ begins_part cycle size n)
    × (size_next cycle (counted cycle size) n ≡ counted cycle (size_with cycle size n))

-- ---- growing

-- what entries give is made entry by entry
abbrev pub GivenOneMore : Type 0
GivenOneMore = (kind : LogKind) (fl : Bool) (digest : List ℕ) (cycle : Option ℕ) (size : ℕ) (es : List Logged) (e : Logged)
    → given kind fl digest cycle size (es ++ e ∷ [])
    ≡ with_entry (log_head kind fl digest) (begins_part cycle (size_after (entry_len fl) cycle size es) (entry_len fl e)) (entry_bytes fl e)
    (given kind fl digest cycle size es)

-- The parts of more entries are those of the first ones, grown by what the others give.
abbrev pub PartsAreGrown : Type 0
PartsAreGrown = (kind : LogKind) (fl : Bool) (digest : List ℕ) (cycle : Option ℕ) (xs ys : List Logged)
    → log_parts kind fl digest cycle (xs ++ ys) ≡ joined (log_parts kind fl digest cycle xs)
    (given kind fl digest cycle (size_after (entry_len fl) cycle log_head_len xs) ys)

-- Bytes that are cut at places give one entry more where the entry's bytes come after them, and its place is noted where it begins a part.
abbrev pub CutsTellGrowth : Type 0
CutsTellGrowth = (head bytes entry places : List ℕ) (begins : Bool) → DoNotFall 0 places (length bytes)
    → cut_growth head (if begins then places ++ length bytes ∷ [] else places) (bytes ++ entry) ≡ with_entry head begins entry (cut_growth head places bytes)

-- ---- stops

-- What a stop leaves of parts that are a beginning of others, and all synced but the last, is a beginning of these.
abbrev pub StopsLeaveParts : Type 0
StopsLeaveParts = (whole : List (List ℕ)) (ps : List Part) (files : List (List ℕ)) → BeginsParts whole (map (λ p. p.bytes) ps) → AreClosed ps
    → AreLeft ps files → BeginsParts whole files

-- A beginning of the parts of a log is read as a beginning of its entries: each file but the last whole, and the last one as far as it goes.
abbrev pub PartsAreRead : Type 0
PartsAreRead = (kind : LogKind) (fl : Bool) (digest : List ℕ) (cycle : Option ℕ) (es : List Logged) (files : List (List ℕ)) → length digest ≡ 16
    → AreBytes digest → All (FitsLogged fl) es
    → BeginsParts (log_parts kind fl digest cycle es) files
    → (ess : List (List Logged)) × AreRead kind fl digest files ess × (flat_map (λ g. g) ess ≡ read_of fl (groups_of fl cycle es) files)
    × StartsWith es (read_of fl (groups_of fl cycle es) files)

-- What a stop leaves has each entry that lies whole in what was synced.
abbrev pub SyncedAreRead : Type 0
SyncedAreRead = (fl : Bool) (gs : List (List Logged)) (ps : List Part) (files : List (List ℕ)) → AreClosed ps → AreLeft ps files
    → StartsWith (read_of fl gs files) (read_of fl gs (map (λ p. p.synced) ps))
