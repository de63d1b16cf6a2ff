-- Log files: a head that says which log it is and of which definitions, and entries.
use Rattle.std.specs.Prelude.{◌≡◌, ℕ, Bool, true, false, ◌&&◌, ◌==◌, nat_le, if◌then◌else◌, List, ◌∷◌, ◌++◌, length, replicate, slice_index}
use Rattle.std.specs.Prelude.{slice_range, codes, Option, Some, None, is_some, option_map}
use Rattle.std.specs.List.{AllPass, flat_map, list_all}
use Rattle.hex.specs.Hex.{encode_lower, is_hex_digit}
use Rattle.cts_framing.specs.Patterns.{begins}
use Rattle.cts_log.specs.Logged.{Logged, entry_bytes}
use Rattle.cts_log.specs.declared.kind.LogKind.{LogKind}
use Rattle.cts_log.specs.declared.kind.LogKind.TheVariants.{Tlm, Cmd}

-- how a log file of a kind begins, with heads with flags or without
abbrev pub marker : LogKind → Bool → List ℕ
marker Tlm false = codes "COSMOS2_TLM_"
marker Cmd false = codes "COSMOS2_CMD_"
marker Tlm true = codes "COSMOS4_TLM_"
marker Cmd true = codes "COSMOS4_CMD_"

-- the host field, filled up with spaces to 83 bytes
abbrev pub host : List ℕ
host = codes "cts" ++ replicate 80 32

-- how many bytes the head of a log file has
abbrev pub log_head_len : ℕ
log_head_len = 128

-- the head of a log file of a kind, with the digest of the definitions
abbrev pub log_head : LogKind → Bool → List ℕ → List ℕ
log_head kind flagged digest = marker kind flagged ++ (encode_lower digest ++ 95 ∷ host)

-- a log file with these entries
abbrev pub log_file : LogKind → Bool → List ℕ → List Logged → List ℕ
log_file kind flagged digest es = log_head kind flagged digest ++ flat_map (entry_bytes flagged) es

-- ---- heads that are read

-- The head of a log file, as a reader takes it: with 32 digits of either case and with any host field.
pub record IsLogHead (kind : LogKind) (flagged : Bool) (head : List ℕ) : Type 0 where
  pub digits : List ℕ
  pub host_field : List ℕ
  pub head_is : head ≡ marker kind flagged ++ (digits ++ 95 ∷ host_field)
  pub digits_len : length digits ≡ 32
  pub are_digits : AllPass is_hex_digit digits
  pub host_len : length host_field ≡ 83

-- the file begins with the head of a log of this kind
abbrev pub has_log_head : LogKind → Bool → List ℕ → Bool
has_log_head kind flagged file =
    nat_le log_head_len (length file) && (begins (marker kind flagged) file && (list_all is_hex_digit (slice_range file 12 44) && slice_index file 44 == 95))

-- which log it is, if it begins with the head of one whose entries have flags or have none
abbrev pub kind_by : Bool → List ℕ → Option LogKind
kind_by flagged file = if has_log_head Tlm flagged file then Some Tlm else if has_log_head Cmd flagged file then Some Cmd else None

-- the first of two answers that is one
abbrev pub first_of : Option LogKind → Option LogKind → Option LogKind
first_of (Some kind) other = Some kind
first_of None other = other

-- which log it is, if it begins with the head of one
abbrev pub kind_of : List ℕ → Option LogKind
kind_of file = first_of (kind_by false file) (kind_by true file)

-- whether its entries have flags
abbrev pub flagged_of : List ℕ → Bool
flagged_of file = is_some (kind_by true file)

-- the layout of entries with flags, and of those without
abbrev pub layout_of : Bool → ℕ
layout_of flagged = if flagged then 4 else 2

-- the layout of its entries, if it begins with the head of a log
abbrev pub layout_in : List ℕ → Option ℕ
layout_in file = option_map (λ kind. layout_of (flagged_of file)) (kind_of file)
