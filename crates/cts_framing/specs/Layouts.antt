-- The two layouts of heads. In layout 4 a byte of flags stands before what a head of layout 2 is: 0, or 128 for a packet that was
-- stored before it was sent. In layout 2 there is none, and no packet is told to be stored.
use Rattle.std.specs.Prelude.{ℕ, suc, Bool, true, false, not, ◌&&◌, ◌||◌, ◌==◌, nat_le, if◌then◌else◌, List, [], ◌∷◌, ◌++◌, length, drop, slice_index}
use Rattle.cts_framing.specs.Heads.{HeadData, head_bytes, has_head, head_of, head_end}

-- whether heads of this layout begin with flags
abbrev pub has_flags : ℕ → Bool
has_flags layout = layout == 4

-- ---- what is written; the first argument says whether there are flags

abbrev pub flags_of : Bool → ℕ
flags_of stored = if stored then 128 else 0

abbrev pub flag_bytes : Bool → Bool → List ℕ
flag_bytes true stored = flags_of stored ∷ []
flag_bytes false stored = []

-- the flags, where there are any, and the head
abbrev pub laid_head : Bool → Bool → HeadData → List ℕ
laid_head flagged stored h = flag_bytes flagged stored ++ head_bytes h

-- ---- what is read

abbrev pub flag_len : Bool → ℕ
flag_len true = 1
flag_len false = 0

-- the flags at the beginning of these bytes, which are 0 where there are none
abbrev pub flags_at : Bool → List ℕ → ℕ
flags_at true u = slice_index u 0
flags_at false u = 0

abbrev pub are_flags : ℕ → Bool
are_flags n = n == 0 || n == 128

-- flags that no packet has, which are told once they are there
abbrev pub has_wrong_flags : Bool → List ℕ → Bool
has_wrong_flags true u = nat_le 1 (length u) && not (are_flags (slice_index u 0))
has_wrong_flags false u = false

-- the packet is told to be stored
abbrev pub stored_at : Bool → List ℕ → Bool
stored_at flagged u = flags_at flagged u == 128

-- the bytes after the flags
abbrev pub after_flags : Bool → List ℕ → List ℕ
after_flags flagged u = drop (flag_len flagged) u

-- the bytes hold a whole head, whatever its flags are
abbrev pub has_laid : Bool → List ℕ → Bool
has_laid flagged u = has_head (after_flags flagged u)

abbrev pub laid_of : Bool → List ℕ → HeadData
laid_of flagged u = head_of (after_flags flagged u)

-- where the head ends
abbrev pub laid_end : Bool → List ℕ → ℕ
laid_end true u = suc (head_end (drop 1 u))
laid_end false u = head_end u
