-- What a log holds of a packet or a command, and how it is laid out there, with flags or without.
use Rattle.std.specs.Prelude.{◌≡◌, ◌<◌, ℕ, ◌+◌, ◌^◌, ◌&&◌, not, Bool, false, nat_le, List, ◌++◌, length, slice_range}
use Rattle.cts_framing.specs.Framing.{Heading}
use Rattle.cts_framing.specs.Layouts.{has_laid, has_wrong_flags, laid_end, laid_of, stored_at}
use Rattle.cts_encode.specs.ReadBack.{FitsHeading}
use Rattle.cts_encode.specs.Spellings.{head_in}

-- a time, a target's and a packet's name, whether the packet was stored, and bytes
pub record Logged : Type 0 where
  pub heading : Heading
  pub bytes : List ℕ

-- how some bytes are laid out in a log: a head with their time, their names and how many they are, and then the bytes
abbrev pub laid_out : Bool → Heading → List ℕ → List ℕ
laid_out flagged heading bytes = head_in flagged heading (length bytes) ++ bytes

abbrev pub entry_bytes : Bool → Logged → List ℕ
entry_bytes flagged e = laid_out flagged e.heading e.bytes

-- What can be laid out: the names and the bytes are no longer than their counts can state, and without flags nothing is stored.
pub record FitsLogged (flagged : Bool) (e : Logged) : Type 0 where
  pub heading : FitsHeading e.heading
  pub bytes : length e.bytes < 2 ^ 32
  pub unstored : flagged ≡ false → e.heading.stored ≡ false

-- where the entry at the beginning of these bytes ends: its head, and then as many bytes as the head states
abbrev pub entry_end : Bool → List ℕ → ℕ
entry_end flagged u = laid_end flagged u + (laid_of flagged u).count

-- the bytes begin with a whole entry: its flags are right, its head is there, and its bytes are
abbrev pub has_entry : Bool → List ℕ → Bool
has_entry flagged u = not (has_wrong_flags flagged u) && (has_laid flagged u && nat_le (entry_end flagged u) (length u))

-- the entry at the beginning of these bytes
abbrev pub entry_of : Bool → List ℕ → Logged
entry_of flagged u = record {
  heading = record { time = (laid_of flagged u).time; target = (laid_of flagged u).target; packet = (laid_of flagged u).packet; stored = stored_at flagged u };
  bytes = slice_range u (laid_end flagged u) (entry_end flagged u);
}
