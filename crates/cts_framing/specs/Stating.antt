-- Framings whose frames state their length by their first bytes.
use Rattle.std.specs.Prelude.{◌≡◌, ℕ, Bool, true, false, ◌&&◌, ◌==◌, nat_le, List, ◌++◌, length, Option, Some, None, if◌then◌else◌}
use Rattle.cts_def.specs.declared.bad_cause.BadCause.{BadCause}
use Rattle.cts_framing.specs.Framing.{Framing, Output}
use Rattle.cts_framing.specs.Patterns.{begins}

-- What the bytes at which a frame begins state: nothing yet, that the frame has so many bytes, or that none begins there,
-- and why.
pub data Stated : Type 0 where
  Open : Stated
  Long : ℕ → Stated
  Wrong : BadCause → Stated

abbrev pub is_long : Stated → ℕ → Bool
is_long Open n = false
is_long (Long k) n = k == n
is_long (Wrong c) n = false

abbrev pub wrong : Stated → Option BadCause
wrong Open = None
wrong (Long n) = None
wrong (Wrong c) = Some c

abbrev pub is_open : Stated → Bool
is_open Open = true
is_open (Long n) = false
is_open (Wrong c) = false

-- A frame has at least one byte, begins with the sync pattern, and is as long as its bytes state. Where they state an
-- error it stands, once a byte and the sync pattern are there.
abbrev pub stating : List ℕ → (List ℕ → Stated) → (List ℕ → Output) → Framing
stating sync states output = record {
  sync = sync;
  whole = λ w x. nat_le 1 (length w) && begins sync w && is_long (states w) (length w);
  error = λ u. if nat_le 1 (length u) && begins sync u then wrong (states u) else None;
  output = output;
  by_piece = false;
}

-- what is stated stays when more bytes come
abbrev pub IsSteady : (List ℕ → Stated) → Type 0
IsSteady states = (u y : List ℕ) → is_open (states u) ≡ false → states (u ++ y) ≡ states u
