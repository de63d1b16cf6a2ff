-- What the core holds between the events of a rehearsal.
use Rattle.std.specs.Prelude.{◌≡◌, ℕ, ◌+◌, ◌*◌, ◌≤◌, true, false, List, [], length, None}
use Rattle.cts_def.specs.Protocols.{SpecData}
use Rattle.cts_def.specs.Sites.{SiteData}
use Rattle.cts_entry.specs.Histories.{bytes_in, entries_in, is_connected, is_stopped, since}
use Rattle.cts_framing.specs.Cuts.{Pieces, IsCut}
use Rattle.cts_framing.specs.Packets.{joined}
use Rattle.cts_framing.specs.Rows.{framing_of}
use Rattle.cts_trace.specs.Routing.{walk}
use Rattle.cts_core.specs.Environments.{site_environment}
use Rattle.cts_core.specs.States.{State}
use Rattle.cts_rehearsal_runs.specs.Protocols.{frames, lines}

-- the pieces are cut without an error, and this is left of them
abbrev pub Holds : SpecData → List (List ℕ) → List ℕ → Type 0
Holds spec pieces rest = (c : Pieces) × IsCut (framing_of spec) (joined pieces) c × (c.rest ≡ rest) × (c.bad ≡ None)

-- After so many choices, and perhaps a part of a frame: both interfaces are connected, nothing is left of what came but that part, the
-- first interface has passed no more commands than came for it, and the history has no more than each choice brings.
pub record IsOnTheWay (site : SiteData) (s : State) (choices : ℕ) (part : List ℕ) : Type 0 where
  pub first : is_connected 0 s.history ≡ true
  pub second : is_connected 1 s.history ≡ true
  pub running : is_stopped s.history ≡ false
  pub frame : Holds frames (s.pieces 0) part
  pub line : Holds lines (s.pieces 1) []
  pub passed : s.cursor 0 ≤ length (walk (site_environment site).routing 0 (since 0 s.history))
  pub entries : entries_in s.history ≤ 3 + choices
  pub bytes : bytes_in s.history ≤ 41 * choices
