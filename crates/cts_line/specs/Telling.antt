-- What a line's calls leave of what its dialer tells.
use Rattle.std.specs.Prelude.{◌≡◌, ℕ, ◌≤◌, drop, length, Option, Some, None, option_to_list, ◌++◌}
use Rattle.cts_outside.specs.Lines.{Line, told_after}
use Rattle.cts_turn.specs.Lists.{StartsWith}

-- the line without its first `k` connections
abbrev pub without : ℕ → Line → Line
without k line = record line { past = drop k line.past }

-- what is told of the connections after the first `k`
abbrev pub since : ℕ → Option Line → Option Line
since k told = told_after (without k) told

-- how many connections a dialer has made, the one that stands too
abbrev pub made_by : Option Line → ℕ
made_by None = 0
made_by (Some line) = length (line.past ++ option_to_list line.now)

-- a number of connections were hung up
abbrev pub Has : ℕ → Option Line → Type 0
Has k None = Unit {0}
Has k (Some line) = k ≤ length line.past

-- A dialer tells where it told before, of the connections that were hung up and of others after them, and has the same aim.
abbrev pub Retells : Option Line → Option Line → Type 0
Retells None None = Unit {0}
Retells None (Some line) = ⊥
Retells (Some was) None = ⊥
Retells (Some was) (Some line) = StartsWith line.past was.past × (line.aim ≡ was.aim)

-- This holds of some line. A device that tells nothing has connections too, and this is what can be said of them.
abbrev pub SomeLine : (Option Line → Type 0) → Type 0
SomeLine Holds = (line : Line) × Holds (Some line)
