-- How often a count of faults rose.
use Rattle.std.specs.Prelude.{◌≡◌, ℕ, ◌+◌, ◌-◌, ◌^◌, ◌≤◌, min, Bool, true, false}
use Rattle.cts_outside.specs.Causes.{Rose}

-- at least that number of times; a count at its greatest number counts as risen
abbrev pub RoseBy : ℕ → ℕ → ℕ → Type 0
RoseBy n before now = (before ≤ now) × (min (before + n) (2 ^ 64 - 1) ≤ now)

-- for one step that may have failed
abbrev pub RoseIf : Bool → ℕ → ℕ → Type 0
RoseIf true before now = Rose before now
RoseIf false before now = now ≡ before

-- one where a test holds
abbrev pub one_if : Bool → ℕ
one_if true = 1
one_if false = 0
