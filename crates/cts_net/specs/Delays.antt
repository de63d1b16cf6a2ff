-- How long a dialer waits before it dials again.
use Rattle.std.specs.Prelude.{ℕ, ◌-◌, ◌/◌, ◌^◌, min, max, ℤ, unsigned_abs, Bool, true, false, Option, Some, None}
use Rattle.cts_outside.specs.declared.link.Aim.{Aim}

-- The milliseconds of so many parts of a second, of which one is 10^-12, and no more than a count can hold. A site has no delay
-- below 0; of one that was, the sign is left out.
abbrev pub millis_of : ℤ → ℕ
millis_of parts = min (unsigned_abs parts / 10 ^ 9) (2 ^ 64 - 1)

-- How long a dialer rests at least, in milliseconds: a line that dials 10, a door as long as it was made for. So a delay of 0 does
-- not spin, and no loop of connects and hang-ups fills a history in minutes.
abbrev pub least_rest : Bool → ℕ → ℕ
least_rest true door = door
least_rest false door = 10

-- after a dial that failed it rests as long as its aim says, and at least so long
abbrev pub rest_after_fault : ℕ → Option Aim → ℕ
rest_after_fault door None = 0
rest_after_fault door (Some aim) = max (least_rest aim.serves door) (millis_of aim.delay.parts)

-- after a hang-up too, but that a door does not wait for its delay
abbrev pub unless_door : Bool → ℕ → ℕ
unless_door true rest = 0
unless_door false rest = rest

abbrev pub rest_after_hang_up : ℕ → Option Aim → ℕ
rest_after_hang_up door None = 0
rest_after_hang_up door (Some aim) = max (least_rest aim.serves door) (unless_door aim.serves (millis_of aim.delay.parts))
