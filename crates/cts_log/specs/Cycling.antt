-- Where a new part of a log begins.
use Rattle.std.specs.Prelude.{ℕ, ◌+◌, Bool, false, ◌&&◌, nat_lt, if◌then◌else◌, Option, Some, None}
use Rattle.cts_log.specs.Files.{log_head_len}

-- the greatest size of a part with more than one entry, if there is one, and the size of the part so far, which stands still
-- where there is none
pub record CycleData : Type 0 where
  pub limit : Option ℕ
  pub size : ℕ

-- an entry of this length begins a new part: the part so far has an entry, and would pass the limit with this one
abbrev pub begins_part : Option ℕ → ℕ → ℕ → Bool
begins_part None size n = false
begins_part (Some limit) size n = nat_lt log_head_len size && nat_lt limit (size + n)

-- the size of the part that has the entry
abbrev pub size_with : Option ℕ → ℕ → ℕ → ℕ
size_with limit size n = if begins_part limit size n then log_head_len + n else size + n

-- that which is counted
abbrev pub size_next : Option ℕ → ℕ → ℕ → ℕ
size_next None size n = size
size_next (Some limit) size n = size_with (Some limit) size n

-- a part with its head and no entry
abbrev pub cycle_of : Option ℕ → CycleData
cycle_of limit = record { limit = limit; size = log_head_len }

-- after an entry of this length
abbrev pub cycle_with : CycleData → ℕ → CycleData
cycle_with c n = record { limit = c.limit; size = size_next c.limit c.size n }
