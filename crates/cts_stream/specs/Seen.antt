-- Where a search for a termination goes on.
use Rattle.std.specs.Prelude.{ℕ, ◌-◌, ◌==◌, max, if◌then◌else◌}

-- The first place, from the one after the sync pattern on, at which a termination of so many bytes may begin that does not
-- end within those that were seen.
abbrev pub first_unseen : ℕ → ℕ → ℕ → ℕ
first_unseen seen sync read = if read == 0 then sync else max sync (seen - read)
