-- How the jobs of a crew end, and what its count is then.
use Rattle.std.specs.Prelude.{◌≡◌, ◌⊎◌, ℕ, ◌+◌, ◌-◌, ◌^◌, min, Bool, true, false, List, [], ◌∷◌, Some}
use Rattle.cts_outside.specs.Seen.{CrewSeen}

-- so many more, but no more than a count can hold
abbrev pub raised_by : ℕ → ℕ → ℕ
raised_by n count = min (count + n) (2 ^ 64 - 1)

-- the same crew, once it was handed so many jobs
abbrev pub with_jobs : CrewSeen → ℕ → CrewSeen
with_jobs s jobs = record s { handed = Some jobs }

-- the same crew, once so many more ends were those of cancelled jobs
abbrev pub with_cancelled : CrewSeen → ℕ → CrewSeen
with_cancelled s n = record s { faults = raised_by n s.faults }

-- the end is what the work gave or what cancelling gave, and it shows which
abbrev pub EndsAs : {J E : Type 0} → (E → Bool) → (J → E → Type 0) → (J → E → Type 0) → J → E → Type 0
EndsAs cancelled works cancels job end = (works job end × (cancelled end ≡ false)) ⊎ (cancels job end × (cancelled end ≡ true))

-- from the job with number n on, exactly those were cancelled whose number is refused
abbrev pub CancelledFrom : {E : Type 0} → (E → Bool) → (ℕ → Bool) → ℕ → List E → Type 0
CancelledFrom cancelled refused n [] = Unit {0}
CancelledFrom cancelled refused n (end ∷ ends) = (cancelled end ≡ refused n) × CancelledFrom cancelled refused (n + 1) ends
