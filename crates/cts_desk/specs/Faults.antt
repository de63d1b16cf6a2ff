-- The faults that a door tells, and those that it counts.
use Rattle.std.specs.Prelude.{ℕ, ◌+◌, ◌-◌, List, [], ◌∷◌, ◌++◌, Option, Some, None, option_to_list}
use Rattle.cts_outside.specs.Lines.{Connection, Line}
use Rattle.cts_outside.specs.Seen.{LineSeen}
use Rattle.cts_worker.specs.Counts.{RoseBy, one_if}

-- how many faults are told of a connection: that a take failed in it, and that a put did
abbrev pub faults_of : Connection → ℕ
faults_of c = one_if c.take_failed + one_if c.put_failed

-- of connections
unfoldable pub faults_in : List Connection → ℕ
faults_in [] = 0
faults_in (c ∷ cs) = faults_of c + faults_in cs

-- of all connections of a door, that which stands among them
unfoldable pub faults_told : Option Line → ℕ
faults_told None = 0
faults_told (Some line) = faults_in (line.past ++ option_to_list line.now)

-- The count of faults rose at least as often as faults were told since.
abbrev pub FaultsRise : LineSeen → LineSeen → Type 0
FaultsRise old new = RoseBy (faults_told new.told - faults_told old.told) old.faults new.faults
