-- The last lines that a server alone puts. Each ends with byte 0A.
use Rattle.std.specs.Prelude.{ℕ, List, codes}

abbrev pub no_worker_line : List ℕ
no_worker_line = codes "no worker\n"

abbrev pub door_fault_line : List ℕ
door_fault_line = codes "door fault\n"
