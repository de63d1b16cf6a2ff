-- A log whose columns were put.
use Rattle.std.specs.Prelude.{ℕ, List, ◌∷◌, Option, Result}
use Rattle.cts_def.specs.Packets.{DefinitionsData}
use Rattle.cts_run.specs.Acts.{Act, DoesAll, Outside}
use Rattle.cts_run.specs.Command.{IsDueOf, PerformsOf}
use Rattle.cts_run.specs.Extract.{IsExtract, columns_phase, table_phases}
use Rattle.cts_run.specs.Load.{bytes_of}
use Rattle.cts_run.specs.Wanted.{WantedData}
use Rattle.cts_run.specs.declared.halt.Halt.{Halt}

-- The columns of the file were put by these definitions; or its head or a word was refused before.
pub record PutsTable (d : DefinitionsData) (w : WantedData) (file : List ℕ) (answer : Result (Unit {0}) Halt) (old new : Outside) : Type 0 where
  pub acts : List Act
  pub due : Result (Unit {0}) Halt
  pub is : IsDueOf (table_phases d w file) (IsExtract d w file) acts due
  pub does : DoesAll acts due answer old new

-- The same of the file of this name, which is read first.
abbrev pub PerformsLog : (List ℕ → Option (List ℕ)) → DefinitionsData → List ℕ → WantedData → Result (Unit {0}) Halt → Outside → Outside → Type 0
PerformsLog files d log w answer old new =
    PerformsOf (columns_phase files log ∷ table_phases d w (bytes_of (files log))) (IsExtract d w (bytes_of (files log))) answer old new
