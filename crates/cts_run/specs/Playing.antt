-- A log that was played.
use Rattle.std.specs.Prelude.{ℕ, List, [], ◌∷◌, Option, Result}
use Rattle.cts_def.specs.Sites.{SiteData}
use Rattle.cts_play.specs.Played.{played}
use Rattle.cts_proto.specs.Meaning.{Meaning}
use Rattle.cts_run.specs.Acts.{Act, DoesAll, Outside}
use Rattle.cts_run.specs.Command.{IsDueOf, PerformsOf, ShelfBy}
use Rattle.cts_run.specs.Load.{bytes_of}
use Rattle.cts_run.specs.Phases.{first_halt}
use Rattle.cts_run.specs.Play.{IsPlay, packets_phase, play_phases_of}
use Rattle.cts_run.specs.declared.halt.Halt.{Halt}

-- The bytes of a file were played for this site; or its head was refused before.
pub record PutsPlay (site : SiteData) (file : List ℕ) (answer : Result (Unit {0}) Halt) (old new : Outside) : Type 0 where
  pub acts : List Act
  pub due : Result (Unit {0}) Halt
  pub is : IsDueOf (packets_phase file ∷ []) (IsPlay site file) acts due
  pub does : DoesAll acts due answer old new

-- The same of the file of this name, after the shelf was looked at and the file was read.
abbrev pub PerformsPlay : List Meaning → (List ℕ → Option (List ℕ)) → SiteData → List ℕ → Result (Unit {0}) Halt → Outside → Outside → Type 0
PerformsPlay stock files site log answer old new = PerformsOf (play_phases_of stock files site log) (IsPlay site (bytes_of (files log))) answer old new

-- what is left of the shelf then
abbrev pub LeavesPlay : (List ℕ → Option (List ℕ)) → SiteData → List ℕ → Result (Unit {0}) Halt → List Meaning → List Meaning → Type 0
LeavesPlay files site log answer old new = ShelfBy (played 2 site) (first_halt (play_phases_of old files site log)) answer old new
