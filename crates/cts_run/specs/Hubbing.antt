-- What a hub did.
use Rattle.std.specs.Prelude.{◌≡◌, ◌≤◌, ◌⊎◌, ◌++◌, ℕ, List, [], ◌∷◌, Option, Some, None, Result, Ok, Err}
use Rattle.cts_def.specs.Sites.{SiteData}
use Rattle.cts_entry.specs.declared.event.Event.{Event}
use Rattle.cts_proto.specs.Meaning.{Meaning}
use Rattle.cts_run.specs.Acts.{Act, DoesAll, Outside}
use Rattle.cts_run.specs.Command.{HalfTaken, PerformsOf, ShelfBy}
use Rattle.cts_run.specs.Hub.{HubKept, HubKeptOf, IsHub, IsHubOf, IsTied, ends_of, hub_phases_of, joint, tie_cause, tie_phases, world_phases}
use Rattle.cts_run.specs.Load.{events_asked, script_phase}
use Rattle.cts_run.specs.Phases.{HaltsIn, first_halt}
use Rattle.cts_run.specs.Start.{shelf_phase}
use Rattle.cts_run.specs.Tie.{TieData}
use Rattle.cts_run.specs.declared.halt.Halt.{Halt}
use Rattle.cts_run.specs.declared.halt.Halt.TheVariants as halt
use Rattle.cts_run.specs.declared.hub.ends.Ends.{Ends}
use Rattle.cts_run.specs.declared.hub.tying.Tied.{Tied}

-- ---- the tie

-- Ends that are there are tied, or why not.
abbrev pub TiesEnds : SiteData → SiteData → Ends → Result Tied Halt → Type 0
TiesEnds above below ends (Ok t) = (tie_cause above below ends ≡ None) × (t.hub ≡ ends.interface) × (t.ends ≡ ends) × IsTied above below ends
TiesEnds above below ends (Err halt.Memory) = Unit {0}
TiesEnds above below ends (Err (halt.HubRefused cause)) = tie_cause above below ends ≡ Some cause
TiesEnds above below ends (Err other) = ⊥

-- The words name these ends, and they are tied by a hub to the interface of this number.
pub record IsMadeTie (above below : SiteData) (tie : TieData) (hub : ℕ) (ends : Ends) : Type 0 where
  pub named : ends_of above below tie ≡ Some ends
  pub hub_is : hub ≡ ends.interface
  pub least : 1 ≤ ends.cut
  pub most : ends.cut ≤ 65536
  pub tied : IsTied above below ends

-- why a command halts at a tie
abbrev pub IsTieHalt : Halt → Type 0
IsTieHalt halt.Memory = Unit {0}
IsTieHalt (halt.HubRefused cause) = Unit {0}
IsTieHalt halt.Misused = Unit {0}
IsTieHalt other = ⊥

-- The words name ends that are tied, or the command halts.
abbrev pub MakesTie : SiteData → SiteData → TieData → Result Tied Halt → Type 0
MakesTie above below tie (Ok t) = (first_halt (tie_phases above below tie) ≡ None) × IsMadeTie above below tie t.hub t.ends
MakesTie above below tie (Err why) = HaltsIn (tie_phases above below tie) why × IsTieHalt why

-- ---- what was put

-- The events of a script were done above, and what the slot put below.
pub record HandsDown (above below : SiteData) (script : List ℕ) (events : List (ℕ × Event)) (ends : Ends) (answer : Result (Unit {0}) Halt) (old new : Outside)
    : Type 0 where
  pub acts : List Act
  pub due : Result (Unit {0}) Halt
  pub is : IsHub above below script events ends acts due
  pub does : DoesAll acts due answer old new

-- A script was read, and so it was done; the worlds were made before; and the tie before that.
abbrev pub PerformsScriptBelow : (List ℕ → Option (List ℕ)) → SiteData → SiteData → Ends → List ℕ → Result (Unit {0}) Halt → Outside → Outside → Type 0
PerformsScriptBelow files above below ends script answer old new =
    PerformsOf (script_phase files above script ∷ []) (IsHub above below script (events_asked files above script) ends) answer old new

abbrev pub PerformsWorlds : List Meaning → (List ℕ → Option (List ℕ)) → SiteData → SiteData → Ends → List ℕ → Result (Unit {0}) Halt
    → Outside → Outside → Type 0
PerformsWorlds stock files above below ends script answer old new =
    PerformsOf (world_phases stock files above below script) (IsHub above below script (events_asked files above script) ends) answer old new

abbrev pub PerformsHub : List Meaning → (List ℕ → Option (List ℕ)) → SiteData → SiteData → List ℕ → TieData → Result (Unit {0}) Halt
    → Outside → Outside → Type 0
PerformsHub stock files above below script tie answer old new =
    PerformsOf (hub_phases_of stock files above below script tie) (IsHubOf above below script (events_asked files above script) (ends_of above below tie))
    answer old new

-- ---- what is left of the shelf

abbrev pub LeavesBy : SiteData → SiteData → Option Halt → Result (Unit {0}) Halt → List Meaning → List Meaning → Type 0
LeavesBy above below first answer old new = ShelfBy (joint above below) first answer old new ⊎ HalfTaken above first answer old new

-- where it has the boxes of both worlds; where it is looked at; and where the tie is before that
abbrev pub LeavesMade : SiteData → SiteData → Result (Unit {0}) Halt → List Meaning → List Meaning → Type 0
LeavesMade above below answer old new = LeavesBy above below None answer old new

abbrev pub LeavesBoth : SiteData → SiteData → Result (Unit {0}) Halt → List Meaning → List Meaning → Type 0
LeavesBoth above below answer old new = LeavesBy above below (first_halt (shelf_phase old (joint above below) ∷ [])) answer old new

abbrev pub LeavesHub : SiteData → SiteData → TieData → Result (Unit {0}) Halt → List Meaning → List Meaning → Type 0
LeavesHub above below tie answer old new =
    LeavesBy above below (first_halt (tie_phases above below tie ++ shelf_phase old (joint above below) ∷ [])) answer old new

-- ---- what is kept besides

abbrev pub KeepsScript : (List ℕ → Option (List ℕ)) → SiteData → SiteData → Ends → List ℕ → Result (Unit {0}) Halt → Type 0
KeepsScript files above below ends script answer = HubKept above below (events_asked files above script) ends answer

abbrev pub KeepsHub : (List ℕ → Option (List ℕ)) → SiteData → SiteData → List ℕ → TieData → Result (Unit {0}) Halt → Type 0
KeepsHub files above below script tie answer = HubKeptOf above below (events_asked files above script) (ends_of above below tie) answer
