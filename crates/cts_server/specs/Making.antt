-- Tasks that are made of devices, and what they were made of.
use Rattle.std.specs.Prelude.{◌≡◌, ℕ, ◌+◌, true, List, [], ◌∷◌, ◌++◌, length, drop, Option, Some}
use Rattle.cts_chain.specs.Builds.{IsFresh}
use Rattle.cts_chain.specs.Shapes.{ChainData}
use Rattle.cts_connection.specs.LinePlaces.{is_line}
use Rattle.cts_def.specs.Sites.{SiteData}
use Rattle.cts_server.specs.Desks.{MayRunDesk}
use Rattle.cts_server.specs.Lines.{MayRunLine}
use Rattle.cts_server.specs.Scribes.{MayRunScribe}
use Rattle.cts_def.specs.Makers.{first_desk, first_slot, scribe}
use Rattle.cts_entry.specs.Workers.{is_desk}
use Rattle.cts_framing.specs.Chains.{uses_at}
use Rattle.cts_outside.specs.Seen.{LineSeen, VaultSeen}
use Rattle.cts_outside.specs.declared.link.Aim.{Aim}
use Rattle.cts_server.specs.declared.running.Task.{Task}
use Rattle.cts_server.specs.Aims.{aimed_at}
use Rattle.cts_server.specs.Owed.{server_basis}
use Rattle.cts_server.specs.Places.{filled}

module _ {A X D : Type 0} (Of : ℕ → A → X → D → Type 0) where
  -- from this number on a task for each device, made of it and its aim
  abbrev pub AreTasks : ℕ → List A → List X → List (Task D) → Type 0
  AreTasks by [] [] [] = Unit {0}
  AreTasks by [] [] (t ∷ ts) = ⊥
  AreTasks by [] (x ∷ xs) ts = ⊥
  AreTasks by (a ∷ aims) [] ts = ⊥
  AreTasks by (a ∷ aims) (x ∷ xs) [] = ⊥
  AreTasks by (a ∷ aims) (x ∷ xs) (t ∷ ts) = (t.by ≡ by) × Of by a x t.work × AreTasks (by + 1) aims xs ts

-- Devices left their places, and tasks for them came to the tasks.
pub record Taken {A X D : Type 0} (Of : ℕ → A → X → D → Type 0) (first : ℕ) (aims : List A) (old new : List (Option X))
    (before after : List (Task D)) : Type 0 where
  pub devices : List X
  pub made : List (Task D)
  pub stood : old ≡ filled devices old
  pub others : drop (length devices) new ≡ drop (length devices) old
  pub long : length new ≡ length old
  pub tasks : after ≡ before ++ made
  pub are : AreTasks Of first aims devices made

-- for each aim there is something of which this holds, from a number on
abbrev pub AreFit : {A C : Type 0} → (ℕ → C → Type 0) → ℕ → List A → List C → Type 0
AreFit Fits by [] cs = Unit {0}
AreFit Fits by (a ∷ aims) [] = ⊥
AreFit Fits by (a ∷ aims) (c ∷ cs) = Fits by c × AreFit Fits (by + 1) aims cs

-- ---- what each kind needs, and what its tasks are

-- the chain is that of this line, and nothing was fed to it
abbrev pub FitsLine : SiteData → ℕ → ChainData → Type 0
FitsLine site by chain = (is_line site by ≡ true) × IsFresh (uses_at site by) chain

-- the place of a desk's door
abbrev pub FitsDesk : {X : Type 0} → SiteData → ℕ → Option X → Type 0
FitsDesk site by place = is_desk site by ≡ true

-- a line that is ready: its dialer was aimed
pub record ReadyLine (site : SiteData) (by : ℕ) (aim : Aim) (before now : LineSeen) (chain : ChainData) : Type 0 where
  pub aimed : now ≡ aimed_at aim before
  pub can : MayRunLine (server_basis site) by site chain

-- a desk that is ready: its door was aimed
pub record ReadyDesk (site : SiteData) (by : ℕ) (aim : Aim) (before now : LineSeen) : Type 0 where
  pub aimed : now ≡ aimed_at aim before
  pub can : MayRunDesk (server_basis site) by

-- a scribe that is ready, with the vault that stood in its place
pub record ReadyScribe {V : Type 0} (seen : V → VaultSeen) (site : SiteData) (place : Option V) (vault : V) : Type 0 where
  pub same : place ≡ Some vault
  pub can : MayRunScribe (server_basis site) scribe site (seen vault)

-- All devices have left their places, and there is a task for each, in the order of the workers.
pub record Staffed {X Y D : Type 0} (LineOf : ℕ → Aim → X → D → Type 0) (SlotOf DeskOf : ℕ → Aim → Y → D → Type 0) (ScribeOf : D → Type 0)
    (lines slots desks : List Aim)
    (line_places line_places_now : List (Option X)) (slot_places slot_places_now desk_places desk_places_now : List (Option Y))
    (tasks : List (Task D)) : Type 0 where
  pub after_lines : List (Task D)
  pub after_slots : List (Task D)
  pub after_desks : List (Task D)
  pub last : Task D
  pub of_lines : Taken LineOf 0 lines line_places line_places_now [] after_lines
  pub of_slots : Taken SlotOf first_slot slots slot_places slot_places_now after_lines after_slots
  pub of_desks : Taken DeskOf first_desk desks desk_places desk_places_now after_slots after_desks
  pub by : last.by ≡ scribe
  pub of_scribe : ScribeOf last.work
  pub all : tasks ≡ after_desks ++ last ∷ []
