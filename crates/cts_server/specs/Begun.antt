-- What is made for the workers of a site before a device leaves its place, and what there is when they may begin.
use Rattle.std.specs.Prelude.{◌≡◌, ◌≤◌, List, [], Option, vec_capacity}
use Rattle.cts_chain.specs.Shapes.{ChainData}
use Rattle.cts_def.specs.Most.{most_desks, most_lines}
use Rattle.cts_def.specs.Sites.{IsSoundSite, SiteData}
use Rattle.cts_outside.specs.Seen.{LineSeen, VaultSeen}
use Rattle.cts_turn.specs.Lists.{makers_from}
use Rattle.cts_turn.specs.Passes.{IsPassOf, view}
use Rattle.cts_worker.specs.Grounds.{ground}
use Rattle.cts_server.specs.Aims.{desk_aims, line_aims, slot_aims}
use Rattle.cts_server.specs.Kinds.{IsDesk, IsInterface, IsScribe, IsSlot}
use Rattle.cts_server.specs.Making.{ReadyDesk, ReadyLine, ReadyScribe, Staffed}
use Rattle.cts_server.specs.Owed.{server_basis}
use Rattle.cts_server.specs.declared.kinds.ByKind.{ByKind}
use Rattle.cts_server.specs.declared.kinds.Line.{Line}
use Rattle.cts_server.specs.declared.running.Task.{Task}
use Rattle.cts_server.specs.declared.staging.Begun.{Begun}
use Rattle.cts_server.specs.declared.staging.Room.{Room}
use Rattle.cts_server.specs.declared.staging.Staged.{Staged}

-- Nothing was left yet, and there is room for what each line and each desk of a site leaves.
pub record IsRoom (room : Room) : Type 0 where
  pub whys : room.whys.items ≡ []
  pub whys_room : most_lines ≤ vec_capacity room.whys
  pub left : room.left.items ≡ []
  pub left_room : most_desks ≤ vec_capacity room.left

-- The turn stands over the site, which is sound, with a server's limits, and its one pass has all makers and has seen nothing; the aims are
-- the site's; and there is room for what each line and each desk leaves.
pub record IsBegun {C : Type 0} (site : SiteData) (begun : Begun C) : Type 0 where
  pub pass : IsPassOf begun.turn begun.pass
  pub makers : (view begun.pass).makers ≡ makers_from 0
  pub seen : (view begun.pass).seen ≡ []
  pub stands : ground begun.turn ≡ server_basis site
  pub sound : IsSoundSite site
  pub lines : begun.aims.lines.items ≡ line_aims site
  pub slots : begun.aims.slots.items ≡ slot_aims site
  pub desks : begun.aims.desks.items ≡ desk_aims site
  pub room : IsRoom begun.room

module _ {D Q V C : Type 0} (line_seen : D → LineSeen) (door_seen : Q → LineSeen) (vault_seen : V → VaultSeen) (shape : C → ChainData) (site : SiteData) where
  -- There is a task for each worker of the site, with its device, which was aimed and has left its place.
  abbrev pub IsStaff : Option V → List (Option D) → List (Option D) → List (Option Q) → List (Option Q) → List (Option Q) → List (Option Q)
      → List (Task (ByKind (Line D C) (Line Q C) Q V)) → Type 0
  IsStaff place lines lines' slots slots' desks desks' tasks =
      Staffed (IsInterface (λ by aim d l. ReadyLine site by aim (line_seen d) (line_seen l.device) (shape l.chain)))
      (IsSlot (λ by aim d l. ReadyLine site by aim (door_seen d) (door_seen l.device) (shape l.chain)))
      (IsDesk (λ by aim d k. ReadyDesk site by aim (door_seen d) (door_seen k))) (IsScribe (λ v. ReadyScribe vault_seen site place v))
      (line_aims site) (slot_aims site) (desk_aims site) lines lines' slots slots' desks desks' tasks

  -- The same turn, and the tasks.
  pub record IsStaged (lines lines' : List (Option D)) (slots slots' desks desks' : List (Option Q)) (place : Option V) (s : Staged D Q V C) : Type 0 where
    pub pass : IsPassOf s.turn s.pass
    pub makers : (view s.pass).makers ≡ makers_from 0
    pub seen : (view s.pass).seen ≡ []
    pub stands : ground s.turn ≡ server_basis site
    pub sound : IsSoundSite site
    pub staff : IsStaff place lines lines' slots slots' desks desks' s.tasks.items
    pub room : IsRoom s.room
