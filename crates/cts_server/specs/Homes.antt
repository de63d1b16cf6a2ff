-- Devices that come back to their places.
use Rattle.std.specs.Prelude.{◌≡◌, ◌≤◌, List, [], ◌∷◌, IsSome, length, map, None, Option, Some, vec_capacity}
use Rattle.std.specs.List.{filter_map}
use Rattle.cts_server.specs.Kinds.{desk_note, line_why, the_desk, the_interface, the_scribe, the_slot}
use Rattle.cts_server.specs.Places.{filled}
use Rattle.cts_server.specs.declared.kinds.ByKind.{ByKind}
use Rattle.cts_server.specs.declared.kinds.DeskLeft.{DeskLeft}
use Rattle.cts_server.specs.declared.kinds.LineLeft.{LineLeft}
use Rattle.cts_server.specs.declared.kinds.ScribeLeft.{ScribeLeft}
use Rattle.cts_server.specs.declared.staging.Room.{Room}
use Rattle.cts_server.specs.declared.worked.Worked.{Worked}

-- the devices of the items of one kind stand in the first places, in the order of the items, and the places after them are as they were
abbrev pub CameHome : {T N X : Type 0} → (T → Option N) → (N → X) → List T → List (Option X) → List (Option X) → Type 0
CameHome kind device items old new = new ≡ filled (map device (filter_map kind items)) old

-- what a place holds into which these came one after another
abbrev pub last_of : {X : Type 0} → Option X → List X → Option X
last_of place [] = place
last_of place (x ∷ xs) = last_of (Some x) xs

module _ {D Q V : Type 0} (notes : List (ByKind (LineLeft D) (LineLeft Q) (DeskLeft Q) (ScribeLeft V))) where
  -- There is a place for the device of each note, one of them is that of a scribe, and there is room for the rest of them.
  pub record FindHome (dialers : List (Option D)) (at_slots at_desks : List (Option Q)) (room : Room) : Type 0 where
    pub lines : length (filter_map the_interface notes) ≤ length dialers
    pub slots : length (filter_map the_slot notes) ≤ length at_slots
    pub desks : length (filter_map the_desk notes) ≤ length at_desks
    pub scribe : IsSome (last_of None (map (λ n. n.why) (filter_map the_scribe notes)))
    pub whys : room.whys.items ≡ []
    pub whys_room : length (filter_map line_why notes) ≤ vec_capacity room.whys
    pub left : room.left.items ≡ []
    pub left_room : length (filter_map desk_note notes) ≤ vec_capacity room.left

  -- All devices are back in the first places, in the order of the notes, and the rest of these is what the workers left.
  pub record HaveCome (dialers dialers' : List (Option D)) (at_slots at_slots' at_desks at_desks' : List (Option Q)) (place place' : Option V)
      (w : Worked) : Type 0 where
    pub lines : CameHome the_interface (λ n. n.device) notes dialers dialers'
    pub slots : CameHome the_slot (λ n. n.device) notes at_slots at_slots'
    pub desks : CameHome the_desk (λ n. n.door) notes at_desks at_desks'
    pub vault : place' ≡ last_of place (map (λ n. n.vault) (filter_map the_scribe notes))
    pub whys : w.lines ≡ filter_map line_why notes
    pub left : w.desks ≡ filter_map desk_note notes
    pub scribe : last_of None (map (λ n. n.why) (filter_map the_scribe notes)) ≡ Some w.scribe
