-- What a clause says of a turn, its passes and its holds.
use Rattle.std.specs.Prelude.{◌≡◌, ℕ, ◌<◌, max, List, [], ◌∷◌, ◌++◌, length, Option, Some, None, ◌≢◌, true, false}
use Rattle.atomic_table.specs.Table.{Me}
use Rattle.cts_entry.specs.declared.entry.Entry.{Entry}
use Rattle.cts_entry.specs.declared.stands.Stands.{Ghosts}
use Rattle.cts_turn.specs.declared.rule.View.{View}
use Rattle.cts_turn.specs.Lists.{has, climbs, longer, least}
use Rattle.cts_turn.specs.declared.turn.Turn.{Turn}
use Rattle.cts_turn.specs.declared.turn.Pass.{Pass}
use Rattle.cts_turn.specs.declared.turn.Held.{Held}

module _ {S G : Type 0} where
  abbrev pub basis_of : (S → G) → Turn S G → G
  basis_of basis t = basis t.table.shared.key.value

-- the seat has taken the slot, which is empty, and this many entries stood then
pub record Holds {S E G : Type 0} (me : Me (Option S) (View E G)) (before : ℕ) : Type 0 where
  pub slot : me.1 ≡ (0, None) ∷ []
  pub holds : me.0.holds ≡ true
  pub settled : (me.0.aside ≡ []) × (me.0.aside_makers ≡ [])
  pub counted : before ≡ length me.0.seen
  pub manned : me.0.makers ≢ []
  pub climbing : climbs 0 me.0.found (length me.0.seen) ≡ true

module _ {S G : Type 0} {b : Ghosts S G} where
  abbrev pub view : Pass S G b → View Entry G
  view p = p.seat.me.0

  abbrev pub IsPassOf : Turn S G → Pass S G b → Type 0
  IsPassOf t p = (p.seat.table_id ≡ t.table.shared.table_id) × ((view p).basis ≡ Some (basis_of b.basis t))

module _ {S G : Type 0} where
  abbrev pub held_view : Held S G → View Entry G
  held_view h = h.seat.me.0

  abbrev pub IsHeldOf : (S → G) → Turn S G → Held S G → Type 0
  IsHeldOf basis t h = (h.seat.table_id ≡ t.table.shared.table_id) × ((held_view h).basis ≡ Some (basis_of basis t)) × Holds h.seat.me h.before

-- the view after a step
module _ {E G : Type 0} where
  abbrev pub left : View E G → List E → View E G
  left v xs = record v { holds = false; seen = xs; known = length xs }

  abbrev pub shown : View E G → ℕ → View E G
  shown v n = record v { known = n }

  abbrev pub least_of : View E G → View E G
  least_of v = record v { makers = least v.makers ∷ []; found = [] }

  abbrev pub joined : View E G → View E G → View E G
  joined v w = record v { makers = v.makers ++ w.makers; seen = longer v.seen w.seen; known = max v.known w.known }

-- all makers are among these
abbrev pub HasAll : List ℕ → Type 0
HasAll makers = (m : ℕ) → m < 32 → has m makers ≡ true
