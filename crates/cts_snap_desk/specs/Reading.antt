-- What is known of a desk that reads from a pane, and what it does for a request.
use Rattle.std.specs.Prelude.{◌≡◌, ℕ, ◌≤◌, ◌<◌, ◌⊎◌, true, List, [], length, Result}
use Rattle.cts_base.specs.declared.memory.Memory.{Memory}
use Rattle.cts_entry.specs.declared.entry.Entry.{Entry}
use Rattle.cts_outside.specs.Causes.{Rose, Steady}
use Rattle.cts_table.specs.declared.basis.Basis.{Basis}
use Rattle.cts_turn.specs.declared.rule.View.{View}
use Rattle.cts_api.specs.Looks.{IsChanging}
use Rattle.cts_api.specs.declared.looked.Look.{Look}
use Rattle.cts_snap.specs.Reading.{IsShown, TextOver}
use Rattle.cts_table.specs.States.{Shown}
use Rattle.cts_desk.specs.Exchanges.{Exchange, Among, fronts_of}
use Rattle.cts_desk.specs.Streams.{last_front}
use Rattle.cts_snap_desk.specs.Given.{Given, OnlyLooks, SnapExchanges, exchanges_of, held_at, held_fronts, start}
use Rattle.cts_snap_desk.specs.declared.course.Course.{Course}
use Rattle.cts_snap_desk.specs.declared.course.Course.TheVariants.{Give, Hold, Lack}

-- The exchanges of a desk, where its pane has this basis, this list and this count of refusals now, and no later read may have a front below the
-- floor. The count was `began` when the desk began. Where no request may append and the pane was not refused since, the floor is in the list.
pub record SnapGoing (pane : Basis) (list : List Entry) (refused floor began : ℕ) (b : Basis) (by : ℕ)
    (fronts : List ℕ) (v : View Entry Basis) (xs : List Exchange) : Type 0 where
  pub given : List Given
  pub are : xs ≡ exchanges_of given
  pub fronts_are : fronts ≡ fronts_of xs
  pub among : Among (held_fronts given) v.found
  pub stand : SnapExchanges b by pane list start [] given (held_at (last_front fronts) floor) [] v.seen
  pub rises : began ≤ refused
  pub quiet : OnlyLooks xs → Steady began refused → floor ≤ length list

-- a hold is needed: the body may append, the pane was refused, or what it has is too old
abbrev pub NeedsHold : List Entry → ℕ → ℕ → ℕ → List ℕ → Type 0
NeedsHold list before now floor body = IsChanging body true ⊎ (Rose before now ⊎ (length list < floor))

-- what is done for a body, where the pane has this list and its count was this before and is this now
abbrev pub IsCourse : Basis → List Entry → ℕ → ℕ → ℕ → List ℕ → Course → Type 0
IsCourse b list before now floor body (Give front text) = (floor ≤ front) × (front ≡ length list) × TextOver b list body text
IsCourse b list before now floor body Hold = NeedsHold list before now floor body
IsCourse b list before now floor body Lack = Unit {0}

-- what is done where this was seen, whatever hall was looked at
abbrev pub LeadsTo : Result (ℕ × Look) Memory → ℕ → Course → Type 0
LeadsTo seen floor c = (h : Shown) (body : List ℕ) (before now : ℕ) → IsShown h body seen → IsCourse h.basis h.entries before now floor body c
