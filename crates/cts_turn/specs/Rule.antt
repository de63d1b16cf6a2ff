-- The rule of the turn, and what each of its steps tells.
-- Word 0 is 1 while a seat has the turn, and word 1 is the length of the list that stands. Slot 0 has the state.
use Rattle.std.specs.Prelude.{◌≡◌, ◌≢◌, ℕ, ◌<◌, ◌≤◌, true, false, List, [], ◌∷◌, ◌++◌, length, max, Option, Some, None}
use mathlib.Core.Option.{some}
use mathlib.Core.Option as maybe
use lib.ListN.{get_elem?}
use Rattle.atomic_table.specs.Table.{State, Me, Step, rest}
use Rattle.cts_turn.specs.declared.rule.View.{View}
use Rattle.cts_turn.specs.Lists.{has, StartsWith, of, least, without, longer, shorter, shorter_makers}

module _ {E G : Type 0} where
  -- the view once the seat has the turn, and has found this list
  abbrev pub entered : View E G → List E → View E G
  entered v xs = record v { holds = true; seen = xs; known = length xs; found = v.found ++ length xs ∷ [] }

module _ {S E G : Type 0} (maker : E → ℕ) (list : S → List E) (basis : S → G) where
  -- a view beside the list that stands
  pub record Fits (g : G) (whole : List E) (busy : ℕ) (v : View E G) : Type 0 where
    pub begins : StartsWith whole v.seen
    pub besides : StartsWith whole v.aside
    pub below : v.known ≤ length whole
    pub based : (x : G) → v.basis ≡ Some x → x ≡ g
    pub owns : (m : ℕ) → has m v.makers ≡ true → of maker m whole ≡ of maker m v.seen
    pub ranges : (m : ℕ) → has m v.makers ≡ true → m < 32
    pub aside_owns : (m : ℕ) → has m v.aside_makers ≡ true → (has m v.makers ≡ true) × (of maker m whole ≡ of maker m v.aside)
    pub holds : v.holds ≡ true → (busy ≡ 1) × (v.seen ≡ whole) × ((m : ℕ) × (has m v.makers ≡ true)) × (v.aside_makers ≡ [])

  -- the slot is at home, with a state that stands for the list
  abbrev pub AtHome : G → List E → List (maybe.Option (Option S)) → Type 0
  AtHome g whole homes = (y : S) × (homes ≡ some (Some y) ∷ []) × (list y ≡ whole) × (basis y ≡ g)

  abbrev pub HasTurn : List (View E G) → Type 0
  HasTurn views = (i : ℕ) × (v : View E G) × (get_elem? views i ≡ some v) × (v.holds ≡ true)

  pub record Stood (g : G) (s : State (Option S) (View E G)) : Type 0 where
    pub whole : List E
    pub busy : ℕ
    pub words : s.words ≡ busy ∷ length whole ∷ []
    pub fits : (i : ℕ) (v : View E G) → get_elem? s.views i ≡ some v → Fits g whole busy v
    pub apart : (i j m : ℕ) (v w : View E G) → get_elem? s.views i ≡ some v → get_elem? s.views j ≡ some w → has m v.makers ≡ true
        → has m w.makers ≡ true → i ≡ j
    pub one : (i j : ℕ) (v w : View E G) → get_elem? s.views i ≡ some v → get_elem? s.views j ≡ some w → v.holds ≡ true → w.holds ≡ true → i ≡ j
    pub free : busy ≡ 0 → AtHome g whole s.homes
    pub taken : busy ≢ 0 → HasTurn s.views

  -- besides, the list that stands is what some pass has seen, and each maker is some pass's
  pub record Whole (g : G) (s : State (Option S) (View E G)) : Type 0 where
    pub core : Stood g s
    pub shown : (i : ℕ) × (v : View E G) × (get_elem? s.views i ≡ some v) × (v.seen ≡ core.whole)
    pub manned : (m : ℕ) → m < 32 → (i : ℕ) × (v : View E G) × (get_elem? s.views i ≡ some v) × (has m v.makers ≡ true)

  -- the seat took the slot, with the state y
  pub record Entered (m : Me (Option S) (View E G)) (n : Me (Option S) (View E G)) : Type 0 where
    pub state : S
    pub slot : n.1 ≡ (0, Some state) ∷ m.1
    pub view : n.0 ≡ entered m.0 (list state)
    pub based : (x : G) → m.0.basis ≡ Some x → basis state ≡ x
    pub begins : StartsWith (list state) m.0.seen
    pub below : m.0.known ≤ length (list state)
    pub owns : (k : ℕ) → has k m.0.makers ≡ true → of maker k (list state) ≡ of maker k m.0.seen

  abbrev pub enters : Step (Option S) → Me (Option S) (View E G) → ℕ → Me (Option S) (View E G) → Type 0
  enters st m r n = (r ≡ 0 → Entered m n) × (r ≢ 0 → n ≡ m)

  -- the list that the state in the taken slot tells
  abbrev pub told : List (ℕ × Option S) → List E
  told [] = []
  told ((k, None) ∷ xs) = []
  told ((k, Some y) ∷ xs) = list y

  abbrev pub adds : Step (Option S) → Me (Option S) (View E G) → ℕ → Me (Option S) (View E G) → Type 0
  adds st m r n = n ≡ (record m.0 { seen = told m.1; known = length (told m.1) }, m.1)

  abbrev pub leaves : Step (Option S) → Me (Option S) (View E G) → ℕ → Me (Option S) (View E G) → Type 0
  leaves st m r n = n ≡ (record m.0 { holds = false }, rest m.1)

  abbrev pub looks : Step (Option S) → Me (Option S) (View E G) → ℕ → Me (Option S) (View E G) → Type 0
  looks st m r n = (m.0.known ≤ r) × (n ≡ (record m.0 { known = r }, m.1))

  -- the view of the first pass
  abbrev pub starting : List ℕ → List E → G → View E G
  starting makers xs g = record { basis = Some g; makers = makers; seen = xs; known = length xs; found = []; holds = false; aside = []; aside_makers = [] }

  -- what was set aside at a join is compared with what is kept
  abbrev pub compares : Step (Option S) → Me (Option S) (View E G) → ℕ → Me (Option S) (View E G) → Type 0
  compares st m r n = (n ≡ (record m.0 { aside = []; aside_makers = [] }, m.1)) × (length m.0.aside ≤ length m.0.seen → StartsWith m.0.seen m.0.aside)
      × ((k : ℕ) → has k m.0.aside_makers ≡ true → of maker k m.0.seen ≡ of maker k m.0.aside)

module _ {E G : Type 0} where
  abbrev pub rest_of : View E G → View E G
  rest_of v = record v { makers = without (least v.makers) v.makers }

  abbrev pub least_of : View E G → View E G
  least_of v = record v { makers = least v.makers ∷ []; found = []; holds = false; aside = []; aside_makers = [] }

  abbrev pub both_of : View E G → View E G → View E G
  both_of v w = record v {
    makers = v.makers ++ w.makers;
    seen = longer v.seen w.seen;
    known = max v.known w.known;
    aside = shorter v.seen w.seen;
    aside_makers = shorter_makers v.seen w.seen v.makers w.makers;
  }

  abbrev pub spent : View E G
  spent = record { basis = None; makers = []; seen = []; known = 0; found = []; holds = false; aside = []; aside_makers = [] }
