-- What is said of places once the devices are back.
use Rattle.std.proofs.Common.{◌≡◌, ℕ, ◌+◌, List, [], ◌∷◌, length, Option, Some, None, refl, sym, subst, arith}
use Rattle.std.specs.List.{AllByRecursion, AllZip}
use Rattle.cts_outside.specs.Seen.{LineSeen}
use Rattle.cts_outside.specs.declared.link.Aim.{Aim}
use Rattle.cts_server.specs.Aims.{aimed_at}
use Rattle.cts_server.specs.Places.{AreAimed, AreThere, CameBack}

module _ {X N : Type 0} (seen : X → LineSeen) (Owes : ℕ → Aim → X → X → N → Type 0)
    (shows : (n : ℕ) (a : Aim) (x y : X) (w : N) → Owes n a x y w → seen y ≡ aimed_at a (seen x)) where
  pub came_aimed : (by : ℕ) (aims : List Aim) (old new : List (Option X)) (notes : List N) → CameBack Owes by aims old new notes → AreAimed seen aims old new
  came_aimed by [] old new [] b = b
  came_aimed by [] old new (w ∷ notes) b = absurd b
  came_aimed by (a ∷ aims) [] new notes b = absurd b
  came_aimed by (a ∷ aims) (None ∷ old) new notes b = absurd b
  came_aimed by (a ∷ aims) (Some x ∷ old) [] notes b = absurd b
  came_aimed by (a ∷ aims) (Some x ∷ old) (None ∷ new) notes b = absurd b
  came_aimed by (a ∷ aims) (Some x ∷ old) (Some y ∷ new) [] b = absurd b
  came_aimed by (a ∷ aims) (Some x ∷ old) (Some y ∷ new) (w ∷ notes) b = (shows by a x y w b.0, came_aimed (by + 1) aims old new notes b.1)

module _ {X N : Type 0} (Owes : ℕ → Aim → X → X → N → Type 0) where
  pub came_there : (by n : ℕ) (aims : List Aim) (old new : List (Option X)) (notes : List N) → CameBack Owes by aims old new notes → AreThere n old
      → AreThere n new
  came_there by n [] old new [] b there = subst (AreThere n) (sym b) there
  came_there by n [] old new (w ∷ notes) b there = absurd b
  came_there by n (a ∷ aims) [] new notes b there = absurd b
  came_there by n (a ∷ aims) (None ∷ old) new notes b there = absurd b
  came_there by n (a ∷ aims) (Some x ∷ old) [] notes b there = absurd b
  came_there by n (a ∷ aims) (Some x ∷ old) (None ∷ new) notes b there = absurd b
  came_there by n (a ∷ aims) (Some x ∷ old) (Some y ∷ new) [] b there = absurd b
  came_there by n (a ∷ aims) (Some x ∷ old) (Some y ∷ new) (w ∷ notes) b there =
      let h = came_there (by + 1) (length old) aims old new notes b.1 (refl, there.1.1) in
      (omega (arith, h.0, there.0), (tt, h.1))

pub same_zip : {T : Type 0} (ts : List T) → AllZip (λ (t : T) (u : T). t ≡ u) ts ts
same_zip [] = tt
same_zip (t ∷ ts) = (refl, same_zip ts)

pub aimed_there : {X : Type 0} (seen : X → LineSeen) (n : ℕ) (aims : List Aim) (old new : List (Option X)) → AreAimed seen aims old new
    → AreThere n old → AreThere n new
aimed_there seen n [] old new b there = subst (AreThere n) (sym b) there
aimed_there seen n (a ∷ aims) [] new b there = absurd b
aimed_there seen n (a ∷ aims) (None ∷ old) new b there = absurd b
aimed_there seen n (a ∷ aims) (Some x ∷ old) [] b there = absurd b
aimed_there seen n (a ∷ aims) (Some x ∷ old) (None ∷ new) b there = absurd b
aimed_there seen n (a ∷ aims) (Some x ∷ old) (Some y ∷ new) b there =
    let h = aimed_there seen (length old) aims old new b.1 (refl, there.1.1) in
    (omega (arith, h.0, there.0), (tt, h.1))

-- what holds of each device and its note holds less of them too
module _ {X N : Type 0} (Owes Says : ℕ → Aim → X → X → N → Type 0) (tells : (n : ℕ) (a : Aim) (x y : X) (w : N) → Owes n a x y w → Says n a x y w) where
  pub came_all : (by : ℕ) (aims : List Aim) (old new : List (Option X)) (notes : List N) → CameBack Owes by aims old new notes → CameBack Says by aims old new notes
  came_all by [] old new [] b = b
  came_all by [] old new (w ∷ notes) b = absurd b
  came_all by (a ∷ aims) [] new notes b = absurd b
  came_all by (a ∷ aims) (None ∷ old) new notes b = absurd b
  came_all by (a ∷ aims) (Some x ∷ old) [] notes b = absurd b
  came_all by (a ∷ aims) (Some x ∷ old) (None ∷ new) notes b = absurd b
  came_all by (a ∷ aims) (Some x ∷ old) (Some y ∷ new) [] b = absurd b
  came_all by (a ∷ aims) (Some x ∷ old) (Some y ∷ new) (w ∷ notes) b = (tells by a x y w b.0, came_all (by + 1) aims old new notes b.1)

-- what holds of each of what workers left
module _ {X N : Type 0} (Owes : ℕ → Aim → X → X → N → Type 0) (P : N → Type 0)
    (tells : (n : ℕ) (a : Aim) (x y : X) (w : N) → Owes n a x y w → P w) where
  pub all_left : (by : ℕ) (aims : List Aim) (old new : List (Option X)) (notes : List N) → CameBack Owes by aims old new notes → AllByRecursion P notes
  all_left by [] old new [] b = tt
  all_left by [] old new (w ∷ notes) b = absurd b
  all_left by (a ∷ aims) [] new notes b = absurd b
  all_left by (a ∷ aims) (None ∷ old) new notes b = absurd b
  all_left by (a ∷ aims) (Some x ∷ old) [] notes b = absurd b
  all_left by (a ∷ aims) (Some x ∷ old) (None ∷ new) notes b = absurd b
  all_left by (a ∷ aims) (Some x ∷ old) (Some y ∷ new) [] b = absurd b
  all_left by (a ∷ aims) (Some x ∷ old) (Some y ∷ new) (w ∷ notes) b = (tells by a x y w b.0, all_left (by + 1) aims old new notes b.1)
