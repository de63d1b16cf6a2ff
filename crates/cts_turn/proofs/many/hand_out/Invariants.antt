use Rattle.std.proofs.Common.{◌≡◌, ℕ, ◌<◌, ◌≤◌, ◌∷◌, [], All, length, slice_index_or, vec_capacity}
use Rattle.cts_turn.specs.Lists.{makers_from}
use Rattle.cts_turn.specs.Passes.{IsPassOf, view}
use Rattle.cts_turn.proofs.many.hand_out.Given as goal

abbrev pub invariant-loop : goal.invariant-loop
invariant-loop g l =
    IsPassOf l.turn l.pass
    × (l.pass.seat.me.0.makers ≡ makers_from l.counter)
    × (length l.passes.items ≡ l.counter)
    × (l.n ≤ vec_capacity l.passes)
    × All (λ p. IsPassOf l.turn p) l.passes.items
    × ((k : ℕ) (d : _) → k < l.counter → (view (slice_index_or l.passes.items k d)).makers ≡ k ∷ [])
