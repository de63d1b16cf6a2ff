use Rattle.std.proofs.Common.{◌≡◌, ℕ, true, All, ◌++◌, length}
use Rattle.std.specs.Vec.Iter.{into_iter_items, into_iter_len}
use Rattle.cts_turn.specs.Lists.{has, of, StartsWith}
use Rattle.cts_turn.specs.Passes.{IsPassOf}
use Rattle.cts_turn.proofs.many.take_back.Given as goal

abbrev pub invariant-loop-one : goal.invariant-loop-one
invariant-loop-one g l =
    IsPassOf l.turn l.pass
    × ((m : ℕ) → has m l.initial.pass.seat.me.0.makers ≡ true → has m l.pass.seat.me.0.makers ≡ true)
    × All (λ p. (m : ℕ) → has m p.seat.me.0.makers ≡ true → has m l.pass.seat.me.0.makers ≡ true) l.yielded
    × StartsWith l.pass.seat.me.0.seen l.initial.pass.seat.me.0.seen
    × All (λ p. StartsWith l.pass.seat.me.0.seen p.seat.me.0.seen) l.yielded
    × (l.yielded ++ into_iter_items l.one-iterator ≡ l.fn.passes.items)
    × (into_iter_len l.one-iterator ≡ length (into_iter_items l.one-iterator))
    × All (λ p. (m : ℕ) → has m p.seat.me.0.makers ≡ true → of (λ e. e.by) m l.pass.seat.me.0.seen ≡ of (λ e. e.by) m p.seat.me.0.seen) l.yielded
