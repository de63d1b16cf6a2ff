use Rattle.std.proofs.Common.{◌≡◌, ◌∷◌, [], All, ℕ, true, length, sym, ap, subst, ◌∙◌, append_assoc, append-nil, arith}
use Rattle.std.specs.Vec.Iter.{into_iter_items}
use Rattle.std.proofs.lemmas.List.{nil_from_length}
use Rattle.cts_turn.specs.Lists.{has, of, StartsWith}
use Rattle.cts_turn.proofs.Makers.{has_left_part, has_right_part}
use Rattle.cts_turn.proofs.ManyPasses.{all_map, all_both, all_snoc, begins_on}
use Rattle.cts_turn.proofs.many.take_back.Goals as goal

pub loop-one-preserved : goal.loop-one-preserved
loop-one-preserved g c =
    let at = c.loop-one in
    let inv = at.invariant in
    let one = c.in-Some.one in
    let next = c.join.new.pass in
    let makers = ap (λ v. v.makers) c.join.ensures.view in
    let up = λ (m : ℕ) (h : has m at.pass.seat.me.0.makers ≡ true). subst (λ ms. has m ms ≡ true) (sym makers) (has_left_part m at.pass.seat.me.0.makers one.seat.me.0.makers h) in
    let steps : into_iter_items at.one-iterator ≡ one ∷ into_iter_items c.next.new.self = c.in-Some.ensures.steps.0 in (
      c.join.ensures.pass,
      (λ m h. up m (inv.1 m h)),
      all_snoc (λ p. (m : ℕ) → has m p.seat.me.0.makers ≡ true → has m next.seat.me.0.makers ≡ true) at.yielded one
          (all_map (λ p. (m : ℕ) → has m p.seat.me.0.makers ≡ true → has m at.pass.seat.me.0.makers ≡ true) (λ p. (m : ℕ) → has m p.seat.me.0.makers ≡ true → has m next.seat.me.0.makers ≡ true) at.yielded inv.2 (λ p f m h. up m (f m h)))
          (λ m h. subst (λ ms. has m ms ≡ true) (sym makers) (has_right_part m at.pass.seat.me.0.makers one.seat.me.0.makers h)),
      begins_on _ _ _ inv.3 c.join.ensures.mine,
      all_snoc (λ p. StartsWith next.seat.me.0.seen p.seat.me.0.seen) at.yielded one
          (all_map (λ p. StartsWith at.pass.seat.me.0.seen p.seat.me.0.seen) (λ p. StartsWith next.seat.me.0.seen p.seat.me.0.seen) at.yielded inv.4 (λ p f. begins_on _ _ _ f c.join.ensures.mine))
          c.join.ensures.theirs,
      append_assoc at.yielded (one ∷ []) _ ∙ rw (← steps) inv.5,
      (let was = inv.6 in let gone = c.in-Some.ensures.steps.1 in let short = ap length steps in omega arith),
      all_snoc (λ p. (m : ℕ) → has m p.seat.me.0.makers ≡ true → of (λ e. e.by) m next.seat.me.0.seen ≡ of (λ e. e.by) m p.seat.me.0.seen) at.yielded one
          (all_both (λ p. (m : ℕ) → has m p.seat.me.0.makers ≡ true → has m at.pass.seat.me.0.makers ≡ true)
          (λ p. (m : ℕ) → has m p.seat.me.0.makers ≡ true → of (λ e. e.by) m at.pass.seat.me.0.seen ≡ of (λ e. e.by) m p.seat.me.0.seen)
          (λ p. (m : ℕ) → has m p.seat.me.0.makers ≡ true → of (λ e. e.by) m next.seat.me.0.seen ≡ of (λ e. e.by) m p.seat.me.0.seen)
          at.yielded inv.2 inv.7 (λ p f o m h. c.join.ensures.my_own m (f m h) ∙ o m h))
          c.join.ensures.their_own,
    )

pub returns-clause-told : goal.returns-clause-told
returns-clause-told g c =
    let at = c.loop-one in
    let none = c.in-None.ensures.steps in
    let empty : into_iter_items at.one-iterator ≡ [] = nil_from_length _ (sym at.invariant.6 ∙ none.0) in
    let all = sym (append-nil at.yielded) ∙ rw empty at at.invariant.5 in
    subst (λ l. All (λ p. StartsWith at.pass.seat.me.0.seen p.seat.me.0.seen) l) all at.invariant.4

pub returns-clause-own : goal.returns-clause-own
returns-clause-own g c =
    let at = c.loop-one in
    let none = c.in-None.ensures.steps in
    let empty : into_iter_items at.one-iterator ≡ [] = nil_from_length _ (sym at.invariant.6 ∙ none.0) in
    let all = sym (append-nil at.yielded) ∙ rw empty at at.invariant.5 in
    subst (λ l. All (λ p. (m : ℕ) → has m p.seat.me.0.makers ≡ true → of (λ e. e.by) m at.pass.seat.me.0.seen ≡ of (λ e. e.by) m p.seat.me.0.seen) l) all at.invariant.7
