use Rattle.std.proofs.Common.{◌≡◌, ◌∙◌, ℕ, true}
use Rattle.cts_turn.specs.Lists.{StartsWith, has, of}
use Rattle.cts_turn.proofs.ManyPasses.{all_back, all_both, all_map, begins_on}
use Rattle.cts_turn.proofs.many.close_all.Goals as goal

pub close-requires-clause-all : goal.close-requires-clause-all
close-requires-clause-all g c =
    let back = c.take_back.ensures in
    all_back (λ p. p.seat.me.0.makers) c.args.passes.items c.args.pass.seat.me.0.makers c.take_back.new.pass.seat.me.0.makers c.args.pass c.requires.left c.requires.theirs back.mine back.theirs

pub returns-clause-told : goal.returns-clause-told
returns-clause-told g c =
    let last = c.take_back.new.pass.seat.me.0.seen in
    all_map (λ p. StartsWith last p.seat.me.0.seen) (λ p. StartsWith (g.S.Stands.list c.close.result) p.seat.me.0.seen) c.args.passes.items c.take_back.ensures.told
    (λ p f. begins_on p.seat.me.0.seen last (g.S.Stands.list c.close.result) f c.close.ensures.seen)

pub returns-clause-own : goal.returns-clause-own
returns-clause-own g c =
    let last = c.take_back.new.pass.seat.me.0 in
    let back = c.take_back.ensures in
    all_both (λ p. (m : ℕ) → has m p.seat.me.0.makers ≡ true → has m last.makers ≡ true)
    (λ p. (m : ℕ) → has m p.seat.me.0.makers ≡ true → of (λ e. e.by) m last.seen ≡ of (λ e. e.by) m p.seat.me.0.seen)
    (λ p. (m : ℕ) → has m p.seat.me.0.makers ≡ true → of (λ e. e.by) m (g.S.Stands.list c.close.result) ≡ of (λ e. e.by) m p.seat.me.0.seen)
    c.args.passes.items back.theirs back.own (λ p f o m h. c.close.ensures.own m (f m h) ∙ o m h)
