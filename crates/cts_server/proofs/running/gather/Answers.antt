use Rattle.std.proofs.Common.{arith, true, ◌≡◌, ◌∙◌, ◌++◌, List, [], length, map, ap, refl, subst, sym, vec_len}
use Rattle.std.proofs.lemmas.List.{append-nil}
use Rattle.std.specs.List.{AllByRecursion, flat_map}
use Rattle.std.proofs.lemmas.Grind.{common_steps}
use Rattle.cts_worker.specs.Grounds.{ground}
use Rattle.cts_turn.specs.Lists.{has}
use Rattle.cts_turn.specs.Passes.{IsPassOf, view}
use Rattle.cts_turn.proofs.Makers.{has_left_part}
use Rattle.cts_outside.proofs.InOrder.{joined_all}
use Rattle.cts_server.proofs.Steps.{gathered, noted, noted_all, nothing_left, made}
use Rattle.cts_server.proofs.running.gather.Goals as goal

pub ends-init : goal.ends-init
ends-init g c =
    let none = c.requires.empty in
    let few = ap length none in
    record {
      pass = c.requires.pass;
      ends = c.requires.ends;
      own = λ m h. (h, refl);
      lefts = ap (λ (l : List _). l ++ map (λ e. e.left) c.args.ends.items) none;
      room = omega (arith, few, c.requires.room);
      makers = refl;
      holds = λ ts q. ([], ts, refl, rw none tt, q);
    }

pub ends-preserved : goal.ends-preserved
ends-preserved g c =
    let kept = c.ends.invariant in
    let taken = c.take_first-one.ensures.items in
    let one = c.take_first-one.result in
    let after = c.take_first-one.new.items.items in
    let pushed = c.push_reserved.ensures.items in
    let joined = ap (λ v. v.makers) c.join.ensures.view in
    record {
      pass = c.join.ensures.pass;
      ends = (subst (λ (l : List _). AllByRecursion (λ e. IsPassOf c.args.context.now.turn.now e.pass) l) taken kept.ends).1;
      own = λ m h.
          let i = kept.own m h in (
            subst (λ (l : List _). has m l ≡ true) (sym joined) (has_left_part m c.ends.pass.seat.me.0.makers (view one.pass).makers i.0),
            c.join.ensures.my_own m i.0 ∙ i.1,
          );
      lefts = rw pushed (noted (λ e. e.left) c.ends.lefts.items _ c.ends.ends.items after one taken kept.lefts);
      room = grind (arith, common_steps);
      makers = made (λ e. (view e.pass).makers) c.ends.pass.seat.me.0.makers _ _ c.ends.ends.items after one taken joined kept.makers;
      holds = λ ts q.
          let h = kept.holds ts q in
          rw pushed (gathered (g.U.Duty.owes c.args.context.now.digest.now) (ground c.args.context.now.turn.now)
          ((g.met.U.Duty g.world.𝓛 g.world.𝓜 g.world.𝓡 ((λ s x. x), (λ x. x), (λ x. x), λ x. x)).lasts c.args.context.now.digest.now) (λ e. (view e.pass).makers) (λ e. (view e.pass).found) (λ e. (view e.pass).seen) (λ e. e.left)
          ts h.0 h.1 c.ends.lefts.items c.ends.ends.items after one _ _ _ _ taken h.2 h.3 h.4 joined c.join.ensures.mine c.join.ensures.theirs
          c.join.ensures.my_own c.join.ensures.their_own);
    }

pub returns-clause-lefts : goal.returns-clause-lefts
returns-clause-lefts g c =
    noted_all (λ e. e.left) c.ends.lefts.items _ c.ends.ends.items
    (nothing_left c.ends.ends.items (vec_len c.ends.ends) c.is_empty.result c.ends.ends.ok.0 c.ends-test.false c.is_empty.ensures) c.ends.invariant.lefts

pub returns-clause-makers : goal.returns-clause-makers
returns-clause-makers g c =
    let none = nothing_left c.ends.ends.items (vec_len c.ends.ends) c.is_empty.result c.ends.ends.ok.0 c.ends-test.false c.is_empty.ensures in
    sym (append-nil (view c.ends.pass).makers) ∙ (ap (λ (l : List _). (view c.ends.pass).makers ++ flat_map (λ e. (view e.pass).makers) l) (sym none)
    ∙ c.ends.invariant.makers)

pub returns-clause-holds : goal.returns-clause-holds
returns-clause-holds g c ts q =
    let none = nothing_left c.ends.ends.items (vec_len c.ends.ends) c.is_empty.result c.ends.ends.ok.0 c.ends-test.false c.is_empty.ensures in
    let h = c.ends.invariant.holds ts q in
    joined_all _ _ h.0 h.1 ts c.ends.lefts.items c.ends.ends.items none h.2 h.3 h.4

pub returns-clause-own : goal.returns-clause-own
returns-clause-own g c m h = (c.ends.invariant.own m h).1
