use Rattle.std.proofs.Common.{◌≡◌, ◌+◌, ◌∷◌, [], length, Option, Some, ap, arith, sym, subst, refl, ◌∙◌}
use Rattle.std.specs.Prelude.{take}
use Rattle.std.proofs.lemmas.List.{nil_from_length}
use Rattle.cts_entry.specs.declared.why.Why.TheVariants.{WriteFault}
use Rattle.cts_outside.specs.Lines.{Line, at_now, with_put, with_failed_put}
use Rattle.cts_line.specs.Talks.{Talks, Puts, Caught, Ends}
use Rattle.cts_line.proofs.Putting.{puts_whole, puts_refused, puts_fault, puts_done}
use Rattle.cts_line.proofs.Steps.{talks_step, talks_map}
use Rattle.cts_line.specs.Telling.{Retells, SomeLine, since}
use Rattle.cts_line.proofs.Telling.{retells_now, retells_same, retells_then, since_now}
use Rattle.cts_line.proofs.puts.put_all.Goals as goal

pub puts-init : goal.puts-init
puts-init g c = record {
  linked = c.requires.linked;
  faults = refl;
  dials = refl;
  finished = refl;
  few = omega arith;
  retells = retells_same _;
  talks = λ r room m place unsent stages found history k t. subst (λ n. Talks r room m (Puts c.args.spellings.now) stages place n found history (since k (g.D.Link.seen c.args.dialer.now).told)) (omega arith) t;
  some = λ r room m place unsent stages found history t. subst (λ n. SomeLine (λ told. Talks r room m (Puts c.args.spellings.now) stages place n found history told)) (omega arith) t;
}

pub returns-in-Fault-clause-talks : goal.returns-in-Fault-clause-talks
returns-in-Fault-clause-talks g c =
    let s = c.in-Some.first.now in
    let ss = c.in-Some.rest.now in
    let is : c.puts.left.now ≡ s ∷ ss = c.in-Some.ensures.cases.0 in
    let put = c.in-Fault.ensures.content in
    λ r room m place unsent stages found history k t.
    talks_step r room m (Puts (s ∷ ss)) (Ends WriteFault) stages stages place place (unsent + c.puts.unsent) (unsent + (c.puts.unsent + length c.puts.left.now)) found found history history (at_now (with_failed_put (take put.1 put.0))) _ _ (since_now k (with_failed_put (take put.1 put.0)) _ _ put.3)
    (subst (λ l. Talks r room m (Puts l) stages place (unsent + c.puts.unsent) found history (since k (g.D.Link.seen c.puts.dialer).told)) is (c.puts.invariant.talks r room m place unsent stages found history k t))
    (λ l u. puts_fault r room m place stages found history s ss (unsent + c.puts.unsent) (unsent + (c.puts.unsent + length c.puts.left.now)) put.1 put.0 l put.2 (let n = ap length is in omega (arith, n)) u)

pub returns-in-Fault-clause-retells : goal.returns-in-Fault-clause-retells
returns-in-Fault-clause-retells g c = let put = c.in-Fault.ensures.content in retells_then _ _ _ c.puts.invariant.retells (retells_now (with_failed_put (take put.1 put.0)) _ _ put.3)

pub puts-preserved-in-Whole : goal.puts-preserved-in-Whole
puts-preserved-in-Whole g c =
    let s = c.in-Some.first.now in
    let ss = c.in-Some.rest.now in
    let is : c.puts.left.now ≡ s ∷ ss = c.in-Some.ensures.cases.0 in
    let put = c.in-Whole.ensures.content in record {
      linked = c.put_one.ensures.linked;
      faults = c.in-Whole.ensures.cause ∙ c.puts.invariant.faults;
      dials = c.put_one.ensures.dials ∙ c.puts.invariant.dials;
      finished = c.put_one.ensures.finished ∙ c.puts.invariant.finished;
      few = (let n = ap length is in let f = c.puts.invariant.few in omega (arith, n, f));
      retells = retells_then _ _ _ c.puts.invariant.retells (retells_now (with_put put.0) _ _ put.2);
      talks = λ r room m place unsent stages found history k t.
          talks_step r room m (Puts (s ∷ ss)) (Puts ss) stages stages place place (unsent + c.puts.unsent) (unsent + c.puts.unsent) found found history history (at_now (with_put put.0)) _ _ (since_now k (with_put put.0) _ _ put.2)
          (subst (λ l. Talks r room m (Puts l) stages place (unsent + c.puts.unsent) found history (since k (g.D.Link.seen c.puts.dialer).told)) is (c.puts.invariant.talks r room m place unsent stages found history k t))
          (λ l u. puts_whole r room m place stages found history s ss (unsent + c.puts.unsent) (unsent + c.puts.unsent) put.0 l put.1 refl u);
      some = λ r room m place unsent stages found history t.
          let u = c.puts.invariant.some r room m place unsent stages found history t in (
            at_now (with_put put.0) u.0,
            puts_whole r room m place stages found history s ss (unsent + c.puts.unsent) (unsent + c.puts.unsent) put.0 u.0 put.1 refl
                (subst (λ l. Talks r room m (Puts l) stages place (unsent + c.puts.unsent) found history (Some u.0)) is u.1),
          );
    }

pub puts-preserved : goal.puts-preserved
puts-preserved g c =
    let s = c.in-Some.first.now in
    let ss = c.in-Some.rest.now in
    let is : c.puts.left.now ≡ s ∷ ss = c.in-Some.ensures.cases.0 in
    let put = c.in-Refused.ensures.content in record {
      linked = c.put_one.ensures.linked;
      faults = c.in-Refused.ensures.cause ∙ c.puts.invariant.faults;
      dials = c.put_one.ensures.dials ∙ c.puts.invariant.dials;
      finished = c.put_one.ensures.finished ∙ c.puts.invariant.finished;
      few = (let n = ap length is in let f = c.puts.invariant.few in omega (arith, n, f));
      retells = subst (λ o. Retells (g.D.Link.seen c.args.dialer.now).told o) (sym put.1) c.puts.invariant.retells;
      talks = λ r room m place unsent stages found history k t.
          subst (λ (o : Option Line). Talks r room m (Puts ss) stages place (unsent + (c.puts.unsent + 1)) found history o) (sym (ap (since k) put.1))
          (talks_map r room m (Puts (s ∷ ss)) (Puts ss) stages stages place place (unsent + c.puts.unsent) (unsent + (c.puts.unsent + 1)) found found history history _
          (subst (λ l. Talks r room m (Puts l) stages place (unsent + c.puts.unsent) found history (since k (g.D.Link.seen c.puts.dialer).told)) is (c.puts.invariant.talks r room m place unsent stages found history k t))
          (λ l u. puts_refused r room m place stages found history s ss (unsent + c.puts.unsent) (unsent + (c.puts.unsent + 1)) l put.0 (omega arith) u));
      some = λ r room m place unsent stages found history t.
          let u = c.puts.invariant.some r room m place unsent stages found history t in (
            u.0,
            puts_refused r room m place stages found history s ss (unsent + c.puts.unsent) (unsent + (c.puts.unsent + 1)) u.0 put.0 (omega arith)
                (subst (λ l. Talks r room m (Puts l) stages place (unsent + c.puts.unsent) found history (Some u.0)) is u.1),
          );
    }

pub returns-clause-talks : goal.returns-clause-talks
returns-clause-talks g c =
    let none : c.puts.left.now ≡ [] = nil_from_length c.puts.left.now c.in_default.ensures.cases in
    λ r room m place unsent stages found history k t.
    talks_map r room m (Puts []) Caught stages stages place place (unsent + c.puts.unsent) (unsent + c.puts.unsent) found found history history _
    (subst (λ l. Talks r room m (Puts l) stages place (unsent + c.puts.unsent) found history (since k (g.D.Link.seen c.puts.dialer).told)) none (c.puts.invariant.talks r room m place unsent stages found history k t))
    (λ l u. puts_done r room m place (unsent + c.puts.unsent) stages found history l u)

pub returns-in-Fault-clause-some : goal.returns-in-Fault-clause-some
returns-in-Fault-clause-some g c =
    let s = c.in-Some.first.now in
    let ss = c.in-Some.rest.now in
    let is : c.puts.left.now ≡ s ∷ ss = c.in-Some.ensures.cases.0 in
    let put = c.in-Fault.ensures.content in
    λ r room m place unsent stages found history t.
    let u = c.puts.invariant.some r room m place unsent stages found history t in (
      at_now (with_failed_put (take put.1 put.0)) u.0,
      puts_fault r room m place stages found history s ss (unsent + c.puts.unsent) (unsent + (c.puts.unsent + length c.puts.left.now)) put.1 put.0 u.0 put.2
          (let n = ap length is in omega (arith, n))
          (subst (λ l. Talks r room m (Puts l) stages place (unsent + c.puts.unsent) found history (Some u.0)) is u.1),
    )

pub returns-clause-some : goal.returns-clause-some
returns-clause-some g c =
    let none : c.puts.left.now ≡ [] = nil_from_length c.puts.left.now c.in_default.ensures.cases in
    λ r room m place unsent stages found history t.
    let u = c.puts.invariant.some r room m place unsent stages found history t in (
      u.0,
      puts_done r room m place (unsent + c.puts.unsent) stages found history u.0
          (subst (λ l. Talks r room m (Puts l) stages place (unsent + c.puts.unsent) found history (Some u.0)) none u.1),
    )
