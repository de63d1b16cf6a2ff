use Rattle.std.proofs.Common.{◌≡◌, ◌++◌, ℕ, List, false, ◌∙◌, subst}
use Rattle.std.specs.Fmt.{decimal}
use Rattle.cts_run.specs.Putting.{FailsWithin, IsPut}
use Rattle.cts_serve.proofs.PieceLemmas.{fails_before, whole_after}
use Rattle.cts_serve.proofs.serving.telling.put_numbered.Goals as goal

pub returns-then-not-put_whole-2 : goal.returns-then-not-put_whole-2
returns-then-not-put_whole-2 g c =
    let old = g.O.Sink.seen c.args.out.now in
    let mid = g.O.Sink.seen c.put_whole.new.out in
    let new = g.O.Sink.seen c.put_whole-2.new.out in
    let digits : c.as_bytes.result.now ≡ decimal c.args.number = c.as_bytes.ensures.value ∙ c.format.ensures.text in
    whole_after c.args.first.now (decimal c.args.number ++ c.args.last.now) false old mid new c.if-not-put_whole.ensures
    (fails_before (decimal c.args.number) c.args.last.now mid new (subst (λ (t : List ℕ). FailsWithin t mid new) digits c.if-not-put_whole-2.ensures))

pub returns : goal.returns
returns g c =
    let old = g.O.Sink.seen c.args.out.now in
    let mid = g.O.Sink.seen c.put_whole.new.out in
    let then = g.O.Sink.seen c.put_whole-2.new.out in
    let new = g.O.Sink.seen c.put_whole-3.new.out in
    let digits : c.as_bytes.result.now ≡ decimal c.args.number = c.as_bytes.ensures.value ∙ c.format.ensures.text in
    whole_after c.args.first.now (decimal c.args.number ++ c.args.last.now) c.put_whole-3.result old mid new c.if-not-put_whole.ensures
    (whole_after (decimal c.args.number) c.args.last.now c.put_whole-3.result mid then new
    (subst (λ (t : List ℕ). IsPut t mid then) digits c.if-not-put_whole-2.ensures) c.put_whole-3.ensures)
