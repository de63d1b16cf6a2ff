use Rattle.std.proofs.Common.{rules, ◌≡◌, ◌∷◌, [], Bool, true, false, subst}
use Rattle.cts_run.specs.Acts.{outside}
use Rattle.cts_run.specs.Play.{IsPlaying}
use Rattle.cts_run.proofs.PlayLemmas.{stays_over}
use Rattle.cts_run.proofs.play.do_event.Goals as goal

pub returns-then-over : goal.returns-then-over
returns-then-over g c = λ site before old vault p.
    let on : c.args.over ≡ true = search rules in
    stays_over site before (c.args.event.now ∷ []) _ old _ (subst (λ (b : Bool). IsPlaying site before b c.args.story.now old (outside (g.O.Sink.seen c.args.out.now) vault)) on p)

pub returns : goal.returns
returns g c = λ site before old vault p.
    let off : c.args.over ≡ false = search rules in
    c.tell_event.ensures site before old vault (subst (λ (b : Bool). IsPlaying site before b c.args.story.now old (outside (g.O.Sink.seen c.args.out.now) vault)) off p)
