use Rattle.std.proofs.Common.{rules, ◌≡◌, Bool, true, subst}
use Rattle.cts_framing.specs.Layouts.{has_flags}
use Rattle.cts_log.specs.Reading.{logged}
use Rattle.cts_run.specs.Acts.{outside}
use Rattle.cts_run.specs.Play.{IsPlaying}
use Rattle.cts_run.proofs.PlayLemmas.{entry_over, entry_wanted}
use Rattle.cts_run.proofs.play.play_entry.Goals as goal

pub returns-then-over : goal.returns-then-over
returns-then-over g c = λ site events old vault p.
    let on : c.args.over ≡ true = search rules in
    entry_over (has_flags c.args.layout) (logged c.args.entry.now) site events _ old _ (subst (λ (b : Bool). IsPlaying site events b c.args.story.now old (outside (g.O.Sink.seen c.args.out.now) vault)) on p)

pub returns-in-Err : goal.returns-in-Err
returns-in-Err g c = λ site events old vault p. entry_wanted (has_flags c.args.layout) (logged c.args.entry.now) site events c.args.over _ old _ p
