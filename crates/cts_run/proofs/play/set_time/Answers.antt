use Rattle.std.proofs.Common.{rules, ◌≡◌, ◌++◌, List, map, Option, None, Ok, sym, subst}
use Rattle.std.specs.Prelude.{option_to_list}
use Rattle.std.proofs.lemmas.List.{append-nil}
use Rattle.cts_def.specs.declared.time.Time.{Time}
use Rattle.cts_entry.specs.declared.event.Event.{Event}
use Rattle.cts_entry.specs.declared.event.Event.TheVariants.{SetTime}
use Rattle.cts_run.specs.Acts.{outside}
use Rattle.cts_run.specs.Play.{IsPlaying, Plays}
use Rattle.cts_run.proofs.play.set_time.Goals as goal

pub returns-in-None : goal.returns-in-None
returns-in-None g c = λ site before old vault p.
    let none : c.args.time ≡ None = search rules in
    subst (λ (t : Option Time). Plays site (before ++ map SetTime (option_to_list t)) (Ok c.args.over) c.args.story.now old (outside (g.O.Sink.seen c.args.out.now) vault)) (sym none)
    (subst (λ (es : List Event). IsPlaying site es c.args.over c.args.story.now old (outside (g.O.Sink.seen c.args.out.now) vault)) (sym (append-nil before)) p)
