use Rattle.std.proofs.Common.{[], ◌∷◌}
use Rattle.cts_core.specs.States.{opening}
use Rattle.cts_entry.specs.declared.event.Event.TheVariants.{Opens}
use Rattle.cts_run.specs.Acts.{outside}
use Rattle.cts_run.specs.Story.{site_told}
use Rattle.cts_run.proofs.BelowLemmas.{brings_end, halts_bringing, halts_opening}
use Rattle.cts_run.proofs.CommandLemmas.{no_vault}
use Rattle.cts_run.proofs.PlayLemmas.{begun}
use Rattle.cts_run.proofs.hub.below.bring.Goals as goal

pub do_made-requires : goal.do_made-requires
do_made-requires g c = (site_told c.args.story.now, opening, c.requires)

pub do_pieces-requires : goal.do_pieces-requires
do_pieces-requires g c =
    let on = site_told c.args.story.now in
    let old = outside (g.O.Sink.seen c.args.out.now) no_vault in
    (on, Opens c.args.interface ∷ [], old, no_vault, c.in-Ok.ensures on [] old no_vault (begun on c.args.story.now old c.requires))

pub end_below-requires : goal.end_below-requires
end_below-requires g c =
    let on = site_told c.args.story.now in
    let old = outside (g.O.Sink.seen c.args.out.now) no_vault in
    (on, Opens c.args.interface ∷ c.args.pieces.now, old, no_vault, c.in-Ok-do_pieces.ensures on (Opens c.args.interface ∷ []) old no_vault (c.in-Ok.ensures on [] old no_vault (begun on c.args.story.now old c.requires)))

pub returns-in-Ok-do_pieces : goal.returns-in-Ok-do_pieces
returns-in-Ok-do_pieces g c = λ vault.
    let on = site_told c.args.story.now in
    let old = outside (g.O.Sink.seen c.args.out.now) vault in
    let brought = c.in-Ok-do_pieces.ensures on (Opens c.args.interface ∷ []) old vault (c.in-Ok.ensures on [] old vault (begun on c.args.story.now old c.requires)) in
    brings_end on c.args.interface c.args.pieces.now c.end_below.result old _ (c.end_below.ensures on (Opens c.args.interface ∷ c.args.pieces.now) old vault brought)

pub returns-in-Err-do_pieces : goal.returns-in-Err-do_pieces
returns-in-Err-do_pieces g c = λ vault.
    let on = site_told c.args.story.now in
    let old = outside (g.O.Sink.seen c.args.out.now) vault in
    halts_bringing on c.args.interface c.args.pieces.now c.in-Err-do_pieces.halt old _
    (c.in-Err-do_pieces.ensures on (Opens c.args.interface ∷ []) old vault (c.in-Ok.ensures on [] old vault (begun on c.args.story.now old c.requires)))

pub returns-in-Err : goal.returns-in-Err
returns-in-Err g c = λ vault.
    let on = site_told c.args.story.now in
    let old = outside (g.O.Sink.seen c.args.out.now) vault in
    halts_opening on c.args.interface c.args.pieces.now c.in-Err.halt old _ (c.in-Err.ensures on [] old vault (begun on c.args.story.now old c.requires))
