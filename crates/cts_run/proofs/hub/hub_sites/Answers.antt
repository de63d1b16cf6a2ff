use Rattle.cts_run.proofs.HubbingLemmas.{tied_keeps, tied_leaves, tied_performs, untied_keeps, untied_leaves, untied_performs}
use Rattle.cts_run.proofs.TyingLemmas.{tie_files, tie_sink, tie_vault}
use Rattle.cts_run.proofs.hub.hub_sites.Goals as goal

pub returns-in-Ok-clause-performs : goal.returns-in-Ok-clause-performs
returns-in-Ok-clause-performs g c = λ vault.
    tied_performs (g.B.Stocked.stock c.args.shelf.now) c.args.above c.args.below c.args.script.now c.args.tie.now _ c.in-Ok.tied.hub c.in-Ok.tied.ends c.hub_worlds.result _ _ c.in-Ok.ensures.0 c.in-Ok.ensures.1 (c.hub_worlds.ensures.performs vault)

pub returns-in-Ok-clause-boxes : goal.returns-in-Ok-clause-boxes
returns-in-Ok-clause-boxes g c = tied_leaves (g.B.Stocked.stock c.args.shelf.now) c.args.above c.args.below c.args.script.now c.args.tie.now c.hub_worlds.result _ c.in-Ok.ensures.0 c.hub_worlds.ensures.boxes

pub returns-in-Ok-clause-keeps : goal.returns-in-Ok-clause-keeps
returns-in-Ok-clause-keeps g c =
    tied_keeps (g.B.Stocked.stock c.args.shelf.now) c.args.above c.args.below c.args.script.now c.args.tie.now _ c.in-Ok.tied.hub c.in-Ok.tied.ends c.hub_worlds.result c.in-Ok.ensures.1 c.hub_worlds.ensures.keeps

pub returns-clause-performs : goal.returns-clause-performs
returns-clause-performs g c = λ vault. untied_performs (g.B.Stocked.stock c.args.shelf.now) c.args.above c.args.below c.args.script.now c.args.tie.now _ c.in-Err.halt _ c.in-Err.ensures.0

pub returns-clause-boxes : goal.returns-clause-boxes
returns-clause-boxes g c = untied_leaves (g.B.Stocked.stock c.args.shelf.now) c.args.above c.args.below c.args.script.now c.args.tie.now c.in-Err.halt c.in-Err.ensures.0

pub returns-clause-keeps : goal.returns-clause-keeps
returns-clause-keeps g c = untied_keeps c.args.above c.args.below c.args.script.now c.args.tie.now _ c.in-Err.halt c.in-Err.ensures.1

pub hub_worlds-requires-clause-hub : goal.hub_worlds-requires-clause-hub
hub_worlds-requires-clause-hub g c = c.in-Ok.ensures.1.hub_is

pub hub_worlds-requires-clause-least : goal.hub_worlds-requires-clause-least
hub_worlds-requires-clause-least g c = c.in-Ok.ensures.1.least

pub hub_worlds-requires-clause-most : goal.hub_worlds-requires-clause-most
hub_worlds-requires-clause-most g c = c.in-Ok.ensures.1.most

pub hub_worlds-requires-clause-both : goal.hub_worlds-requires-clause-both
hub_worlds-requires-clause-both g c = c.in-Ok.ensures.1.tied

pub returns-clause-files : goal.returns-clause-files
returns-clause-files g c = tie_files c.in-Err.halt _ c.in-Err.ensures.1

pub returns-clause-sink : goal.returns-clause-sink
returns-clause-sink g c = tie_sink c.in-Err.halt _ c.in-Err.ensures.1

pub returns-clause-vault : goal.returns-clause-vault
returns-clause-vault g c = λ vault. tie_vault c.in-Err.halt vault c.in-Err.ensures.1
