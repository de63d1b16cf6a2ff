use Rattle.cts_run.proofs.HubbingLemmas.{made_leave, not_short, short_files, short_halts, short_is, short_keeps, short_leaves, short_performs, short_sink, short_vault, worlds_perform}
use Rattle.cts_run.proofs.hub.hub_worlds.Goals as goal

pub begin_both-requires-clause-short : goal.begin_both-requires-clause-short
begin_both-requires-clause-short g c = not_short (g.B.Stocked.stock c.args.shelf.now) c.args.above c.args.below c.args.tied.now.ends (c.requires.least, c.requires.most) c.args.script.now c.in-None.ensures

pub returns-clause-performs : goal.returns-clause-performs
returns-clause-performs g c = λ vault.
    let stock = g.B.Stocked.stock c.args.shelf.now in
    worlds_perform stock c.args.above c.args.below c.args.tied.now.ends (c.requires.least, c.requires.most) c.args.script.now _ c.begin_both.result _ _ (not_short stock c.args.above c.args.below c.args.tied.now.ends (c.requires.least, c.requires.most) c.args.script.now c.in-None.ensures)
    (c.begin_both.ensures.performs vault)

pub returns-clause-boxes : goal.returns-clause-boxes
returns-clause-boxes g c =
    let stock = g.B.Stocked.stock c.args.shelf.now in
    made_leave stock c.args.above c.args.below c.args.tied.now.ends (c.requires.least, c.requires.most) c.args.script.now c.begin_both.result _ (not_short stock c.args.above c.args.below c.args.tied.now.ends (c.requires.least, c.requires.most) c.args.script.now c.in-None.ensures)
    c.begin_both.ensures.boxes

pub returns-in-Some-clause-performs : goal.returns-in-Some-clause-performs
returns-in-Some-clause-performs g c = λ vault.
    short_performs (g.B.Stocked.stock c.args.shelf.now) c.args.above c.args.below c.args.tied.now.ends (c.requires.least, c.requires.most) c.args.script.now _ c.in-Some.halt _ (short_halts (g.B.Stocked.stock c.args.shelf.now) c.args.above c.args.below c.args.tied.now.ends (c.requires.least, c.requires.most) c.args.script.now c.in-Some.halt c.in-Some.ensures)

pub returns-in-Some-clause-boxes : goal.returns-in-Some-clause-boxes
returns-in-Some-clause-boxes g c = short_leaves (g.B.Stocked.stock c.args.shelf.now) c.args.above c.args.below c.args.tied.now.ends (c.requires.least, c.requires.most) c.args.script.now c.in-Some.halt (short_halts (g.B.Stocked.stock c.args.shelf.now) c.args.above c.args.below c.args.tied.now.ends (c.requires.least, c.requires.most) c.args.script.now c.in-Some.halt c.in-Some.ensures)

pub returns-in-Some-clause-keeps : goal.returns-in-Some-clause-keeps
returns-in-Some-clause-keeps g c = short_keeps (g.B.Stocked.stock c.args.shelf.now) c.args.above c.args.below c.args.tied.now.ends (c.requires.least, c.requires.most) c.args.script.now _ c.in-Some.halt (short_is (g.B.Stocked.stock c.args.shelf.now) c.args.above c.args.below c.args.tied.now.ends (c.requires.least, c.requires.most) c.args.script.now c.in-Some.halt c.in-Some.ensures)

pub returns-in-Some-clause-files : goal.returns-in-Some-clause-files
returns-in-Some-clause-files g c = short_files (g.B.Stocked.stock c.args.shelf.now) c.args.above c.args.below c.args.tied.now.ends (c.requires.least, c.requires.most) c.args.script.now c.in-Some.halt _ (short_is (g.B.Stocked.stock c.args.shelf.now) c.args.above c.args.below c.args.tied.now.ends (c.requires.least, c.requires.most) c.args.script.now c.in-Some.halt c.in-Some.ensures)

pub returns-in-Some-clause-sink : goal.returns-in-Some-clause-sink
returns-in-Some-clause-sink g c = short_sink (g.B.Stocked.stock c.args.shelf.now) c.args.above c.args.below c.args.tied.now.ends (c.requires.least, c.requires.most) c.args.script.now c.in-Some.halt _ (short_is (g.B.Stocked.stock c.args.shelf.now) c.args.above c.args.below c.args.tied.now.ends (c.requires.least, c.requires.most) c.args.script.now c.in-Some.halt c.in-Some.ensures)

pub returns-in-Some-clause-vault : goal.returns-in-Some-clause-vault
returns-in-Some-clause-vault g c = λ vault. short_vault (g.B.Stocked.stock c.args.shelf.now) c.args.above c.args.below c.args.tied.now.ends (c.requires.least, c.requires.most) c.args.script.now c.in-Some.halt vault (short_is (g.B.Stocked.stock c.args.shelf.now) c.args.above c.args.below c.args.tied.now.ends (c.requires.least, c.requires.most) c.args.script.now c.in-Some.halt c.in-Some.ensures)
