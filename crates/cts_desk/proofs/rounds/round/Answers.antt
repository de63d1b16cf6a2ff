use Rattle.std.proofs.Common.{◌∙◌, [], Option, ap, subst, sym, take}
use Rattle.cts_turn.specs.Passes.{view}
use Rattle.cts_worker.specs.Grounds.{ground}
use Rattle.cts_worker.proofs.Onwards.{onward_hold, onward_then}
use Rattle.cts_outside.specs.Lines.{after_take}
use Rattle.cts_outside.specs.declared.link.Taken.TheVariants.{Got, Nothing, End, Failed}
use Rattle.cts_desk.specs.declared.ending.HangUp.{HangUp}
use Rattle.cts_desk.specs.Serving.{Serving, Stage, Waits, Took, Over, after}
use Rattle.cts_desk.proofs.Stages.{took_piece, took_nothing, took_end, take_failed}
use Rattle.cts_desk.proofs.Steps.{serving_at, serving_halted, looked_on}
use Rattle.cts_desk.proofs.Faulting.{rise_then, take_rises}
use Rattle.cts_desk.proofs.Aiming.{aim_now}
use Rattle.cts_desk.proofs.Rounding.{after_goes, open_unless, unless_no_stop}
use Rattle.cts_desk.proofs.rounds.round.Goals as goal

pub returns-then-stop-clause-serves : goal.returns-then-stop-clause-serves
returns-then-stop-clause-serves g c = λ n was s.
    let b = ground c.args.hand.now.turn.now in
    let by = c.args.hand.now.by in
    let r = c.args.reader.now in
    let v = view c.look-talk.result.0.pass in
    let told = (g.R.Link.seen c.args.door.now).told in
    let goes = g.S.Source.going c.look-talk.result.0.source n b by in
    let k = looked_on g.S.Source.going n b by was r Waits c.args.talk.source c.look-talk.result.0.source c.args.talk.fronts.items c.look-talk.result.0.fronts.items (view c.args.talk.pass) v told
    c.look-talk.ensures.source (ap (λ f. f.items) c.look-talk.ensures.fronts) (g.met.S.Source.stays c.args.talk.source n b by) c.look-talk.ensures.hold s in
    serving_halted goes was r c.look-talk.result.0.fronts.items v told k

pub returns-in-Nothing-clause-serves : goal.returns-in-Nothing-clause-serves
returns-in-Nothing-clause-serves g c = λ n was s.
    let b = ground c.args.hand.now.turn.now in
    let by = c.args.hand.now.by in
    let r = c.args.reader.now in
    let v = view c.look-talk.result.0.pass in
    let told = (g.R.Link.seen c.args.door.now).told in
    let goes = g.S.Source.going c.look-talk.result.0.source n b by in
    let k = looked_on g.S.Source.going n b by was r Waits c.args.talk.source c.look-talk.result.0.source c.args.talk.fronts.items c.look-talk.result.0.fronts.items (view c.args.talk.pass) v told
    c.look-talk.ensures.source (ap (λ f. f.items) c.look-talk.ensures.fronts) (g.met.S.Source.stays c.args.talk.source n b by) c.look-talk.ensures.hold s in
    serving_at goes was r Waits Waits (after_take Nothing c.take.new.buffer) c.look-talk.result.0.fronts.items v told (g.R.Link.seen c.take.new.self).told c.in-Nothing.ensures.content
    (λ earlier mine d so. took_nothing r earlier mine c.take.new.buffer d so) k

pub returns-in-End-clause-serves : goal.returns-in-End-clause-serves
returns-in-End-clause-serves g c = λ n was s.
    let b = ground c.args.hand.now.turn.now in
    let by = c.args.hand.now.by in
    let r = c.args.reader.now in
    let v = view c.look-talk.result.0.pass in
    let told = (g.R.Link.seen c.args.door.now).told in
    let goes = g.S.Source.going c.look-talk.result.0.source n b by in
    let k = looked_on g.S.Source.going n b by was r Waits c.args.talk.source c.look-talk.result.0.source c.args.talk.fronts.items c.look-talk.result.0.fronts.items (view c.args.talk.pass) v told
    c.look-talk.ensures.source (ap (λ f. f.items) c.look-talk.ensures.fronts) (g.met.S.Source.stays c.args.talk.source n b by) c.look-talk.ensures.hold s in
    serving_at goes was r Waits Over (after_take End c.take.new.buffer) c.look-talk.result.0.fronts.items v told (g.R.Link.seen c.take.new.self).told c.in-End.ensures.content
    (λ earlier mine d so. took_end r earlier mine c.take.new.buffer d so) k

pub returns-in-Failed-clause-serves : goal.returns-in-Failed-clause-serves
returns-in-Failed-clause-serves g c = λ n was s.
    let b = ground c.args.hand.now.turn.now in
    let by = c.args.hand.now.by in
    let r = c.args.reader.now in
    let v = view c.look-talk.result.0.pass in
    let told = (g.R.Link.seen c.args.door.now).told in
    let goes = g.S.Source.going c.look-talk.result.0.source n b by in
    let k = looked_on g.S.Source.going n b by was r Waits c.args.talk.source c.look-talk.result.0.source c.args.talk.fronts.items c.look-talk.result.0.fronts.items (view c.args.talk.pass) v told
    c.look-talk.ensures.source (ap (λ f. f.items) c.look-talk.ensures.fronts) (g.met.S.Source.stays c.args.talk.source n b by) c.look-talk.ensures.hold s in
    serving_at goes was r Waits Over (after_take Failed c.take.new.buffer) c.look-talk.result.0.fronts.items v told (g.R.Link.seen c.take.new.self).told c.in-Failed.ensures.content
    (λ earlier mine d so. take_failed r earlier mine c.take.new.buffer d so) k

pub returns-in-Got-clause-serves : goal.returns-in-Got-clause-serves
returns-in-Got-clause-serves g c = λ n was s.
    let b = ground c.args.hand.now.turn.now in
    let by = c.args.hand.now.by in
    let r = c.args.reader.now in
    let count = c.in-Got.count in
    let buffer = c.take.new.buffer in
    let v = view c.look-talk.result.0.pass in
    let told = (g.R.Link.seen c.args.door.now).told in
    let goes = g.S.Source.going c.look-talk.result.0.source n b by in
    let k = looked_on g.S.Source.going n b by was r Waits c.args.talk.source c.look-talk.result.0.source c.args.talk.fronts.items c.look-talk.result.0.fronts.items (view c.args.talk.pass) v told
    c.look-talk.ensures.source (ap (λ f. f.items) c.look-talk.ensures.fronts) (g.met.S.Source.stays c.args.talk.source n b by) c.look-talk.ensures.hold s in
    let took = serving_at goes was r Waits (Took (take count buffer)) (after_take (Got count) buffer) c.look-talk.result.0.fronts.items v told (g.R.Link.seen c.take.new.self).told c.in-Got.ensures.content
    (λ earlier mine d so. took_piece r earlier mine count buffer d so) k in
    let went = g.S.Source.going c.post-talk.result.0.source n b by in
    let w = view c.post-talk.result.0.pass in
    let new = (g.R.Link.seen c.post-talk.new.door).told in
    subst (λ (o : Option HangUp). Serving went was (after o) c.post-talk.result.0.fronts.items w c.post-talk.new.reader new) (sym c.over_unless.ensures)
    (subst (λ (x : Stage). Serving went was x c.post-talk.result.0.fronts.items w c.post-talk.new.reader new) (sym (after_goes c.post-talk.result.1)) (c.post-talk.ensures.serves n was took))

pub returns-in-Got-clause-open : goal.returns-in-Got-clause-open
returns-in-Got-clause-open g c = open_unless c.post-talk.result.1 c.over_unless.result _ c.over_unless.ensures c.post-talk.ensures.open

pub returns-in-Got-clause-stop : goal.returns-in-Got-clause-stop
returns-in-Got-clause-stop g c = unless_no_stop c.post-talk.result.1 c.over_unless.result _ c.over_unless.ensures

pub returns-in-Nothing-clause-faults : goal.returns-in-Nothing-clause-faults
returns-in-Nothing-clause-faults g c = take_rises Nothing c.take.new.buffer (g.R.Link.seen c.args.door.now) (g.R.Link.seen c.take.new.self) c.in-Nothing.ensures.content c.in-Nothing.ensures.cause

pub returns-in-End-clause-faults : goal.returns-in-End-clause-faults
returns-in-End-clause-faults g c = take_rises End c.take.new.buffer (g.R.Link.seen c.args.door.now) (g.R.Link.seen c.take.new.self) c.in-End.ensures.content c.in-End.ensures.cause

pub returns-in-Failed-clause-faults : goal.returns-in-Failed-clause-faults
returns-in-Failed-clause-faults g c = take_rises Failed c.take.new.buffer (g.R.Link.seen c.args.door.now) (g.R.Link.seen c.take.new.self) c.in-Failed.ensures.content c.in-Failed.ensures.cause

pub returns-in-Got-clause-faults : goal.returns-in-Got-clause-faults
returns-in-Got-clause-faults g c = rise_then (g.R.Link.seen c.args.door.now) (g.R.Link.seen c.take.new.self) (g.R.Link.seen c.post-talk.new.door)
    (take_rises (Got c.in-Got.count) c.take.new.buffer (g.R.Link.seen c.args.door.now) (g.R.Link.seen c.take.new.self) c.in-Got.ensures.content c.in-Got.ensures.cause) c.post-talk.ensures.faults

pub returns-in-Nothing-clause-aim : goal.returns-in-Nothing-clause-aim
returns-in-Nothing-clause-aim g c = aim_now (after_take Nothing c.take.new.buffer) _ _ c.in-Nothing.ensures.content

pub returns-in-End-clause-aim : goal.returns-in-End-clause-aim
returns-in-End-clause-aim g c = aim_now (after_take End c.take.new.buffer) _ _ c.in-End.ensures.content

pub returns-in-Failed-clause-aim : goal.returns-in-Failed-clause-aim
returns-in-Failed-clause-aim g c = aim_now (after_take Failed c.take.new.buffer) _ _ c.in-Failed.ensures.content

pub returns-in-Got-clause-aim : goal.returns-in-Got-clause-aim
returns-in-Got-clause-aim g c = c.post-talk.ensures.aim ∙ aim_now (after_take (Got c.in-Got.count) c.take.new.buffer) _ _ c.in-Got.ensures.content

pub returns-in-Got-clause-onward : goal.returns-in-Got-clause-onward
returns-in-Got-clause-onward g c = onward_then _ _ _ (onward_hold c.args.hand.now.by _ _ [] c.look-talk.ensures.hold) c.post-talk.ensures.onward

pub returns-then-stop-clause-fits : goal.returns-then-stop-clause-fits
returns-then-stop-clause-fits g c = subst (λ x. g.S.Source.fits x (ground c.args.hand.now.turn.now)) (sym c.look-talk.ensures.source) c.requires.fits

pub returns-in-Nothing-clause-fits : goal.returns-in-Nothing-clause-fits
returns-in-Nothing-clause-fits g c = subst (λ x. g.S.Source.fits x (ground c.args.hand.now.turn.now)) (sym c.look-talk.ensures.source) c.requires.fits

pub returns-in-End-clause-fits : goal.returns-in-End-clause-fits
returns-in-End-clause-fits g c = subst (λ x. g.S.Source.fits x (ground c.args.hand.now.turn.now)) (sym c.look-talk.ensures.source) c.requires.fits

pub returns-in-Failed-clause-fits : goal.returns-in-Failed-clause-fits
returns-in-Failed-clause-fits g c = subst (λ x. g.S.Source.fits x (ground c.args.hand.now.turn.now)) (sym c.look-talk.ensures.source) c.requires.fits

pub post-talk-requires-clause-fits : goal.post-talk-requires-clause-fits
post-talk-requires-clause-fits g c = subst (λ x. g.S.Source.fits x (ground c.args.hand.now.turn.now)) (sym c.look-talk.ensures.source) c.requires.fits
