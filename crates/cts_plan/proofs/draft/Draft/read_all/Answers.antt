use Rattle.std.proofs.Common.{subst}
use Rattle.cts_reader.specs.Reading.{Settles}
use Rattle.cts_plan.proofs.Runs.{all_read, begins, next, refused_at_end, site_sound, site_stands}
use Rattle.cts_plan.proofs.draft.Draft.read_all.Goals as goal

pub loop-statement-init : goal.loop-statement-init
loop-statement-init c = begins c.args.self.now.site.definitions c.args.self.now c.args.statements.now c.requires

pub loop-statement-preserved : goal.loop-statement-preserved
loop-statement-preserved c = next c.args.self.now.site.definitions c.loop-statement.self c.read.new.self c.args.statements.now c.loop-statement.statement-index c.statement-item.result c.loop-statement-test.true c.statement-item.is c.loop-statement.invariant c.in_ok-read.ensures.settled c.in_ok-read.ensures.stands

pub returns : goal.returns
returns c =
    let d = c.args.self.now.site.definitions in
    let all = c.args.statements.now in
    let draft = c.loop-statement.self in
    let done = all_read d draft all c.loop-statement.statement-index c.loop-statement-test.false c.loop-statement.invariant in
    record {
      settled = subst (Settles c.complete.result) (refused_at_end d draft all done) c.complete.ensures.settled;
      said = site_stands d draft c.complete.new.self all c.complete.result done c.complete.ensures.closed;
      sound = site_sound d draft c.complete.new.self all c.complete.result done c.complete.ensures.settled c.complete.ensures.closed;
    }
