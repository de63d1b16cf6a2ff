use Rattle.cts_defread.proofs.Taken.{set_added, set_there, set_known}
use Rattle.cts_defread.proofs.adding.know_set.Goals as goal

pub returns-in_ok-push-clause-known : goal.returns-in_ok-push-clause-known
returns-in_ok-push-clause-known c =
    set_known c.args.sets.now c.insert.new.self c.args.names.now.items c.push.new.self.items c.args.name.now c.in_ok-clone.field-0 c.in_ok-clone-2.field-0
    c.requires c.in_ok-clone.ensures.cases c.in_ok-clone-2.ensures.cases c.in_ok-insert.ensures.updates c.in_ok-push.ensures.items

pub returns-in_ok-push-clause-added : goal.returns-in_ok-push-clause-added
returns-in_ok-push-clause-added c =
    set_added c.args.sets.now c.args.names.now.items c.push.new.self.items c.args.name.now c.in_ok-clone.field-0 c.in_ok-clone-2.field-0 c.in_ok-insert.field-0
    c.requires c.in_ok-clone.ensures.cases c.in_ok-clone-2.ensures.cases c.in_ok-insert.ensures.added c.if-branch.true c.in_ok-push.ensures.items

pub returns-else-branch-clause-added : goal.returns-else-branch-clause-added
returns-else-branch-clause-added c = set_there c.args.sets.now c.args.names.now.items c.args.name.now c.in_ok-clone.field-0 c.in_ok-insert.field-0 c.requires c.in_ok-clone.ensures.cases c.in_ok-insert.ensures.added c.if-branch.false
