use Rattle.cts_defread.proofs.PacketRules.{open_fits, open_changed}
use Rattle.cts_defread.proofs.packets.change_last_item.Goals as goal

pub with_change-requires : goal.with_change-requires
with_change-requires c = open_fits c.args.packets.now.items c.pop.new.self.items c.in-Some.drafted c.args.detail c.in-Some.ensures.items c.requires

pub returns : goal.returns
returns c =
    open_changed c.args.packets.now.items c.pop.new.self.items c.push.new.self.items c.in-Some.drafted c.in_ok-with_change.field-0 c.args.detail c.in-Some.ensures.items c.in_ok-push.ensures.items c.in_ok-with_change.ensures
