use Rattle.cts_defread.proofs.PacketRules.{last_fits, last_put_back}
use Rattle.cts_defread.proofs.packets.change_last.Goals as goal

pub change_item-changed-requires : goal.change_item-changed-requires
change_item-changed-requires c = last_fits c.args.items.now c.pop.new.self c.in-Some.item c.args.detail c.in-Some.ensures.items c.requires

pub returns : goal.returns
returns c =
    last_put_back c.args.items.now c.pop.new.self c.push.new.self c.in-Some.item c.change_item-changed.new.item c.args.detail c.push.result c.change_item-changed.result c.and.result
    c.and.ensures c.in-Some.ensures.items c.push.ensures.pushed c.change_item-changed.ensures
