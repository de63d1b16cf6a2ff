use Rattle.std.proofs.Common.{length, sym}
use Rattle.cts_base.specs.Names.{spells}
use Rattle.cts_cmd.specs.Builds.{lies_within}
use Rattle.cts_cmd.proofs.Injected.{all_found, within_of}
use Rattle.cts_cmd.proofs.injection.write_member.Goals as goal

pub write_item-requires : goal.write_item-requires
write_item-requires c =
    let n = length c.args.buffer.now.items in
    within_of n c.in-Some.item.now (all_found (lies_within n) (λ i. spells c.as_slice.result.now i.name) c.args.items.now c.in-Some.item.now c.requires (sym c.in-Some.ensures))
