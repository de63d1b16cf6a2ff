use Rattle.cts_defread.proofs.InOrder.{items_have_their_offsets, one_for_each_head, one_for_each_item}
use Rattle.cts_defread.proofs.laws.definitions_are_in_order.Goals as goal

pub returns : goal.returns
returns c = record { packets = one_for_each_head; items = one_for_each_item; offsets = items_have_their_offsets }
