use Rattle.cts_cmd_laws.specs.Sound.{IsItem}
use Rattle.cts_cmd_laws.proofs.Kept.{LeftKeep}
use Rattle.cts_cmd_laws.proofs.keeping.keep_items.Given as goal

abbrev pub invariant-loop-item : goal.invariant-loop-item
invariant-loop-item l = LeftKeep IsItem l.items l.item-index
