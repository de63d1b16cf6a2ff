use Rattle.std.proofs.Common.{◌≡◌, ℕ, ◌<◌, true, get_or, rules, arith}
use Rattle.std.proofs.lemmas.Grind.{common_steps}
use Rattle.cts_def.specs.Items.{is_to_the_end}
use Rattle.cts_cmd.proofs.Parts.{end_from}
use Rattle.cts_cmd.proofs.write.write_or_append.Goals as goal

pub returns-then-item-eq0-clause-written : goal.returns-then-item-eq0-clause-written
returns-then-item-eq0-clause-written c =
    let to : is_to_the_end c.args.item.now ≡ true = search rules in
    let bytes : (k : ℕ) → get_or c.extend_from_slice.new.self.items k 0 < 256 = search rules in
    end_from c.args.item.now c.args.bytes.now c.args.buffer.now.items c.extend_from_slice.new.self.items to c.in_ok-extend_from_slice.ensures.items bytes

pub returns-clause-written : goal.returns-clause-written
returns-clause-written c = grind (arith, common_steps)

pub returns-then-item-eq0-clause-no_shorter : goal.returns-then-item-eq0-clause-no_shorter
returns-then-item-eq0-clause-no_shorter c = grind (arith, common_steps)

pub returns-clause-no_shorter : goal.returns-clause-no_shorter
returns-clause-no_shorter c = grind (arith, common_steps)
