use Rattle.std.proofs.Common.{rules}
use Rattle.std.proofs.Common.{arith}
use Rattle.std.proofs.lemmas.Grind.{common_steps}
use Rattle.cts_base.specs.Wholes.{whole_of}
use Rattle.cts_base.proofs.WholeLemmas.{writes_iff_result}
use Rattle.cts_base.proofs.whole.read_whole.Goals as goal

pub returns-in-48-clause-read : goal.returns-in-48-clause-read
unfolding whole_of
returns-in-48-clause-read c = writes_iff_result c.args.text.now _ (grind (arith, common_steps))

pub returns-in_default-clause-read : goal.returns-in_default-clause-read
unfolding whole_of
returns-in_default-clause-read c = writes_iff_result c.args.text.now _ (search rules)
