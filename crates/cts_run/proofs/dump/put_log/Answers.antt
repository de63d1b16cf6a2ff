use Rattle.std.proofs.Common.{arith}
use Rattle.std.proofs.lemmas.Grind.{common_steps}
use Rattle.cts_run.proofs.DumpLemmas.{no_log, with_head}
use Rattle.cts_run.proofs.dump.put_log.Goals as goal

pub returns-then-is_none : goal.returns-then-is_none
returns-then-is_none g c = λ vault. no_log c.args.file.now _ (grind (arith, common_steps))

pub returns : goal.returns
returns g c = λ vault. with_head c.args.file.now c.put_entries.result _ _ (rw c.new-reader.ensures.value at c.put_entries.ensures vault)
