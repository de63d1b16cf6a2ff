use Rattle.std.proofs.Common.{◌≡◌, true, arith}
use Rattle.std.proofs.lemmas.Grind.{common_steps}
use Rattle.cts_framing.specs.Patterns.{begins}
use Rattle.cts_run.proofs.DumpedLemmas.{file_puts, file_wants}
use Rattle.cts_run.proofs.dump.put_file.Goals as goal

pub returns-in-Ok-put_log-clause-puts : goal.returns-in-Ok-put_log-clause-puts
returns-in-Ok-put_log-clause-puts g c = λ vault.
    let so : begins c.args.head.now c.args.file.now ≡ true = grind (arith, common_steps) in
    file_puts c.args.head.now c.args.file.now _ _ _ so (c.in-Ok-put_log.ensures vault)

pub returns-in-Err-put_log-clause-puts : goal.returns-in-Err-put_log-clause-puts
returns-in-Err-put_log-clause-puts g c = λ vault.
    let so : begins c.args.head.now c.args.file.now ≡ true = grind (arith, common_steps) in
    file_puts c.args.head.now c.args.file.now _ _ _ so (c.in-Err-put_log.ensures vault)

pub returns-in-Err-clause-puts : goal.returns-in-Err-clause-puts
returns-in-Err-clause-puts g c = λ vault. file_wants c.args.head.now c.args.file.now _
