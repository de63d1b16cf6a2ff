use Rattle.cts_run.proofs.ActLemmas.{first_fails, second_fails}
use Rattle.cts_run.proofs.keeping.append_both.Goals as goal

pub returns-in-Err-append-clause-acts : goal.returns-in-Err-append-clause-acts
returns-in-Err-append-clause-acts g c = λ out.
    second_fails c.args.tlm.now c.args.cmd.now (g.V.Vault.seen c.args.vault.now) (g.V.Vault.seen c.append.new.self) _ out c.in-Ok.ensures.content c.in-Ok.ensures.cause c.in-Err-append.ensures.content c.in-Err-append.ensures.cause

pub returns-in-Err-clause-acts : goal.returns-in-Err-clause-acts
returns-in-Err-clause-acts g c = λ out. first_fails c.args.tlm.now c.args.cmd.now (g.V.Vault.seen c.args.vault.now) _ out c.in-Err.ensures.content c.in-Err.ensures.cause
