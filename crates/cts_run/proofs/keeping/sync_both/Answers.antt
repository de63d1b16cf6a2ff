use Rattle.cts_run.proofs.ActLemmas.{first_unsynced, second_unsynced}
use Rattle.cts_run.proofs.keeping.sync_both.Goals as goal

pub returns-in-Err-sync-clause-acts : goal.returns-in-Err-sync-clause-acts
returns-in-Err-sync-clause-acts g c = λ out.
    second_unsynced (g.V.Vault.seen c.args.vault.now) (g.V.Vault.seen c.sync.new.self) _ out c.in-Ok.ensures.content c.in-Ok.ensures.cause c.in-Err-sync.ensures.content c.in-Err-sync.ensures.cause

pub returns-in-Err-clause-acts : goal.returns-in-Err-clause-acts
returns-in-Err-clause-acts g c = λ out. first_unsynced (g.V.Vault.seen c.args.vault.now) _ out c.in-Err.ensures.content c.in-Err.ensures.cause
