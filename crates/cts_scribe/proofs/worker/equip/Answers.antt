use Rattle.std.proofs.Common.{ap, subst, sym, take}
use Rattle.cts_turn.specs.Passes.{view}
use Rattle.cts_scribe.specs.Vaults.{AreWhole}
use Rattle.cts_scribe.proofs.worker.equip.Goals as goal

pub returns-in-Ok-clause-logs : goal.returns-in-Ok-clause-logs
returns-in-Ok-clause-logs g c =
    let seen = (view c.args.follower.pass).seen in
    let told = (g.V.Vault.seen c.begin_logs.new.vault).told in
    c.follow.ensures.logs c.args.digest.now c.in-Ok.ensures.heads
    (subst (λ l. AreWhole c.args.site.now c.args.digest.now l told) (sym (ap (λ n. take n seen) c.requires.first)) c.in-Ok.ensures.puts)
