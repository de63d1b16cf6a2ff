use Rattle.std.proofs.Common.{◌∙◌, refl, subst, take}
use Rattle.cts_turn.specs.Passes.{view}
use Rattle.cts_worker.proofs.Onwards.{onward_then, onward_same}
use Rattle.cts_scribe.specs.Ending.{CausesEndIf, LogsEndIf}
use Rattle.cts_scribe.specs.Following.{CountIf, GoesOrEnds, SyncedIf}
use Rattle.cts_scribe.proofs.following.follow.Goals as goal

pub returns-in-Some-end-clause-logs : goal.returns-in-Some-end-clause-logs
returns-in-Some-end-clause-logs g c = λ digest are whole.
    let x = c.round-next.result.0 in
    let told = (g.V.Vault.seen c.round-next.new.vault).told in
    subst (λ o. LogsEndIf c.args.site.now digest (take x.progress.place (view x.pass).seen) o told) c.in-Some-end.is
    (c.round-next.ensures.logs digest are (c.looks.invariant.logs digest are whole))

pub looks-preserved : goal.looks-preserved
looks-preserved g c =
    let e = c.round-next.ensures in
    let i = c.looks.invariant in
    let x = c.round-next.result.0 in
    let told = (g.V.Vault.seen c.round-next.new.vault).told in
    let none = c.in_default.is in
    record {
      pass = e.pass;
      following = subst (λ o. GoesOrEnds c.args.site.now c.args.by o (view x.pass) x.progress) none e.goes;
      count = subst (λ o. CountIf c.args.site.now (take x.progress.place (view x.pass).seen) x.cycles o) none e.count;
      synced = subst (λ o. SyncedIf told o) none e.synced;
      onward = onward_then _ _ _ i.onward e.onward;
      logs = λ digest are whole. subst (λ o. LogsEndIf c.args.site.now digest (take x.progress.place (view x.pass).seen) o told) none
          (e.logs digest are (i.logs digest are whole));
      faults = subst (λ o. CausesEndIf (g.V.Vault.seen c.looks.vault).faults (g.V.Vault.seen c.round-next.new.vault).faults o) none e.cause ∙ i.faults;
    }

pub looks-init : goal.looks-init
looks-init g c = record {
  pass = c.requires.pass;
  following = c.requires.following;
  count = c.requires.count;
  synced = c.requires.synced;
  onward = onward_same _;
  logs = λ digest are whole. whole;
  faults = refl;
}

pub returns-in-Some-end-clause-onward : goal.returns-in-Some-end-clause-onward
returns-in-Some-end-clause-onward g c = onward_then _ _ _ c.looks.invariant.onward c.round-next.ensures.onward
