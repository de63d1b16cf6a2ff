use Rattle.std.proofs.Common.{◌≡◌, ℕ, List, take}
use Rattle.cts_scribe.specs.Following.{Following}
use Rattle.cts_scribe.specs.Growing.{AreHeads, Count}
use Rattle.cts_scribe.specs.Vaults.{AreSynced, AreWhole}
use Rattle.cts_turn.specs.Passes.{IsPassOf, view}
use Rattle.cts_worker.specs.Holds.{Onward}
use Rattle.cts_scribe.proofs.following.follow.Given as goal

abbrev pub invariant-looks : goal.invariant-looks
invariant-looks g l = record {
  pass : IsPassOf l.turn l.follower.pass;
  following : Following l.by (view l.follower.pass) l.follower.progress;
  count : Count l.site (take l.follower.progress.place (view l.follower.pass).seen) l.follower.cycles;
  synced : AreSynced (g.V.Vault.seen l.vault).told;
  onward : Onward (view l.initial.follower.pass) (view l.follower.pass);
  logs : (digest : List ℕ) → AreHeads l.site digest l.heads
      → AreWhole l.site digest (take l.initial.follower.progress.place (view l.initial.follower.pass).seen) (g.V.Vault.seen l.initial.vault).told
      → AreWhole l.site digest (take l.follower.progress.place (view l.follower.pass).seen) (g.V.Vault.seen l.vault).told;
  faults : (g.V.Vault.seen l.vault).faults ≡ (g.V.Vault.seen l.initial.vault).faults;
}
