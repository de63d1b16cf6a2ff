use Rattle.cts_run.proofs.CommandLemmas.{of_told}
use Rattle.cts_run.proofs.RehearsedLemmas.{rehearsal_answers}
use Rattle.cts_run.proofs.command.perform.Goals as goal

pub returns-in-Check-clause-performs : goal.returns-in-Check-clause-performs
returns-in-Check-clause-performs g c = rw c.in-Check.is (c.check.ensures.performs (g.B.Stocked.stock c.args.shelf.now) (g.V.Vault.seen c.args.vault.now))

pub returns-in-Check-clause-vault : goal.returns-in-Check-clause-vault
returns-in-Check-clause-vault g c = c.check.ensures.vault (g.V.Vault.seen c.args.vault.now)

pub returns-in-Dump-clause-performs : goal.returns-in-Dump-clause-performs
returns-in-Dump-clause-performs g c = rw c.in-Dump.is (c.dump.ensures.performs (g.B.Stocked.stock c.args.shelf.now) (g.V.Vault.seen c.args.vault.now))

pub returns-in-Dump-clause-vault : goal.returns-in-Dump-clause-vault
returns-in-Dump-clause-vault g c = c.dump.ensures.vault (g.V.Vault.seen c.args.vault.now)

pub returns-in-Rehearse-clause-performs : goal.returns-in-Rehearse-clause-performs
returns-in-Rehearse-clause-performs g c = rw c.in-Rehearse.is (of_told _ _ (λ all. c.rehearse.ensures.performs all (g.V.Vault.seen c.args.vault.now)))

pub returns-in-Extract-clause-performs : goal.returns-in-Extract-clause-performs
returns-in-Extract-clause-performs g c = rw c.in-Extract.is (c.extract.ensures.performs (g.B.Stocked.stock c.args.shelf.now) (g.V.Vault.seen c.args.vault.now))

pub returns-in-Extract-clause-vault : goal.returns-in-Extract-clause-vault
returns-in-Extract-clause-vault g c = c.extract.ensures.vault (g.V.Vault.seen c.args.vault.now)

pub returns-in-Replay-clause-performs : goal.returns-in-Replay-clause-performs
returns-in-Replay-clause-performs g c = rw c.in-Replay.is c.replay.ensures.performs

pub returns-in-Play-clause-performs : goal.returns-in-Play-clause-performs
returns-in-Play-clause-performs g c = rw c.in-Play.is (c.play.ensures.performs (g.V.Vault.seen c.args.vault.now))

pub returns-in-Play-clause-vault : goal.returns-in-Play-clause-vault
returns-in-Play-clause-vault g c = c.play.ensures.vault (g.V.Vault.seen c.args.vault.now)

pub returns-in-Hub-clause-performs : goal.returns-in-Hub-clause-performs
returns-in-Hub-clause-performs g c = rw c.in-Hub.is (c.hub.ensures.performs (g.V.Vault.seen c.args.vault.now))

pub returns-in-Hub-clause-vault : goal.returns-in-Hub-clause-vault
returns-in-Hub-clause-vault g c = c.hub.ensures.vault (g.V.Vault.seen c.args.vault.now)

pub returns-in-Hub-clause-keeps : goal.returns-in-Hub-clause-keeps
returns-in-Hub-clause-keeps g c = rw c.in-Hub.is c.hub.ensures.keeps

pub returns-in-Hub-clause-boxes : goal.returns-in-Hub-clause-boxes
returns-in-Hub-clause-boxes g c = rw c.in-Hub.is c.hub.ensures.boxes

pub returns-in-Play-clause-keeps : goal.returns-in-Play-clause-keeps
returns-in-Play-clause-keeps g c = rw c.in-Play.is c.play.ensures.keeps

pub returns-in-Check-clause-keeps : goal.returns-in-Check-clause-keeps
returns-in-Check-clause-keeps g c = rw c.in-Check.is (of_told (g.F.Files.seen c.args.files.now).told _ (λ all. tt))

pub returns-in-Replay-clause-keeps : goal.returns-in-Replay-clause-keeps
returns-in-Replay-clause-keeps g c = rw c.in-Replay.is (of_told (g.F.Files.seen c.args.files.now).told _ (λ all. tt))

pub returns-in-Rehearse-clause-keeps : goal.returns-in-Rehearse-clause-keeps
returns-in-Rehearse-clause-keeps g c = rw c.in-Rehearse.is (of_told (g.F.Files.seen c.args.files.now).told _ (λ all. tt))

pub returns-in-Dump-clause-keeps : goal.returns-in-Dump-clause-keeps
returns-in-Dump-clause-keeps g c = rw c.in-Dump.is (of_told (g.F.Files.seen c.args.files.now).told _ (λ all. tt))

pub returns-in-Extract-clause-keeps : goal.returns-in-Extract-clause-keeps
returns-in-Extract-clause-keeps g c = rw c.in-Extract.is (of_told (g.F.Files.seen c.args.files.now).told _ (λ all. tt))

pub returns-in-Rehearse-clause-rehearsed : goal.returns-in-Rehearse-clause-rehearsed
returns-in-Rehearse-clause-rehearsed g c = rw c.in-Rehearse.is (rehearsal_answers _ _ c.rehearse.result _ _ c.rehearse.ensures.performs c.rehearse.ensures.files c.rehearse.ensures.vault)

pub returns-in-Check-clause-rehearsed : goal.returns-in-Check-clause-rehearsed
returns-in-Check-clause-rehearsed g c = rw c.in-Check.is tt

pub returns-in-Replay-clause-rehearsed : goal.returns-in-Replay-clause-rehearsed
returns-in-Replay-clause-rehearsed g c = rw c.in-Replay.is tt

pub returns-in-Dump-clause-rehearsed : goal.returns-in-Dump-clause-rehearsed
returns-in-Dump-clause-rehearsed g c = rw c.in-Dump.is tt

pub returns-in-Play-clause-rehearsed : goal.returns-in-Play-clause-rehearsed
returns-in-Play-clause-rehearsed g c = rw c.in-Play.is tt

pub returns-in-Extract-clause-rehearsed : goal.returns-in-Extract-clause-rehearsed
returns-in-Extract-clause-rehearsed g c = rw c.in-Extract.is tt

pub returns-in-Hub-clause-rehearsed : goal.returns-in-Hub-clause-rehearsed
returns-in-Hub-clause-rehearsed g c = rw c.in-Hub.is tt
