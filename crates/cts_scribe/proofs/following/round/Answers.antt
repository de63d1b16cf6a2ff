use Rattle.std.proofs.Common.{Ok, Err, refl, subst, sym, take, true, inl}
use Rattle.cts_turn.specs.Passes.{view}
use Rattle.cts_worker.specs.Lasts.{first_moment}
use Rattle.cts_worker.specs.Grounds.{ground}
use Rattle.cts_worker.proofs.Lasting.{ended_onward}
use Rattle.cts_worker.proofs.Onwards.{onward_then}
use Rattle.cts_scribe.specs.declared.ending.ScribeWhy.TheVariants.{NoMemory, VaultFailed}
use Rattle.cts_scribe.specs.Vaults.{AreBegun, AreWhole}
use Rattle.cts_scribe.proofs.Lasting.{gave_up_at, gave_up_taken}
use Rattle.cts_scribe.proofs.Sighting.{Looked, counted_more, ends_more, looked_more, looked_onward, looked_wanting, put_after, wanting_whole}
use Rattle.cts_scribe.proofs.following.round.Goals as goal

pub returns-in-Ok-clause-logs : goal.returns-in-Ok-clause-logs
returns-in-Ok-clause-logs g c = λ digest are whole.
    let site = c.args.site.now in
    let base = ground c.args.turn.now in
    let v = view c.args.follower.pass in
    let w = view c.look-follower.result.0.pass in
    let p = c.args.follower.progress in
    let q = c.look-follower.result.0.progress in
    let d = c.look-follower.result.0.cycles in
    let growth = c.in-Ok-More.growth in
    let before = (g.V.Vault.seen c.args.vault.now).told in
    let after = (g.V.Vault.seen c.put_both.new.vault).told in
    let result = Ok c.in-Ok.field-0 in
    let first = subst (λ s. Looked site base c.args.by v w p s q d) c.in-Ok-More.is c.look-follower.ensures.hold in
    let hold = subst (λ s. Looked site base c.args.by v w p (Ok s) q d) c.in-Ok-More.field-0-is first in
    let puts = c.in-Ok.ensures.content in
    put_after site base c.args.by v w p q d digest c.args.heads.now growth before after result are hold c.requires.following puts whole

pub returns-in-Ok-More-clause-goes : goal.returns-in-Ok-More-clause-goes
returns-in-Ok-More-clause-goes g c =
    let site = c.args.site.now in
    let base = ground c.args.turn.now in
    let v = view c.args.follower.pass in
    let w = view c.look-follower.result.0.pass in
    let p = c.args.follower.progress in
    let q = c.look-follower.result.0.progress in
    let d = c.look-follower.result.0.cycles in
    let first = subst (λ s. Looked site base c.args.by v w p s q d) c.in-Ok-More.is c.look-follower.ensures.hold in
    let hold = subst (λ s. Looked site base c.args.by v w p (Ok s) q d) c.in-Ok-More.field-0-is first in
    let f = looked_more site base c.args.by v w p q d c.in-Ok-More.growth c.requires.following hold in
    gave_up_at site c.args.by VaultFailed w (view c.give_up-follower.result.pass) q c.give_up-follower.result.progress refl c.give_up-follower.ensures.ended f
    c.give_up-follower.ensures.progress

pub returns-in-Ok-More-clause-logs : goal.returns-in-Ok-More-clause-logs
returns-in-Ok-More-clause-logs g c = λ digest are whole.
    let site = c.args.site.now in
    let base = ground c.args.turn.now in
    let v = view c.args.follower.pass in
    let w = view c.look-follower.result.0.pass in
    let x = view c.give_up-follower.result.pass in
    let p = c.args.follower.progress in
    let q = c.look-follower.result.0.progress in
    let d = c.look-follower.result.0.cycles in
    let growth = c.in-Ok-More.growth in
    let before = (g.V.Vault.seen c.args.vault.now).told in
    let after = (g.V.Vault.seen c.put_both.new.vault).told in
    let result = Err c.in-Err-put_both.field-0 in
    let first = subst (λ s. Looked site base c.args.by v w p s q d) c.in-Ok-More.is c.look-follower.ensures.hold in
    let hold = subst (λ s. Looked site base c.args.by v w p (Ok s) q d) c.in-Ok-More.field-0-is first in
    let f = looked_more site base c.args.by v w p q d growth c.requires.following hold in
    let puts = c.in-Err-put_both.ensures.content in
    let parts : AreBegun site digest (take q.place w.seen) after =
    put_after site base c.args.by v w p q d digest c.args.heads.now growth before after result are hold c.requires.following puts whole in
    subst (λ l. AreBegun site digest l after)
    (sym (gave_up_taken c.args.by w x q c.give_up-follower.result.progress c.give_up-follower.ensures.ended f c.give_up-follower.ensures.progress)) parts

pub returns-clause-goes : goal.returns-clause-goes
returns-clause-goes g c =
    let site = c.args.site.now in
    let base = ground c.args.turn.now in
    let v = view c.args.follower.pass in
    let w = view c.look-follower.result.0.pass in
    let p = c.args.follower.progress in
    let q = c.look-follower.result.0.progress in
    let d = c.look-follower.result.0.cycles in
    let hold = subst (λ s. Looked site base c.args.by v w p s q d) c.in-Err.is c.look-follower.ensures.hold in
    let f = looked_wanting site base c.args.by v w p q d c.in-Err.field-0 c.requires.following hold in
    gave_up_at site c.args.by NoMemory w (view c.give_up-follower-in-Err.result.pass) q c.give_up-follower-in-Err.result.progress refl
    c.give_up-follower-in-Err.ensures.ended f c.give_up-follower-in-Err.ensures.progress

pub returns-clause-logs : goal.returns-clause-logs
returns-clause-logs g c = λ digest are whole.
    let site = c.args.site.now in
    let base = ground c.args.turn.now in
    let v = view c.args.follower.pass in
    let w = view c.look-follower.result.0.pass in
    let p = c.args.follower.progress in
    let q = c.look-follower.result.0.progress in
    let d = c.look-follower.result.0.cycles in
    let told = (g.V.Vault.seen c.args.vault.now).told in
    let hold = subst (λ s. Looked site base c.args.by v w p s q d) c.in-Err.is c.look-follower.ensures.hold in
    let f = looked_wanting site base c.args.by v w p q d c.in-Err.field-0 c.requires.following hold in
    let kept = wanting_whole site base c.args.by v w p q d c.in-Err.field-0 digest told hold c.requires.following whole in
    inl (subst (λ l. AreWhole site digest l told)
    (sym (gave_up_taken c.args.by w (view c.give_up-follower-in-Err.result.pass) q c.give_up-follower-in-Err.result.progress
    c.give_up-follower-in-Err.ensures.ended f c.give_up-follower-in-Err.ensures.progress)) kept)

pub returns-in-Ok-clause-onward : goal.returns-in-Ok-clause-onward
returns-in-Ok-clause-onward g c =
    looked_onward c.args.site.now (ground c.args.turn.now) c.args.by (view c.args.follower.pass)
    (view c.look-follower.result.0.pass) c.args.follower.progress c.look-follower.result.0.progress c.look-follower.result.0.cycles c.look-follower.result.1
    c.look-follower.ensures.hold

pub returns-in-Ok-Still-clause-onward : goal.returns-in-Ok-Still-clause-onward
returns-in-Ok-Still-clause-onward g c =
    looked_onward c.args.site.now (ground c.args.turn.now) c.args.by (view c.args.follower.pass)
    (view c.look-follower.result.0.pass) c.args.follower.progress c.look-follower.result.0.progress c.look-follower.result.0.cycles c.look-follower.result.1
    c.look-follower.ensures.hold

pub returns-in-Ok-Drained-clause-onward : goal.returns-in-Ok-Drained-clause-onward
returns-in-Ok-Drained-clause-onward g c =
    looked_onward c.args.site.now (ground c.args.turn.now) c.args.by (view c.args.follower.pass)
    (view c.look-follower.result.0.pass) c.args.follower.progress c.look-follower.result.0.progress c.look-follower.result.0.cycles c.look-follower.result.1
    c.look-follower.ensures.hold

pub returns-in-Ok-More-clause-onward : goal.returns-in-Ok-More-clause-onward
returns-in-Ok-More-clause-onward g c =
    onward_then _ _ _ (looked_onward c.args.site.now (ground c.args.turn.now) c.args.by (view c.args.follower.pass)
    (view c.look-follower.result.0.pass) c.args.follower.progress c.look-follower.result.0.progress c.look-follower.result.0.cycles c.look-follower.result.1
    c.look-follower.ensures.hold)
    (ended_onward c.args.by first_moment true (view c.look-follower.result.0.pass) (view c.give_up-follower.result.pass) c.give_up-follower.ensures.ended)

pub returns-clause-onward : goal.returns-clause-onward
returns-clause-onward g c =
    onward_then _ _ _ (looked_onward c.args.site.now (ground c.args.turn.now) c.args.by (view c.args.follower.pass)
    (view c.look-follower.result.0.pass) c.args.follower.progress c.look-follower.result.0.progress c.look-follower.result.0.cycles c.look-follower.result.1
    c.look-follower.ensures.hold)
    (ended_onward c.args.by first_moment true (view c.look-follower.result.0.pass)
    (view c.give_up-follower-in-Err.result.pass) c.give_up-follower-in-Err.ensures.ended)

pub put_both-requires-clause-tlm : goal.put_both-requires-clause-tlm
put_both-requires-clause-tlm g c =
    let site = c.args.site.now in
    let base = ground c.args.turn.now in
    let v = view c.args.follower.pass in
    let w = view c.look-follower.result.0.pass in
    let p = c.args.follower.progress in
    let q = c.look-follower.result.0.progress in
    let d = c.look-follower.result.0.cycles in
    let first = subst (λ s. Looked site base c.args.by v w p s q d) c.in-Ok-More.is c.look-follower.ensures.hold in
    let hold = subst (λ s. Looked site base c.args.by v w p (Ok s) q d) c.in-Ok-More.field-0-is first in
    (ends_more site base c.args.by v w p q d c.in-Ok-More.growth hold).0

pub put_both-requires-clause-cmd : goal.put_both-requires-clause-cmd
put_both-requires-clause-cmd g c =
    let site = c.args.site.now in
    let base = ground c.args.turn.now in
    let v = view c.args.follower.pass in
    let w = view c.look-follower.result.0.pass in
    let p = c.args.follower.progress in
    let q = c.look-follower.result.0.progress in
    let d = c.look-follower.result.0.cycles in
    let first = subst (λ s. Looked site base c.args.by v w p s q d) c.in-Ok-More.is c.look-follower.ensures.hold in
    let hold = subst (λ s. Looked site base c.args.by v w p (Ok s) q d) c.in-Ok-More.field-0-is first in
    (ends_more site base c.args.by v w p q d c.in-Ok-More.growth hold).1

pub returns-in-Ok-clause-count : goal.returns-in-Ok-clause-count
returns-in-Ok-clause-count g c =
    let site = c.args.site.now in
    let base = ground c.args.turn.now in
    let v = view c.args.follower.pass in
    let w = view c.look-follower.result.0.pass in
    let p = c.args.follower.progress in
    let q = c.look-follower.result.0.progress in
    let d = c.look-follower.result.0.cycles in
    let first = subst (λ s. Looked site base c.args.by v w p s q d) c.in-Ok-More.is c.look-follower.ensures.hold in
    let hold = subst (λ s. Looked site base c.args.by v w p (Ok s) q d) c.in-Ok-More.field-0-is first in
    counted_more site base c.args.by v w p q d c.in-Ok-More.growth hold
