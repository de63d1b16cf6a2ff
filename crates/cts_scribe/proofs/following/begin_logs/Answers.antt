use Rattle.std.proofs.Common.{Ok, Err}
use Rattle.cts_scribe.proofs.Vaulting.{heads_put}
use Rattle.cts_scribe.proofs.following.begin_logs.Goals as goal

pub returns-in-Ok-put_heads-clause-puts : goal.returns-in-Ok-put_heads-clause-puts
returns-in-Ok-put_heads-clause-puts g c =
    heads_put c.args.site.now c.args.digest.now c.in-Ok.heads _ _
    (Ok c.in-Ok-put_heads.field-0) c.in-Ok.ensures c.in-Ok-put_heads.ensures.content c.requires.blank

pub returns-in-Err-put_heads-clause-puts : goal.returns-in-Err-put_heads-clause-puts
returns-in-Err-put_heads-clause-puts g c =
    heads_put c.args.site.now c.args.digest.now c.in-Ok.heads _ _
    (Err c.in-Err-put_heads.field-0) c.in-Ok.ensures c.in-Err-put_heads.ensures.content c.requires.blank
