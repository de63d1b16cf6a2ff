use Rattle.std.proofs.Common.{refl, ap, subst}
use Rattle.cts_entry.specs.declared.what.What.{What}
use Rattle.serde_json.specs.Data.{null}
use Rattle.cts_api.specs.Answers.{appended, posts}
use Rattle.cts_api.specs.Telling.{Finds}
use Rattle.cts_api.proofs.answering.switched.Goals as goal

pub returns-in-Ok-clause-told : goal.returns-in-Ok-clause-told
returns-in-Ok-clause-told c h what t =
    let is = subst (λ r. Finds {A = What} {B = What} (λ w. w) r what) c.in-Ok.is t in
    (record { result = null; posting = posts c.in-Ok.what }, ap appended is, c.nothing.ensures, refl)

pub returns-in-Err-clause-told : goal.returns-in-Err-clause-told
returns-in-Err-clause-told c h what t = ap appended (subst (λ r. Finds {A = What} {B = What} (λ w. w) r what) c.in-Err.is t)
