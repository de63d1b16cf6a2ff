use Rattle.std.proofs.Common.{refl, ap, subst}
use Rattle.cts_entry.specs.declared.what.What.{What}
use Rattle.serde_json.specs.Data.{null}
use Rattle.cts_api.specs.Answers.{appended, posts}
use Rattle.cts_api.specs.Saying.{gives}
use Rattle.cts_api.specs.Telling.{Tells}
use Rattle.cts_api.proofs.Sent.{refused_next}
use Rattle.cts_api.proofs.answering.appended.Goals as goal

pub returns-in-Ok : goal.returns-in-Ok
returns-in-Ok c h found t =
    let is = subst (λ r. Tells {A = What} {B = What} (λ w. w) r found) c.in-Ok.is t in
    (record { result = null; posting = posts c.in-Ok.what }, ap appended is, c.nothing.ensures, refl)

pub returns-in-Err : goal.returns-in-Err
returns-in-Err c h found t =
    let is = subst (λ r. Tells {A = What} {B = What} (λ w. w) r found) c.in-Err.is t in
    refused_next c.in-Err.refusal found (λ (w : What). gives (record { result = null; posting = posts w })) is
