use Rattle.std.proofs.Common.{refl, ap, subst}
use Rattle.serde_json.specs.Data.{Data}
use Rattle.serde_json.specs.View.{view}
use Rattle.cts_api.specs.Answers.{posts_nothing, told}
use Rattle.cts_api.specs.Saying.{gives}
use Rattle.cts_api.specs.Telling.{Tells}
use Rattle.cts_api.proofs.Sent.{refused_next}
use Rattle.cts_api.proofs.answering.told.Goals as goal

pub returns-in-Ok : goal.returns-in-Ok
returns-in-Ok c h found t =
    let is = subst (λ r. Tells view r found) c.in-Ok.is t in
    (record { result = view c.in-Ok.result; posting = posts_nothing }, ap told is, refl, refl)

pub returns-in-Err : goal.returns-in-Err
returns-in-Err c h found t =
    let is = subst (λ r. Tells view r found) c.in-Err.is t in
    refused_next c.in-Err.refusal found (λ (d : Data). gives (record { result = d; posting = posts_nothing })) is
