use Rattle.std.proofs.Common.{refl, ap, subst}
use Rattle.serde_json.specs.View.{view}
use Rattle.cts_api.specs.Answers.{posts_nothing, told}
use Rattle.cts_api.specs.Telling.{Finds}
use Rattle.cts_api.proofs.answering.counted.Goals as goal

pub returns-in-Ok-clause-told : goal.returns-in-Ok-clause-told
returns-in-Ok-clause-told c h said t =
    let is = subst (λ r. Finds view r said) c.in-Ok.is t in
    (record { result = view c.in-Ok.result; posting = posts_nothing }, ap told is, refl, refl)

pub returns-in-Err-clause-told : goal.returns-in-Err-clause-told
returns-in-Err-clause-told c h said t = ap told (subst (λ r. Finds view r said) c.in-Err.is t)
