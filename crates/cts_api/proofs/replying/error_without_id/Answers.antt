use Rattle.std.proofs.Common.{◌≡◌, Option, Some, ap, subst}
use Rattle.std.specs.Prelude.{IfOk}
use Rattle.serde_json.specs.Data.{Data, null}
use Rattle.serde_json.specs.View.{view}
use Rattle.cts_api.specs.Replies.{IsTextFor, error, respond}
use Rattle.cts_api.specs.Responding.{code_number}
use Rattle.cts_api.proofs.replying.error_without_id.Goals as goal

pub returns-clause-text : goal.returns-clause-text
returns-clause-text c =
    let to : Some (view c.nothing.result) ≡ Some null = ap (λ (d : Data). Some d) c.nothing.ensures in
    subst (λ (i : Option Data). IfOk c.error_answer.result (λ a. IsTextFor (respond i (error (code_number c.args.code) c.args.message.now)) a.text)) to c.error_answer.ensures.text
