use Rattle.std.proofs.Common.{rules, Err, subst, sym}
use Rattle.std.specs.Prelude.{IfOk, option_map}
use Rattle.cts_rpc.specs.Requests.{IsOutcome, IsTrueOf, calls}
use Rattle.serde_json.specs.View.{items_view, view}
use Rattle.cts_api.specs.Looks.{Looks}
use Rattle.cts_api.proofs.OnlyLooks.{looked_call, looked_fault}
use Rattle.cts_api.proofs.looking.look.Goals as goal

pub returns-in-Ok : goal.returns-in-Ok
returns-in-Ok c =
    let call = c.in-Ok.call in
    let out : IsOutcome c.args.body.now (calls call.method (items_view call.params) (option_map view call.id)) = search rules in
    let fine = (c.calls_are_whole.ensures.calls c.args.body.now call.method (items_view call.params) (option_map view call.id) out).1 in
    subst (λ x. IfOk x (λ l. Looks c.args.hall.now c.args.body.now l)) (sym c.before_drop.ensures) (looked_call c.args.hall.now c.args.body.now call c.look_call.result out fine c.look_call.ensures)

pub returns-in_ok-answer-in-Err : goal.returns-in_ok-answer-in-Err
returns-in_ok-answer-in-Err c =
    let so : IsTrueOf c.args.body.now (Err c.in-Err.fault) = search rules in
    let looks = looked_fault c.args.hall.now c.args.body.now c.in-Err.fault c.in_ok-answer-in-Err.answer.text so c.calls_are_whole.ensures.refused c.in_ok-answer-in-Err.ensures.text in
    subst (λ x. IfOk x (λ l. Looks c.args.hall.now c.args.body.now l)) (sym c.before_drop-in-Err.ensures) (subst (Looks c.args.hall.now c.args.body.now) (sym c.text_of.ensures) looks)
