use Rattle.std.proofs.Common.{rules, Err, subst, sym}
use Rattle.std.specs.Prelude.{option_map}
use Rattle.cts_rpc.specs.Requests.{IsOutcome, IsTrueOf, calls}
use Rattle.serde_json.specs.View.{items_view, view}
use Rattle.cts_api.specs.Replied.{Replied}
use Rattle.cts_api.proofs.Settled.{replied_call, replied_no_call}
use Rattle.cts_api.proofs.replying.reply.Goals as goal

pub returns-in-Ok : goal.returns-in-Ok
returns-in-Ok c =
    let call = c.in-Ok.call in
    let out : IsOutcome c.args.body.now (calls call.method (items_view call.params) (option_map view call.id)) = search rules in
    let said = replied_call c.args.hall.now c.answer.new.hall c.args.by c.args.time c.args.body.now call c.answer.result out (c.calls_are_whole.ensures.calls c.args.body.now call.method (items_view call.params) (option_map view call.id) out).1 c.answer.ensures.answered in
    record { replied = subst (λ x. Replied c.args.hall.now c.args.by c.args.time c.args.body.now x c.answer.new.hall) (sym c.before_drop.ensures) said }

pub returns-in-Err : goal.returns-in-Err
returns-in-Err c =
    let so : IsTrueOf c.args.body.now (Err c.in-Err.fault) = search rules in
    let said = replied_no_call c.args.hall.now c.args.by c.args.time c.args.body.now c.in-Err.fault c.no_call.result so c.calls_are_whole.ensures.refused c.no_call.ensures.none c.no_call.ensures.text in
    record { replied = subst (λ x. Replied c.args.hall.now c.args.by c.args.time c.args.body.now x c.args.hall.now) (sym c.before_drop-in-Err.ensures) said }
