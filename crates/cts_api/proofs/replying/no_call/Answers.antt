use Rattle.std.proofs.Common.{rules, ◌≡◌, codes, Option, sym, subst}
use Rattle.std.specs.Prelude.{IfOk, option_map}
use Rattle.cts_rpc.specs.declared.call.RpcFault.{RpcFault}
use Rattle.serde_json.specs.Data.{Data}
use Rattle.serde_json.specs.View.{view}
use Rattle.cts_api.specs.declared.response.Code.TheVariants.{InvalidParams}
use Rattle.cts_api.specs.Replies.{IsTextFor, error, respond}
use Rattle.cts_api.specs.Responding.{TellsFault, code_number}
use Rattle.cts_api.proofs.replying.no_call.Goals as goal

pub returns-in-ParseError-clause-text : goal.returns-in-ParseError-clause-text
returns-in-ParseError-clause-text c =
    let r = c.error_without_id.result in
    subst (λ (f : RpcFault). IfOk r (λ a. TellsFault f a.text)) (sym c.in-ParseError.is) c.error_without_id.ensures.text

pub returns-in-InvalidRequest-clause-text : goal.returns-in-InvalidRequest-clause-text
returns-in-InvalidRequest-clause-text c =
    let r = c.error_without_id-in-InvalidRequest.result in
    subst (λ (f : RpcFault). IfOk r (λ a. TellsFault f a.text)) (sym c.in-InvalidRequest.is) c.error_without_id-in-InvalidRequest.ensures.text

pub returns-in-InvalidParams-clause-text : goal.returns-in-InvalidParams-clause-text
returns-in-InvalidParams-clause-text c =
    let to : option_map (λ i. view i.now) c.as_ref.result ≡ option_map view c.in-InvalidParams.id = search rules in
    let told = subst (λ (i : Option Data). IfOk c.error_answer.result (λ a. IsTextFor (respond i (error (code_number InvalidParams) (codes "Invalid params"))) a.text)) to c.error_answer.ensures.text in
    subst (λ (f : RpcFault). IfOk c.error_answer.result (λ a. TellsFault f a.text)) (sym c.in-InvalidParams.is) told
