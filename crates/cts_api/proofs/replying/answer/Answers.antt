use Rattle.std.proofs.Common.{rules, ◌≡◌, ◌≤◌, ◌∙◌, length, codes, pos, map, List, Option, Some, None, ap, subst}
use Rattle.std.specs.Prelude.{IfOk, neg_ℤ, option_map}
use Rattle.cts_def.specs.Most.{most_sets}
use Rattle.serde_json.specs.Data.{Data}
use Rattle.serde_json.specs.View.{view}
use Rattle.cts_api.specs.declared.response.Code.TheVariants.{MethodNotFound, InvalidParams}
use Rattle.cts_methods.specs.Methods.{method_named, params_of}
use Rattle.cts_api.specs.Replies.{IsTextFor, error, respond}
use Rattle.cts_api.specs.Responding.{code_number}
use Rattle.cts_methods.specs.Seen.{asking_data}
use Rattle.cts_api.specs.Settling.{Ends, HasAnswered, IsSoundAsking, LimitsPersist}
use Rattle.cts_api.specs.Telling.{point}
use Rattle.cts_api.proofs.MaySay.{may_say, params_persist, some_of}
use Rattle.cts_api.proofs.Settled.{all_listed, bad_params_of, ended, may_end, not_found_of, refused_so}
use Rattle.cts_api.proofs.replying.answer.Goals as goal

pub returns-in_default : goal.returns-in_default
returns-in_default c =
    let call = c.args.call.now in
    let id : option_map (λ i. view i.now) c.as_ref-id.result ≡ option_map view call.id = search rules in
    let none : method_named call.method ≡ None = search rules in
    let told = subst (λ (i : Option Data). IfOk c.error_answer.result (λ a. IsTextFor (respond i (error (code_number MethodNotFound) (codes "Method not found"))) a.text)) id c.error_answer.ensures.text in
    record { answered = refused_so c.args.hall.now c.args.by c.args.time call (neg_ℤ (pos 32601)) (codes "Method not found") c.error_answer.result (not_found_of (point c.args.hall.now) c.args.by c.args.time (option_map view call.id) _ (method_named call.method) none) c.error_answer.ensures.none told }

pub returns-in_default-read_asking : goal.returns-in_default-read_asking
returns-in_default-read_asking c =
    let call = c.args.call.now in
    let id : option_map (λ i. view i.now) c.as_ref-id.result ≡ option_map view call.id = search rules in
    let named : method_named call.method ≡ Some c.in-Some.method = search rules in
    let asks : params_of c.in-Some.method (map view call.params) ≡ None = search rules in
    let told = subst (λ (i : Option Data). IfOk c.error_answer-in_default-read_asking.result (λ a. IsTextFor (respond i (error (code_number InvalidParams) (codes "Invalid params"))) a.text)) id c.error_answer-in_default-read_asking.ensures.text in
    record {
      answered = refused_so c.args.hall.now c.args.by c.args.time call (neg_ℤ (pos 32602)) (codes "Invalid params") c.error_answer-in_default-read_asking.result
          (bad_params_of (point c.args.hall.now) c.args.by c.args.time (option_map view call.id) _ (method_named call.method) c.in-Some.method named (ap (params_of c.in-Some.method) (all_listed (map view call.params)) ∙ asks))
          c.error_answer-in_default-read_asking.ensures.none told;
    }

pub ended-requires : goal.ended-requires
ended-requires c =
    let s = c.args.hall.now in
    let asking = asking_data c.in-Some-read_asking.asking in
    let params : List Data = map view c.args.call.now.params in
    let named : method_named c.args.call.now.method ≡ Some c.in-Some.method = search rules in
    let asks : params_of c.in-Some.method params ≡ Some asking = search rules in
    let sound = some_of IsSoundAsking (params_of c.in-Some.method params) asking (params_persist c.in-Some.method params) asks in
    let few : length s.basis.site.definitions.set_names ≤ most_sets = search rules in
    record {
      may = may_end s c.args.by c.args.time c.args.call.now c.in-Some.method asking named asks c.asked-said.result
          (λ d is. may_say s c.args.by c.args.time asking d c.is_kept.ensures.kept few c.requires.desk c.requires.active sound
          (subst (λ x. LimitsPersist asking x) is c.asked-said.ensures.persistent) (subst (λ x. HasAnswered (point s) asking x) is c.asked-said.ensures.answered))
          c.asked-said.ensures.answered;
    }

pub returns : goal.returns
returns c =
    let call = c.args.call.now in
    let asking = asking_data c.in-Some-read_asking.asking in
    let id : option_map (λ i. view i.now) c.as_ref-id.result ≡ option_map view call.id = search rules in
    let named : method_named call.method ≡ Some c.in-Some.method = search rules in
    let asks : params_of c.in-Some.method (map view call.params) ≡ Some asking = search rules in
    let ends = subst (λ (i : Option Data). Ends c.args.hall.now c.args.by c.args.time i c.asked-said.result c.ended.result c.ended.new.hall) id c.ended.ensures in
    record { answered = ended c.args.hall.now c.args.by c.args.time call c.in-Some.method asking named asks c.asked-said.result c.ended.result c.ended.new.hall c.asked-said.ensures.answered ends }
