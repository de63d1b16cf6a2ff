use Rattle.std.proofs.Common.{rules, ◌≡◌, ◌∙◌, ℕ, false, true, List, Option, Some, None, Ok, Result, map, codes, pos, ap, subst, sym}
use Rattle.std.specs.Prelude.{neg_ℤ, option_map}
use Rattle.cts_base.specs.declared.memory.Memory.{Memory}
use Rattle.serde_json.specs.Data.{Data}
use Rattle.serde_json.specs.View.{view}
use Rattle.cts_api.specs.declared.response.Code.TheVariants.{MethodNotFound, InvalidParams}
use Rattle.cts_api.specs.declared.settling.Answer.{Answer}
use Rattle.cts_api.specs.Looks.{LooksCall, changes, may_change, only_looks}
use Rattle.cts_methods.specs.Methods.{method_named, params_of}
use Rattle.cts_api.specs.Replies.{IsTextFor, error, respond}
use Rattle.cts_api.specs.Responding.{code_number}
use Rattle.cts_methods.specs.Seen.{asking_data}
use Rattle.cts_api.specs.Settling.{Ends}
use Rattle.cts_api.specs.Telling.{point}
use Rattle.cts_api.proofs.OnlyLooks.{looked_refusal, looks_none, params_look}
use Rattle.cts_api.proofs.MaySay.{some_of}
use Rattle.cts_api.proofs.Settled.{all_listed, bad_params_of, ended, not_found_of}
use Rattle.cts_api.proofs.looking.look_call.Goals as goal

pub returns-in_default : goal.returns-in_default
returns-in_default c =
    let call = c.args.call.now in
    let id : option_map (λ i. view i.now) c.as_ref-id.result ≡ option_map view call.id = search rules in
    let none : method_named call.method ≡ None = search rules in
    let told = subst (λ (i : Option Data). IsTextFor (respond i (error (code_number MethodNotFound) (codes "Method not found"))) c.in_ok-answer.answer.text) id c.in_ok-answer.ensures.text in
    subst (LooksCall c.args.hall.now call) (sym c.text_of.ensures)
    (looked_refusal c.args.hall.now call (neg_ℤ (pos 32601)) (codes "Method not found") c.in_ok-answer.answer.text (ap may_change none) (λ by time. not_found_of (point c.args.hall.now) by time (option_map view call.id) _ (method_named call.method) none) told)

pub returns-in_default-read_asking : goal.returns-in_default-read_asking
returns-in_default-read_asking c =
    let call = c.args.call.now in
    let id : option_map (λ i. view i.now) c.as_ref-id.result ≡ option_map view call.id = search rules in
    let named : method_named call.method ≡ Some c.in-Some.method = search rules in
    let off : changes c.in-Some.method ≡ false = search rules in
    let asks : params_of c.in-Some.method (map view call.params) ≡ None = search rules in
    let told = subst (λ (i : Option Data). IsTextFor (respond i (error (code_number InvalidParams) (codes "Invalid params"))) c.in_ok-answer-2.answer.text) id c.in_ok-answer-2.ensures.text in
    subst (LooksCall c.args.hall.now call) (sym c.text_of-in_default-read_asking.ensures)
    (looked_refusal c.args.hall.now call (neg_ℤ (pos 32602)) (codes "Invalid params") c.in_ok-answer-2.answer.text (ap may_change named ∙ off)
    (λ by time. bad_params_of (point c.args.hall.now) by time (option_map view call.id) _ (method_named call.method) c.in-Some.method named (ap (params_of c.in-Some.method) (all_listed (map view call.params)) ∙ asks)) told)

pub look_ended-requires : goal.look_ended-requires
look_ended-requires c =
    let asking = asking_data c.in-Some-read_asking.asking in
    let params : List Data = map view c.args.call.now.params in
    let off : changes c.in-Some.method ≡ false = search rules in
    let asks : params_of c.in-Some.method params ≡ Some asking = search rules in
    let is : only_looks asking ≡ true = some_of (λ a. only_looks a ≡ true) (params_of c.in-Some.method params) asking (params_look c.in-Some.method params off) asks in
    record { none = looks_none (point c.args.hall.now) asking c.asked-said.result is c.asked-said.ensures.answered }

pub returns : goal.returns
returns c =
    let s = c.args.hall.now in
    let call = c.args.call.now in
    let asking = asking_data c.in-Some-read_asking.asking in
    let id : option_map (λ i. view i.now) c.as_ref-id.result ≡ option_map view call.id = search rules in
    let named : method_named call.method ≡ Some c.in-Some.method = search rules in
    let off : changes c.in-Some.method ≡ false = search rules in
    let asks : params_of c.in-Some.method (map view call.params) ≡ Some asking = search rules in
    let answered : Answer = c.in_ok-answer-3.answer in
    let same : answered ≡ record { text = answered.text; appended = 0 } = ap (λ (n : ℕ). let a : Answer = record { text = answered.text; appended = n } in a) c.in_ok-answer-3.ensures.none in
    subst (LooksCall s call) (sym c.text_of-2.ensures) (
      ap may_change named ∙ off,
      λ by time.
          let x : Result Answer Memory = Ok (record { text = answered.text; appended = 0 }) in
          let ends = subst (λ (i : Option Data). Ends s by time i c.asked-said.result x s) id (subst (λ (a : Answer). Ends s by time (option_map (λ i. view i.now) c.as_ref-id.result) c.asked-said.result (Ok a) s) same (c.in_ok-answer-3.ensures.ends by time)) in
          ended s by time call c.in-Some.method asking named asks c.asked-said.result x s c.asked-said.ensures.answered ends,
    )
