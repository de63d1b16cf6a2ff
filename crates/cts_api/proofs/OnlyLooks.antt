-- What is looked up appends nothing.
use Rattle.std.proofs.Common.{◌≡◌, ℕ, ℤ, true, false, List, [], ◌∷◌, Option, Some, None, Result, Ok, Err, refl, sym, ◌∙◌, ap}
use Rattle.std.specs.Prelude.{IfOk, IfSome, option_map, option_and_then}
use Rattle.cts_base.specs.declared.memory.Memory.{Memory}
use Rattle.cts_cmd.specs.declared.request.Request.{Request}
use Rattle.cts_def.specs.declared.time.Time.{Time}
use Rattle.cts_entry.specs.declared.what.What.{What}
use Rattle.cts_rpc.specs.Requests.{IsOutcome, IsTrueOf, RefusedIdsAreWhole, bad_params, calls, has_fraction, not_json, not_request}
use Rattle.cts_rpc.specs.declared.call.Call.{Call}
use Rattle.cts_rpc.specs.declared.call.RpcFault.{RpcFault}
use Rattle.cts_rpc.specs.declared.call.RpcFault.TheVariants as fault
use Rattle.cts_table.specs.States.{Shown}
use Rattle.serde_json.specs.Data.{Data}
use Rattle.serde_json.specs.View.{items_view, view}
use Rattle.cts_methods.specs.declared.method.Method.{Method}
use Rattle.cts_methods.specs.declared.method.Method.TheVariants as method
use Rattle.cts_api.specs.declared.refusal.Refusal.{Refusal}
use Rattle.cts_api.specs.declared.sending.Done as code
use Rattle.cts_api.specs.declared.looked.Look.{Look}
use Rattle.cts_api.specs.declared.looked.Look.TheVariants.{Text, Appends}
use Rattle.cts_api.specs.Answers.{Done, answer, posts_nothing, told, value_answer, packet_answer, received_answer, sent_answer, limits_answer, limits_set_answer, out_of_limits_answer, events_answer, interfaces_answer, interface_answer}
use Rattle.cts_api.specs.Saying.{Said, refused, gives}
use Rattle.cts_methods.specs.Asking.{Asking, asks_value, asks_packet, asks_received, asks_sent, sends, asks_limits, sets_limits, enables, asks_set, chooses_set, asks_out_of_limits, asks_events, asks_interfaces, asks_interface, injects, stops}
use Rattle.cts_methods.specs.Kinds.{listed, item_in, kind_in, may_be, natural_in, names_first, nothing, packet_first, packet_in, single, text_in}
use Rattle.cts_api.specs.Looks.{AppendsNone, changes, Looks, LooksCall, may_change, only_looks}
use Rattle.cts_methods.specs.Methods.{method_named, params_of}
use Rattle.cts_api.specs.Points.{Point}
use Rattle.cts_api.specs.Replies.{IsReplyOf, IsTextFor, posted, refusal_to}
use Rattle.cts_api.specs.Responding.{TellsFault}
use Rattle.cts_api.specs.Settling.{HasAnswered}
use Rattle.cts_api.specs.Telling.{listed as whats_of, point}
use Rattle.cts_api.proofs.Settled.{refused_so, replied_call, replied_no_call}

and_then : {A B : Type 0} (P : B → Type 0) (f : A → Option B) (o : Option A) → ((a : A) → IfSome (f a) P) → IfSome (option_and_then f o) P
and_then P f None all = tt
and_then P f (Some a) all = all a

mapped : {A B : Type 0} (P : B → Type 0) (f : A → B) (o : Option A) → ((a : A) → P (f a)) → IfSome (option_map f o) P
mapped P f None all = tt
mapped P f (Some a) all = all a

abbrev IsLook : Asking → Type 0
IsLook a = only_looks a ≡ true

alone_looks : (a : Asking) (ds : List Data) → IsLook a → IfSome (nothing a ds) IsLook
alone_looks a [] is = is
alone_looks a (d ∷ ds) is = tt

-- what the params of a method ask that appends nothing is a look
pub params_look : (m : Method) (ds : List Data) → changes m ≡ false → IfSome (params_of m ds) IsLook
params_look (method.Value kind) ds off = mapped IsLook _ (item_in ds) (λ i. refl)
params_look method.Packet ds off = and_then IsLook _ (packet_first ds) (λ p. mapped IsLook _ (may_be kind_in p.1) (λ k. refl))
params_look method.Received ds off = mapped IsLook _ (packet_in ds) (λ p. refl)
params_look method.Sent ds off = mapped IsLook _ (packet_in ds) (λ p. refl)
params_look (method.Command range hazardous) ds off = absurd cc
params_look method.Limits ds off = and_then IsLook _ (names_first ds) (λ i. mapped IsLook _ (may_be text_in i.1) (λ s. refl))
params_look method.SetLimits ds off = absurd cc
params_look (method.Enable on) ds off = absurd cc
params_look method.Set ds off = alone_looks asks_set ds refl
params_look method.ChooseSet ds off = absurd cc
params_look method.OutOfLimits ds off = alone_looks asks_out_of_limits ds refl
params_look method.Events ds off = mapped IsLook _ (may_be natural_in ds) (λ n. refl)
params_look method.Interfaces ds off = alone_looks asks_interfaces ds refl
params_look method.Interface ds off = mapped IsLook _ (single text_in ds) (λ t. refl)
params_look method.Inject ds off = absurd cc
params_look method.Stop ds off = absurd cc

told_none : (x : Said Data) (d : Done) → told x ≡ gives d → d.posting ≡ posts_nothing
told_none (refused n message) d e = absurd (cc e)
told_none (gives v) d e = cc e

posts_none : (h : Point) (r : Option Request) (a : Asking) (d : Done) → only_looks a ≡ true → answer h r a ≡ gives d → d.posting ≡ posts_nothing
posts_none h r (asks_value kind name) d is e = told_none (value_answer h kind name) d e
posts_none h r (asks_packet p kind) d is e = told_none (packet_answer h p kind) d e
posts_none h r (asks_received p) d is e = told_none (received_answer h p) d e
posts_none h r (asks_sent p) d is e = told_none (sent_answer h p) d e
posts_none h r (sends k order) d is e = absurd cc
posts_none h r (asks_limits name set) d is e = told_none (limits_answer h name set) d e
posts_none h r (sets_limits name new) d is e = absurd cc
posts_none h r (enables on name) d is e = absurd cc
posts_none h r asks_set d is e = told_none (limits_set_answer h) d e
posts_none h r (chooses_set name) d is e = absurd cc
posts_none h r asks_out_of_limits d is e = told_none (out_of_limits_answer h) d e
posts_none h r (asks_events from) d is e = told_none (events_answer h from) d e
posts_none h r asks_interfaces d is e = told_none (interfaces_answer h) d e
posts_none h r (asks_interface name) d is e = told_none (interface_answer h name) d e
posts_none h r (injects name given) d is e = absurd cc
posts_none h r stops d is e = absurd cc

none_listed : (w : Option What) → whats_of w ≡ [] → w ≡ None
none_listed None e = refl
none_listed (Some what) e = absurd (cc e)

pub looks_none : (h : Point) (a : Asking) (said : Result code.Done Refusal) → only_looks a ≡ true → HasAnswered h a said → AppendsNone said
looks_none h a (Ok d) is has = none_listed d.what (sym has.2.3 ∙ ap (posted h) (posts_none h has.0 a has.2.0 is has.2.1))
looks_none h a (Err e) is has = tt

pub looked_refusal : (s : Shown) (c : Call) (n : ℤ) (message : List ℕ) (t : Option (List ℕ)) → may_change (method_named c.method) ≡ false
    → ((by : ℕ) (time : Time) → IsReplyOf (point s) by time (option_map view c.id) (listed (items_view c.params)) (method_named c.method) (refusal_to (option_map view c.id) n message))
    → IsTextFor (refusal_to (option_map view c.id) n message).response t → LooksCall s c (Text t)
looked_refusal s c n message t may is text = (may, λ by time. refused_so s by time c n message (Ok (record { text = t; appended = 0 })) (is by time) refl text)

pub looked_call : (s : Shown) (body : List ℕ) (c : Call) (x : Result Look Memory) → IsOutcome body (calls c.method (items_view c.params) (option_map view c.id)) → has_fraction (option_map view c.id) ≡ false
    → IfOk x (λ l. LooksCall s c l) → IfOk x (λ l. Looks s body l)
looked_call s body c (Ok (Text t)) out fine l =
    ((calls c.method (items_view c.params) (option_map view c.id), out, l.0), λ by time. replied_call s s by time body c (Ok (record { text = t; appended = 0 })) out fine (l.1 by time))
looked_call s body c (Ok Appends) out fine l = (calls c.method (items_view c.params) (option_map view c.id), out, l)
looked_call s body c (Err e) out fine l = tt

pub looked_fault : (s : Shown) (body : List ℕ) (f : RpcFault) (t : Option (List ℕ)) → IsTrueOf body (Err f) → RefusedIdsAreWhole → TellsFault f t → Looks s body (Text t)
looked_fault s body fault.ParseError t so whole text = ((not_json, so, refl), λ by time. replied_no_call s by time body fault.ParseError (Ok (record { text = t; appended = 0 })) so whole refl text)
looked_fault s body fault.InvalidRequest t so whole text = ((not_request, so, refl), λ by time. replied_no_call s by time body fault.InvalidRequest (Ok (record { text = t; appended = 0 })) so whole refl text)
looked_fault s body (fault.InvalidParams id) t so whole text = ((bad_params (option_map view id), so, refl), λ by time. replied_no_call s by time body (fault.InvalidParams id) (Ok (record { text = t; appended = 0 })) so whole refl text)
looked_fault s body fault.Memory t so whole text = absurd text
