-- What is answered and settled is the reply.
use Rattle.std.proofs.Common.{◌≡◌, ℕ, ℤ, pos, false, List, [], ◌∷◌, map, Option, Some, None, Result, Ok, Err, refl, sym, ◌∙◌, ap, subst, append-nil, codes}
use Rattle.std.specs.Prelude.{IfOk, neg_ℤ, option_map}
use Rattle.cts_base.specs.declared.memory.Memory.{Memory}
use Rattle.cts_cmd.specs.declared.request.Request.{Request}
use Rattle.cts_def.specs.declared.time.Time.{Time}
use Rattle.cts_entry.specs.declared.what.What.{What}
use Rattle.cts_rpc.specs.Requests.{IsOutcome, IsTrueOf, Outcome, RefusedIdsAreWhole, bad_params, calls, has_fraction, not_json, not_request}
use Rattle.cts_rpc.specs.declared.call.Call.{Call}
use Rattle.cts_rpc.specs.declared.call.RpcFault.{RpcFault}
use Rattle.cts_rpc.specs.declared.call.RpcFault.TheVariants as fault
use Rattle.cts_table.specs.States.{Shown}
use Rattle.serde_json.specs.Data.{Data, null}
use Rattle.serde_json.specs.View.{items_of, items_view, view}
use Rattle.cts_methods.specs.declared.method.Method.{Method}
use Rattle.cts_api.specs.declared.refusal.Refusal.{Refusal}
use Rattle.cts_api.specs.declared.refusal.Refusal.TheVariants.{NoSuch, NotDone, BadParams, Memory as NoMemory}
use Rattle.cts_api.specs.declared.sending.Done as code
use Rattle.cts_api.specs.declared.settling.Answer as reply
use Rattle.cts_api.specs.Answers.{answer}
use Rattle.cts_methods.specs.Asking.{Asking}
use Rattle.cts_api.specs.Saying.{refused}
use Rattle.cts_methods.specs.Kinds.{listed}
use Rattle.cts_methods.specs.Methods.{method_named, params_of}
use Rattle.cts_api.specs.Points.{Point}
use Rattle.cts_api.specs.Replied.{Answered, Replied}
use Rattle.cts_api.specs.Replies.{HasRequest, IsReplyFor, IsReplyOf, IsReplyTo, IsTextFor, Reply, invalid_params, made, not_found, posted, refusal_to, reply_with, said_to}
use Rattle.cts_api.specs.Responding.{IsTold, RefusesWith, TellsFault}
use Rattle.cts_api.specs.Settling.{CanEnd, CanSayIt, Ends, HasAnswered, Settled}
use Rattle.cts_api.specs.Telling.{listed as whats_of, point}
use Rattle.cts_api.proofs.WholeReplies.{exact_text, refusal_whole, reply_whole}

-- ---- params

pub all_listed : (ds : List Data) → listed (items_of ds) ≡ ds
all_listed [] = refl
all_listed (d ∷ ds) = ap (λ (more : List Data). d ∷ more) (all_listed ds)

-- ---- the reply to a call

module _ (h : Point) (by : ℕ) (time : Time) (id : Option Data) (ds : List Data) (o : Option Method) where
  reply_of : (m : Method) (a : Asking) (r : Option Request) (x : Reply) → o ≡ Some m → params_of m ds ≡ Some a → HasRequest a r → x ≡ said_to h by time id (answer h r a) → IsReplyOf h by time id ds o x
  reply_of m a r x is asks has e =
      subst (λ (y : Option Method). IsReplyOf h by time id ds y x) (sym is) (subst (λ (y : Option Asking). IsReplyTo h by time id y x) (sym asks) (r, has, e))

  pub not_found_of : o ≡ None → IsReplyOf h by time id ds o (not_found id)
  not_found_of is = subst (λ (y : Option Method). IsReplyOf h by time id ds y (not_found id)) (sym is) refl

  pub bad_params_of : (m : Method) → o ≡ Some m → params_of m ds ≡ None → IsReplyOf h by time id ds o (invalid_params id)
  bad_params_of m is asks =
      subst (λ (y : Option Method). IsReplyOf h by time id ds y (invalid_params id)) (sym is) (subst (λ (y : Option Asking). IsReplyTo h by time id y (invalid_params id)) (sym asks) refl)

-- a refusal appends nothing
pub refused_so : (s : Shown) (by : ℕ) (time : Time) (c : Call) (n : ℤ) (message : List ℕ) (x : Result reply.Answer Memory) → let id = option_map view c.id in IsReplyOf (point s) by time id (listed (items_view c.params)) (method_named c.method) (refusal_to id n message)
    → IfOk x (λ a. a.appended ≡ 0) → IfOk x (λ a. IsTextFor (refusal_to id n message).response a.text) → Answered s by time c x s
refused_so s by time c n message (Err e) is none told = (refl, refl)
refused_so s by time c n message (Ok x) is none told = (refusal_to (option_map view c.id) n message, is, record { count = none; entries = sym (append-nil s.entries); basis = refl }, told)

module _ (s : Shown) (by : ℕ) (time : Time) (c : Call) (m : Method) (a : Asking) (named : method_named c.method ≡ Some m) (asks : params_of m (map view c.params) ≡ Some a) where
  abbrev h : Point
  h = point s

  abbrev id : Option Data
  id = option_map view c.id

  abbrev ds : List Data
  ds = listed (items_view c.params)

  asks_listed : params_of m ds ≡ Some a
  asks_listed = ap (params_of m) (all_listed (map view c.params)) ∙ asks

  -- what is said of it
  abbrev IsOf : Option Request → Reply → Type 0
  IsOf r x = HasRequest a r × (x ≡ said_to h by time id (answer h r a))

  of_call : (r : Option Request) (x : Reply) → IsOf r x → IsReplyOf h by time id ds (method_named c.method) x
  of_call r x is = reply_of h by time id ds (method_named c.method) m a r x named asks_listed is.0 is.1

  settled : (d : code.Done) (result : Result reply.Answer Memory) (new : Shown) → HasAnswered h a (Ok d) → Settled s by time id (view d.result) d.what result new → Answered s by time c result new
  settled d (Err e) new has t = t
  settled d (Ok x) new has t =
      let r = has.0 in
      let done = has.2.0 in
      let said : reply_with h id done.result (map (made by time) (posted h done.posting)) ≡ said_to h by time id (answer h r a) = ap (said_to h by time id) (sym has.2.1) in
      let same : reply_with h id (view d.result) (map (made by time) (whats_of d.what)) ≡ reply_with h id done.result (map (made by time) (posted h done.posting)) =
      ap (λ (v : Data). reply_with h id v (map (made by time) (whats_of d.what))) has.2.2 ∙ ap (λ (whats : List What). reply_with h id done.result (map (made by time) whats)) (sym has.2.3) in
      (reply_with h id (view d.result) (map (made by time) (whats_of d.what)), of_call r _ (has.1, same ∙ said), t.1, t.0)

  refused_of : (r : Option Request) (n : ℤ) (message : List ℕ) (x : Result reply.Answer Memory) → HasRequest a r → answer h r a ≡ refused n message → IfOk x (λ y. y.appended ≡ 0) → IfOk x (λ y. IsTextFor (refusal_to id n message).response y.text) → Answered s by time c x s
  refused_of r n message x has is none told = refused_so s by time c n message x (of_call r _ (has, ap (said_to h by time id) (sym is))) none told

  refused_call : (e : Refusal) (x : Result reply.Answer Memory) → HasAnswered h a (Err e) → IfOk x (λ y. IsTold e) → IfOk x (λ y. y.appended ≡ 0) → IfOk x (λ y. RefusesWith id e y.text) → Answered s by time c x s
  refused_call (NoSuch message) x has is none told = refused_of has.0 _ message.now x has.1 has.2 none told
  refused_call (NotDone message) x has is none told = refused_of has.0 _ message x has.1 has.2 none told
  refused_call BadParams x has is none told = refused_of has.0 _ (codes "Invalid params") x has.1 has.2 none told
  refused_call NoMemory (Ok x) has is none told = absurd told
  refused_call NoMemory (Err e) has is none told = (refl, refl)

  pub may_end : (said : Result code.Done Refusal) → ((d : code.Done) → said ≡ Ok d → CanSayIt s by time d.what) → HasAnswered h a said → CanEnd s by time said
  may_end (Ok d) say has = say d refl
  may_end (Err e) say has = tt

  pub ended : (said : Result code.Done Refusal) (result : Result reply.Answer Memory) (new : Shown) → HasAnswered h a said → Ends s by time id said result new → Answered s by time c result new
  ended (Ok d) result new has ends = settled d result new has ends
  ended (Err e) result new has ends = subst (λ (n : Shown). Answered s by time c result n) (sym ends.same) (refused_call e result has ends.told ends.none ends.text)

-- ---- the reply to a body

pub replied_call : (s new : Shown) (by : ℕ) (time : Time) (body : List ℕ) (c : Call) (result : Result reply.Answer Memory) → IsOutcome body (calls c.method (items_view c.params) (option_map view c.id)) → has_fraction (option_map view c.id) ≡ false
    → Answered s by time c result new → Replied s by time body result new
replied_call s new by time body c (Ok x) out fine (r, is, appends, text) =
    (r, (calls c.method (items_view c.params) (option_map view c.id), out, is), (exact_text r.response x.text (reply_whole (point s) by time (option_map view c.id) fine (listed (items_view c.params)) (method_named c.method) r is) text, appends, text))
replied_call s new by time body c (Err e) out fine unchanged = unchanged

pub replied_refusal : (s : Shown) (by : ℕ) (time : Time) (body : List ℕ) (o : Outcome) (to : Option Data) (n : ℤ) (message : List ℕ) (x : Result reply.Answer Memory) → IsOutcome body o → IsReplyFor (point s) by time o (refusal_to to n message)
    → has_fraction to ≡ false → IfOk x (λ a. a.appended ≡ 0) → IfOk x (λ a. IsTextFor (refusal_to to n message).response a.text) → Replied s by time body x s
replied_refusal s by time body o to n message (Err e) out is fine none text = (refl, refl)
replied_refusal s by time body o to n message (Ok x) out is fine none text =
    (refusal_to to n message, (o, out, is), (exact_text (refusal_to to n message).response x.text (refusal_whole to n message fine) text, record { count = none; entries = sym (append-nil s.entries); basis = refl }, text))

pub replied_no_call : (s : Shown) (by : ℕ) (time : Time) (body : List ℕ) (f : RpcFault) (x : Result reply.Answer Memory) → IsTrueOf body (Err f) → RefusedIdsAreWhole
    → IfOk x (λ a. a.appended ≡ 0) → IfOk x (λ a. TellsFault f a.text) → Replied s by time body x s
replied_no_call s by time body f (Err e) so whole none text = (refl, refl)
replied_no_call s by time body fault.ParseError (Ok x) so whole none text = replied_refusal s by time body not_json (Some null) (neg_ℤ (pos 32700)) (codes "Parse error") (Ok x) so refl refl none text
replied_no_call s by time body fault.InvalidRequest (Ok x) so whole none text = replied_refusal s by time body not_request (Some null) (neg_ℤ (pos 32600)) (codes "Invalid Request") (Ok x) so refl refl none text
replied_no_call s by time body (fault.InvalidParams id) (Ok x) so whole none text =
    let to = option_map view id in
    replied_refusal s by time body (bad_params to) to (neg_ℤ (pos 32602)) (codes "Invalid params") (Ok x) so refl (whole body to so) none text
replied_no_call s by time body fault.Memory (Ok x) so whole none text = absurd text
