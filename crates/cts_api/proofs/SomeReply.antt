-- Each body has a reply at each point.
use Rattle.std.proofs.Common.{◌≡◌, ℕ, Bool, true, false, List, Option, Some, None, refl, inl, inr, ◌⊎◌}
use Rattle.std.specs.Str.{is_utf8}
use Rattle.std.proofs.lemmas.Str.{IsUtf8-from_is_utf8, is_utf8-from_IsUtf8}
use Rattle.cts_cmd.specs.Laws.{IsFault, IsRequest}
use Rattle.cts_cmd.specs.declared.request.Request.{Request}
use Rattle.cts_cmd.proofs.Exact.{one_way}
use Rattle.cts_cmd.proofs.Total.{read_or_fails}
use Rattle.cts_def.specs.declared.time.Time.{Time}
use Rattle.cts_rpc.specs.Requests.{Outcome, not_json, not_request, bad_params, calls, asked, IsOutcome}
use Rattle.serde_json.specs.Data.{Data}
use Rattle.serde_json.specs.Read.{read}
use Rattle.cts_methods.specs.Asking.{Order, in_text, in_parts, Asking, asks_value, asks_packet, asks_received, asks_sent, sends, asks_limits, sets_limits, enables, asks_set, chooses_set, asks_out_of_limits, asks_events, asks_interfaces, asks_interface, injects, stops}
use Rattle.cts_api.specs.Answers.{answer}
use Rattle.cts_methods.specs.Kinds.{listed}
use Rattle.cts_methods.specs.Methods.{params_of, method_named}
use Rattle.cts_methods.specs.declared.method.Method.{Method}
use Rattle.cts_api.specs.Points.{Point}
use Rattle.cts_api.specs.Replies.{Reply, IsRequested, HasRequest, IsReplyTo, IsReplyOf, IsReplyFor, IsReply, said_to, invalid_params, not_found, parse_error, invalid_request}

-- ---- whether a body is JSON

outcome_by : (body : List ℕ) (text : Bool) (value : Option Data) → is_utf8 body ≡ text → read body ≡ value → (o : Outcome) × IsOutcome body o
outcome_by body false value t v = (not_json, inr (λ d json. (let was = is_utf8-from_IsUtf8 body json.0 in cc), refl))
outcome_by body true None t v = (not_json, inr (λ d json. (let was = json.1 in cc), refl))
outcome_by body true (Some d) t v = (asked d, inl (d, (IsUtf8-from_is_utf8 body t, v), refl))

outcome_there : (body : List ℕ) → (o : Outcome) × IsOutcome body o
outcome_there body = outcome_by body (is_utf8 body) (read body) refl refl

-- ---- what a command's text asks

text_there : (text : List ℕ) → IsRequest text ⊎ IsFault text → (r : Option Request) × IsRequested (in_text text) r
text_there text (inl is) = (Some is.0, inl (is.0, is.1, refl))
text_there text (inr fault) = (None, inr (λ r reads. (one_way text).either r fault.0 fault.1 reads fault.2, refl))

requested_there : (o : Order) → (r : Option Request) × IsRequested o r
requested_there (in_parts names _) = (_, refl)
requested_there (in_text text) = text_there text (read_or_fails text)

request_there : (asking : Asking) → (r : Option Request) × HasRequest asking r
request_there (asks_value kind name) = (None, refl)
request_there (asks_packet p kind) = (None, refl)
request_there (asks_received p) = (None, refl)
request_there (asks_sent p) = (None, refl)
request_there (sends k order) = requested_there order
request_there (asks_limits name set) = (None, refl)
request_there (sets_limits name new) = (None, refl)
request_there (enables on name) = (None, refl)
request_there asks_set = (None, refl)
request_there (chooses_set text) = (None, refl)
request_there asks_out_of_limits = (None, refl)
request_there (asks_events from) = (None, refl)
request_there asks_interfaces = (None, refl)
request_there (asks_interface name) = (None, refl)
request_there (injects name _) = (None, refl)
request_there stops = (None, refl)

-- ---- the reply

module _ (h : Point) (by : ℕ) (time : Time) where
  reply_to : (id : Option Data) (asking : Option Asking) → (a : Reply) × IsReplyTo h by time id asking a
  reply_to id None = (invalid_params id, refl)
  reply_to id (Some asking) = let r = request_there asking in (said_to h by time id (answer h r.0 asking), (r.0, r.1, refl))

  reply_of : (id : Option Data) (params : List Data) (m : Option Method) → (a : Reply) × IsReplyOf h by time id params m a
  reply_of id params None = (not_found id, refl)
  reply_of id params (Some m) = reply_to id (params_of m params)

  reply_for : (o : Outcome) → (a : Reply) × IsReplyFor h by time o a
  reply_for not_json = (parse_error, refl)
  reply_for not_request = (invalid_request, refl)
  reply_for (bad_params id) = (invalid_params id, refl)
  reply_for (calls method params id) = reply_of id (listed params) (method_named method)

  pub some_reply : (body : List ℕ) → (a : Reply) × IsReply h by time body a
  some_reply body = let o = outcome_there body in let a = reply_for o.0 in (a.0, (o.0, o.1, a.1))
