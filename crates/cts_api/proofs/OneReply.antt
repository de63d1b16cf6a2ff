-- A body has one reply at a point.
use Rattle.std.proofs.Common.{◌≡◌, ℕ, List, Option, Some, None, inl, inr, sym, ap, subst, ◌∙◌}
use Rattle.cts_cmd.proofs.Exact.{request_unique}
use Rattle.cts_cmd.specs.declared.request.Request.{Request}
use Rattle.cts_def.specs.declared.time.Time.{Time}
use Rattle.cts_rpc.specs.Requests.{Outcome, not_json, not_request, bad_params, calls}
use Rattle.cts_rpc.proofs.Whole.{outcome_is_one}
use Rattle.serde_json.specs.Data.{Data}
use Rattle.cts_methods.specs.Asking.{Order, in_text, in_parts, Asking, asks_value, asks_packet, asks_received, asks_sent, sends, asks_limits, sets_limits, enables, asks_set, chooses_set, asks_out_of_limits, asks_events, asks_interfaces, asks_interface, injects, stops}
use Rattle.cts_api.specs.Answers.{answer}
use Rattle.cts_methods.specs.Kinds.{listed}
use Rattle.cts_methods.specs.Methods.{params_of, method_named}
use Rattle.cts_methods.specs.declared.method.Method.{Method}
use Rattle.cts_api.specs.Points.{Point}
use Rattle.cts_api.specs.Replies.{Reply, IsRequested, HasRequest, IsReplyTo, IsReplyOf, IsReplyFor, IsReply, said_to}

pub requested_one : (o : Order) (a b : Option Request) → IsRequested o a → IsRequested o b → a ≡ b
requested_one (in_parts c _) a b x y = x ∙ sym y
requested_one (in_text text) a b (inl (r, reads, x)) (inl (s, also, y)) = x ∙ (ap (λ (q : Request). Some q) (request_unique text r s reads also) ∙ sym y)
requested_one (in_text text) a b (inl (r, reads, x)) (inr (none, y)) = absurd (none r reads)
requested_one (in_text text) a b (inr (none, x)) (inl (s, also, y)) = absurd (none s also)
requested_one (in_text text) a b (inr (none, x)) (inr (nor, y)) = x ∙ sym y

request_one : (asking : Asking) (a b : Option Request) → HasRequest asking a → HasRequest asking b → a ≡ b
request_one (asks_value kind name) a b x y = x ∙ sym y
request_one (asks_packet p kind) a b x y = x ∙ sym y
request_one (asks_received p) a b x y = x ∙ sym y
request_one (asks_sent p) a b x y = x ∙ sym y
request_one (sends k order) a b x y = requested_one order a b x y
request_one (asks_limits name set) a b x y = x ∙ sym y
request_one (sets_limits name new) a b x y = x ∙ sym y
request_one (enables on name) a b x y = x ∙ sym y
request_one asks_set a b x y = x ∙ sym y
request_one (chooses_set text) a b x y = x ∙ sym y
request_one asks_out_of_limits a b x y = x ∙ sym y
request_one (asks_events from) a b x y = x ∙ sym y
request_one asks_interfaces a b x y = x ∙ sym y
request_one (asks_interface name) a b x y = x ∙ sym y
request_one (injects name _) a b x y = x ∙ sym y
request_one stops a b x y = x ∙ sym y

asked_one : (h : Point) (by : ℕ) (time : Time) (id : Option Data) (asked : Option Asking) (a b : Reply) → IsReplyTo h by time id asked a → IsReplyTo h by time id asked b → a ≡ b
asked_one h by time id None a b x y = x ∙ sym y
asked_one h by time id (Some asking) a b (r, has, x) (s, also, y) =
    x ∙ (ap (λ (q : Option Request). said_to h by time id (answer h q asking)) (request_one asking r s has also) ∙ sym y)

method_one : (h : Point) (by : ℕ) (time : Time) (id : Option Data) (params : List Data) (m : Option Method) (a b : Reply) → IsReplyOf h by time id params m a → IsReplyOf h by time id params m b → a ≡ b
method_one h by time id params None a b x y = x ∙ sym y
method_one h by time id params (Some m) a b x y = asked_one h by time id (params_of m params) a b x y

outcome_one : (h : Point) (by : ℕ) (time : Time) (o : Outcome) (a b : Reply) → IsReplyFor h by time o a → IsReplyFor h by time o b → a ≡ b
outcome_one h by time not_json a b x y = x ∙ sym y
outcome_one h by time not_request a b x y = x ∙ sym y
outcome_one h by time (bad_params id) a b x y = x ∙ sym y
outcome_one h by time (calls method params id) a b x y = method_one h by time id (listed params) (method_named method) a b x y

pub reply_one : (h : Point) (by : ℕ) (time : Time) (body : List ℕ) (a b : Reply) → IsReply h by time body a → IsReply h by time body b → a ≡ b
reply_one h by time body a b (o, out, x) (p, again, y) =
    outcome_one h by time p a b (subst (λ (q : Outcome). IsReplyFor h by time q a) (outcome_is_one body o p out again) x) y
