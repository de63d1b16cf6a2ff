-- The reply to a body at one point of the history: a text or none, and the entries to append.
use Rattle.std.specs.Prelude.{◌≡◌, ℕ, ℤ, pos, neg_ℤ, Bool, false, ◌⊎◌, List, [], ◌∷◌, map, Option, Some, None, option_map, codes, if◌then◌else◌}
use Rattle.std.specs.List.{filter_map}
use Rattle.std.specs.Str.Lossy.{utf8_lossy}
use Rattle.cts_cmd.specs.Texts.{IsCommandText}
use Rattle.cts_cmd.specs.declared.request.Request.{Request}
use Rattle.cts_def.specs.declared.time.Time.{Time}
use Rattle.cts_entry.specs.declared.entry.Entry.{Entry}
use Rattle.cts_entry.specs.declared.what.What.{What}
use Rattle.cts_entry.specs.declared.what.What.TheVariants.{Command, Injected}
use Rattle.cts_entry.specs.Histories.{entries_in, bytes_in}
use Rattle.cts_rpc.specs.Requests.{Outcome, not_json, not_request, bad_params, calls, IsOutcome}
use Rattle.cts_rpc.specs.Replies.{IsTextOf, result_reply, error_reply}
use Rattle.serde_json.specs.Data.{Data, null}
use Rattle.serde_json.specs.Written.{compact_text, has_float}
use Rattle.cts_api.specs.Answers.{Posting, posts_nothing, posts, posts_command, posts_injected, Done, answer}
use Rattle.cts_methods.specs.Asking.{Order, in_text, in_parts, Asking, asks_value, asks_packet, asks_received, asks_sent, sends, asks_limits}
use Rattle.cts_methods.specs.Asking.{sets_limits, enables, asks_set, chooses_set, asks_out_of_limits, asks_events, asks_interfaces, asks_interface}
use Rattle.cts_methods.specs.Asking.{injects, stops}
use Rattle.cts_api.specs.Saying.{Said, refused, gives}
use Rattle.cts_cmd.specs.Injects.{stood, with_item}
use Rattle.cts_methods.specs.Kinds.{listed, members_given}
use Rattle.cts_api.specs.Made.{built, injected}
use Rattle.cts_methods.specs.Methods.{params_of, method_named}
use Rattle.cts_api.specs.Points.{Point}
use Rattle.cts_methods.specs.declared.method.Method.{Method}

pub record Reply : Type 0 where
  -- the response, none where none is wanted
  pub response : Option Data
  pub entries : List Entry

-- The text of a reply whose response has no number with a fraction.
abbrev pub text_of : Reply → Option (List ℕ)
text_of reply = option_map compact_text reply.response

-- The text of a response, none where there is none.
abbrev pub IsTextFor : Option Data → Option (List ℕ) → Type 0
IsTextFor None text = text ≡ None
IsTextFor (Some d) None = ⊥
IsTextFor (Some d) (Some text) = IsTextOf text d

-- ---- responses

-- an absent id means no response
abbrev pub respond : Option Data → (Data → Data) → Option Data
respond None said = None
respond (Some id) said = Some (said id)

-- A message is shown as text: what is no UTF-8 in it is replaced.
abbrev pub error : ℤ → List ℕ → Data → Data
error code message id = error_reply id code (utf8_lossy message)

abbrev pub refusal_to : Option Data → ℤ → List ℕ → Reply
refusal_to id code message = record { response = respond id (error code message); entries = [] }

abbrev pub parse_error : Reply
parse_error = refusal_to (Some null) (neg_ℤ (pos 32700)) (codes "Parse error")

abbrev pub invalid_request : Reply
invalid_request = refusal_to (Some null) (neg_ℤ (pos 32600)) (codes "Invalid Request")

abbrev pub not_found : Option Data → Reply
not_found id = refusal_to id (neg_ℤ (pos 32601)) (codes "Method not found")

abbrev pub invalid_params : Option Data → Reply
invalid_params id = refusal_to id (neg_ℤ (pos 32602)) (codes "Invalid params")

abbrev pub history_full : Option Data → Reply
history_full id = refusal_to id (neg_ℤ (pos 32003)) (codes "History full")

-- ---- what is appended

-- what is appended
abbrev pub posted : Point → Posting → List What
posted h posts_nothing = []
posted h (posts what) = what ∷ []
posted h (posts_command interface r) = let c = built h.site.definitions r in Command interface c.command c.bytes ∷ []
posted h (posts_injected packet p members) = Injected packet (injected (filter_map (with_item p.items) members) (stood (h.current packet) p.length)) ∷ []

abbrev pub made : ℕ → Time → What → Entry
made by time what = record { by = by; time = time; what = what }

-- they keep the limits of the history
abbrev pub fit : Point → List Entry → Bool
fit h entries = h.fits (entries_in entries) (bytes_in entries)

abbrev pub done_reply : Option Data → Data → List Entry → Reply
done_reply id result entries = record { response = respond id (λ i. result_reply i result); entries = entries }

-- the reply that appends the entries, or else the one that they find no room
abbrev pub reply_with : Point → Option Data → Data → List Entry → Reply
reply_with h id result entries = if fit h entries then done_reply id result entries else history_full id

-- Full comes after all checks, and then nothing is appended.
abbrev pub done_to : Point → ℕ → Time → Option Data → Done → Reply
done_to h by time id done = reply_with h id done.result (map (made by time) (posted h done.posting))

abbrev pub said_to : Point → ℕ → Time → Option Data → Said Done → Reply
said_to h by time id (refused code message) = refusal_to id code message
said_to h by time id (gives done) = done_to h by time id done

-- ---- a command's text

-- the request of a command, or none where its text is refused
abbrev pub IsRequested : Order → Option Request → Type 0
IsRequested (in_parts c members) o = o ≡ Some (record { target = c.target; command = c.packet; params = members_given members })
IsRequested (in_text text) o =
    ((r : Request) × IsCommandText text r × (o ≡ Some r)) ⊎ (((r : Request) → ¬ IsCommandText text r) × (o ≡ None))

-- the request of what is asked; only commands have one
abbrev pub HasRequest : Asking → Option Request → Type 0
HasRequest (asks_value kind name) o = o ≡ None
HasRequest (asks_packet p kind) o = o ≡ None
HasRequest (asks_received p) o = o ≡ None
HasRequest (asks_sent p) o = o ≡ None
HasRequest (sends k order) o = IsRequested order o
HasRequest (asks_limits name set) o = o ≡ None
HasRequest (sets_limits name new) o = o ≡ None
HasRequest (enables on name) o = o ≡ None
HasRequest asks_set o = o ≡ None
HasRequest (chooses_set text) o = o ≡ None
HasRequest asks_out_of_limits o = o ≡ None
HasRequest (asks_events from) o = o ≡ None
HasRequest asks_interfaces o = o ≡ None
HasRequest (asks_interface name) o = o ≡ None
HasRequest (injects name _) o = o ≡ None
HasRequest stops o = o ≡ None

-- ---- the reply

abbrev pub IsReplyTo : Point → ℕ → Time → Option Data → Option Asking → Reply → Type 0
IsReplyTo h by time id None reply = reply ≡ invalid_params id
IsReplyTo h by time id (Some asking) reply = (r : Option Request) × HasRequest asking r × (reply ≡ said_to h by time id (answer h r asking))

abbrev pub IsReplyOf : Point → ℕ → Time → Option Data → List Data → Option Method → Reply → Type 0
IsReplyOf h by time id params None reply = reply ≡ not_found id
IsReplyOf h by time id params (Some m) reply = IsReplyTo h by time id (params_of m params) reply

abbrev pub IsReplyFor : Point → ℕ → Time → Outcome → Reply → Type 0
IsReplyFor h by time not_json reply = reply ≡ parse_error
IsReplyFor h by time not_request reply = reply ≡ invalid_request
IsReplyFor h by time (bad_params id) reply = reply ≡ invalid_params id
IsReplyFor h by time (calls method params id) reply = IsReplyOf h by time id (listed params) (method_named method) reply

abbrev pub IsReply : Point → ℕ → Time → List ℕ → Reply → Type 0
IsReply h by time body reply = (o : Outcome) × IsOutcome body o × IsReplyFor h by time o reply

-- A body has one reply at each point.
abbrev pub ReplyIsOne : Type 0
ReplyIsOne = (h : Point) (by : ℕ) (time : Time) (body : List ℕ) (a b : Reply) → IsReply h by time body a → IsReply h by time body b → a ≡ b

-- And each body has one.
abbrev pub ReplyIsThere : Type 0
ReplyIsThere = (h : Point) (by : ℕ) (time : Time) (body : List ℕ) → (a : Reply) × IsReply h by time body a

-- No result has a number with a fraction, so that it has one text.
abbrev pub AnswersAreWhole : Type 0
AnswersAreWhole = (h : Point) (r : Option Request) (a : Asking) (done : Done) → answer h r a ≡ gives done → has_float done.result ≡ false
