-- What the requests of a rehearsal leave: a look-up nothing, and a command its bytes.
use Rattle.std.proofs.Common.{◌≡◌, ◌∙◌, ℕ, ◌+◌, ◌≤◌, Bool, true, false, List, [], ◌∷◌, length, Option, Some, None, refl, ap, subst, inl}
use Rattle.std.specs.Prelude.{option_and_then, if◌then◌else◌}
use Rattle.std.proofs.lemmas.Str.{IsUtf8-from_ascii}
use Rattle.serde_json.specs.Data.{Data, Items}
use Rattle.serde_json.proofs.OnLiterals.{serde_json_on_literals}
use Rattle.cts_api.proofs.TextLemmas.{ascii}
use Rattle.cts_api.specs.Answers.{told, value_answer}
use Rattle.cts_api.specs.Made.{built, command_bytes}
use Rattle.cts_api.specs.Points.{Point, point_of}
use Rattle.cts_api.specs.Replies.{IsReplyFor, IsReplyOf, IsReplyTo, Reply, done_reply, fit, history_full, said_to}
use Rattle.cts_api.specs.Saying.{Said, gives, refused}
use Rattle.cts_conv.specs.declared.value.ValueKind.TheVariants.{Converted}
use Rattle.cts_def.specs.Makers.{first_desk}
use Rattle.cts_def.specs.Packets.{PacketData}
use Rattle.cts_def.specs.Sites.{SiteData}
use Rattle.cts_def.specs.declared.time.Time.{Time}
use Rattle.cts_entry.specs.declared.event.Event.TheVariants.{Call}
use Rattle.cts_methods.specs.Asking.{Asking, ItemName, asks_value}
use Rattle.cts_methods.specs.Kinds.{listed}
use Rattle.cts_methods.specs.Methods.{method_named, params_of}
use Rattle.cts_rpc.proofs.Whole.{outcome_is_one}
use Rattle.cts_rpc.specs.Requests.{IsOutcome, Outcome, calls}
use Rattle.cts_core.specs.Environments.{basis_of, site_environment}
use Rattle.cts_core.specs.Runs.{Did, Does}
use Rattle.cts_core.specs.Sendings.{asked_by}
use Rattle.cts_core.specs.States.{State}
use Rattle.cts_rehearsal.specs.Generated.{look_up}
use Rattle.cts_rehearsal_laws.specs.Demo.{HasDemoCommand, collect}
use Rattle.cts_rehearsal_laws.specs.Orders.{order_request}
use Rattle.cts_rehearsal_laws.proofs.Cases.{at_most_11}

-- ---- the look-up

-- the body asks for a value
record AsksValue (body : List ℕ) : Type 0 where
  pub method : List ℕ
  pub params : Items
  pub id : Option Data
  pub name : ItemName
  pub calls_it : IsOutcome body (calls method params id)
  pub asks_it : asked_by method params ≡ Some (asks_value Converted name)

asks : AsksValue look_up
unfolding serde_json_on_literals
asks = record { method = _; params = _; id = _; name = _; calls_it = inl (_, (IsUtf8-from_ascii look_up (ascii look_up refl), refl), refl); asks_it = refl }

-- what comes of a value in two steps comes of one between
known_by : {A B : Type 0} (f : A → Option B) (o : Option A) (b : B) → option_and_then f o ≡ Some b → (a : A) × (o ≡ Some a) × (f a ≡ Some b)
known_by f None b e = absurd (cc e)
known_by f (Some a) b e = (a, refl, e)

with_none : (id : Option Data) (result : Data) (room : Bool) → (if room then done_reply id result [] else history_full id).entries ≡ []
with_none id result true = refl
with_none id result false = refl

module _ (h : Point) (by : ℕ) (time : Time) where
  none_told : (id : Option Data) (said : Said Data) → (said_to h by time id (told said)).entries ≡ []
  none_told id (refused code message) = refl
  none_told id (gives d) = with_none id d (fit h [])

  none_to : (id : Option Data) (name : ItemName) (a : Reply) → IsReplyTo h by time id (Some (asks_value Converted name)) a → a.entries ≡ []
  none_to id name a is = ap (λ (r : Reply). r.entries) is.2 ∙ none_told id (value_answer h Converted name)

  none_for : (body : List ℕ) (a : Reply) (x : AsksValue body) → IsReplyFor h by time (calls x.method x.params x.id) a → a.entries ≡ []
  none_for body a x is =
      let known = known_by (λ m. params_of m (listed x.params)) (method_named x.method) (asks_value Converted x.name) x.asks_it in
      let two = subst (λ m. IsReplyOf h by time x.id (listed x.params) m a) known.1 is in
      let three = subst (λ (q : Option Asking). IsReplyTo h by time x.id q a) known.2 two in
      none_to x.id x.name a three

pub looks_up : (site : SiteData) (s : State) (did : Did) → Does (site_environment site) s (Call 0 look_up) did → did.entries ≡ []
looks_up site s did does =
    let h : Point = point_of (basis_of site) s.history in
    let is = does.answered in
    let same : is.0 ≡ calls asks.method asks.params asks.id = outcome_is_one look_up is.0 (calls asks.method asks.params asks.id) is.1 asks.calls_it in
    let one = subst (λ (q : Outcome). IsReplyFor h (first_desk + 0) s.time q does.answer) same is.2 in
    does.appends ∙ none_for h (first_desk + 0) s.time look_up does.answer asks one

-- ---- the command

abbrev Long : ℕ → Type 0
Long v = length (command_bytes (order_request v).params collect) ≡ 3

long : (v : ℕ) → v ≤ 11 → Long v
unfolding command_bytes
long = at_most_11 Long refl refl refl refl refl refl refl refl refl refl refl refl

long_among : (commands : List PacketData) (v : ℕ) (site : SiteData) → site.definitions.commands ≡ collect ∷ [] → Long v → length (built site.definitions (order_request v)).bytes ≡ 3
long_among commands v site e h = rw e h

pub three_bytes : (site : SiteData) → HasDemoCommand site → (v : ℕ) → v ≤ 11 → length (built site.definitions (order_request v)).bytes ≡ 3
three_bytes site demo v few = long_among site.definitions.commands v site demo.commands (long v few)
