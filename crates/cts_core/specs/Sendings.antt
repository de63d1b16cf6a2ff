-- Which commands of a run are sent, and which are refused.
use Rattle.std.specs.Prelude.{◌≡◌, ◌⊎◌, ◌↔◌, ℕ, ◌+◌, false, List, [], ◌∷◌, length, Option, Some, None, option_and_then, Ok, Err}
use Rattle.cts_methods.specs.Asking.{Asking, Order, sends}
use Rattle.cts_methods.specs.Kinds.{listed}
use Rattle.cts_api.specs.Made.{built}
use Rattle.cts_methods.specs.Methods.{method_named, params_of}
use Rattle.cts_api.specs.Replies.{IsRequested}
use Rattle.cts_cmd.specs.Checks.{refusal}
use Rattle.cts_cmd.specs.declared.built.Built.{Built}
use Rattle.cts_cmd.specs.declared.refused.Refused.{Refused}
use Rattle.cts_cmd.specs.declared.request.Checks.{Checks}
use Rattle.cts_cmd.specs.declared.request.Request.{Request}
use Rattle.cts_def.specs.Makers.{first_desk}
use Rattle.cts_def.specs.Sites.{SiteData}
use Rattle.cts_entry.specs.declared.entry.Entry.{Entry}
use Rattle.cts_entry.specs.declared.event.Event.{Event}
use Rattle.cts_entry.specs.declared.event.Event.TheVariants.{SetTime, Opens, Piece, Finish, Write, Call, DrainLog, DrainSlot, Stop}
use Rattle.cts_entry.specs.declared.what.What.TheVariants.{Command}
use Rattle.cts_rpc.specs.Requests.{IsOutcome, calls}
use Rattle.cts_table.specs.Routes.{route_of}
use Rattle.cts_table.specs.declared.basis.Basis.{Basis}
use Rattle.cts_table.specs.declared.fault.NoRoute.{NoRoute}
use Rattle.serde_json.specs.Data.{Data, Items}
use Rattle.cts_core.specs.Environments.{basis_of}
use Rattle.cts_table.specs.States.{is_within}
use Rattle.cts_core.specs.Runs.{Did, after}
use Rattle.cts_core.specs.States.{State}

-- what the params of a call ask of the method that has its name
abbrev pub asked_by : List ℕ → Items → Option Asking
asked_by method params = option_and_then (λ m. params_of m (listed params)) (method_named method)

-- The body calls a method that sends commands: its params ask to send this order with these checks.
pub record AsksFor (body : List ℕ) (checks : Checks) (order : Order) : Type 0 where
  pub method : List ℕ
  pub params : Items
  pub id : Option Data
  pub calls_it : IsOutcome body (calls method params id)
  pub sends_it : asked_by method params ≡ Some (sends checks order)

-- The body calls a method that there is not, or its params are not those of its method: it asks for nothing.
pub record AsksForNone (body : List ℕ) : Type 0 where
  pub method : List ℕ
  pub params : Items
  pub id : Option Data
  pub calls_it : IsOutcome body (calls method params id)
  pub none : asked_by method params ≡ None

-- ---- when a command is not sent

-- a check fails
abbrev pub FailsACheck : SiteData → Checks → Request → Type 0
FailsACheck site checks r = (refused : Refused) × (refusal site.definitions r checks ≡ Some refused)

-- no interface has the target of the command, or that interface is not connected
abbrev pub HasNoRoute : SiteData → List Entry → Built → Type 0
HasNoRoute site history c = (why : NoRoute) × (route_of site history c.command ≡ Err why)

-- the history has no room for the entry of the command
abbrev pub HasNoRoom : Basis → List Entry → Built → Type 0
HasNoRoom b history c = is_within b history 1 (length c.bytes) ≡ false

-- a request is refused after a history
abbrev pub IsRefused : Basis → List Entry → Checks → Request → Type 0
IsRefused b history checks r = FailsACheck b.site checks r ⊎
    (HasNoRoute b.site history (built b.site.definitions r) ⊎ HasNoRoom b history (built b.site.definitions r))

-- ---- what is appended

-- the command that is built of a request, sent by a desk to an interface
abbrev pub command_entry : SiteData → State → ℕ → ℕ → Request → Entry
command_entry site s desk interface r = record {
  by = first_desk + desk;
  time = s.time;
  what = Command interface (built site.definitions r).command (built site.definitions r).bytes;
}

-- the request was sent to the interface that it goes to, and nothing else was appended
abbrev pub IsSent : SiteData → State → ℕ → Request → Did → Type 0
IsSent site s desk r did = (interface : ℕ) × (route_of site s.history (built site.definitions r).command ≡ Ok interface)
    × (did.entries ≡ command_entry site s desk interface r ∷ [])

-- Nothing was appended for a request exactly where it is refused, and else it was sent.
pub record IsJudged (site : SiteData) (s : State) (desk : ℕ) (checks : Checks) (r : Request) (did : Did) : Type 0 where
  pub refused : (did.entries ≡ []) ↔ IsRefused (basis_of site) s.history checks r
  pub sent : (IsRefused (basis_of site) s.history checks r → ⊥) → IsSent site s desk r did

-- A call that sends an order was done: its request is judged, and nothing was appended where its text asks for none.
pub record IsJudgedOrder (site : SiteData) (s : State) (desk : ℕ) (checks : Checks) (order : Order) (did : Did) : Type 0 where
  pub request : (r : Request) → IsRequested order (Some r) → IsJudged site s desk checks r did
  pub none : IsRequested order None → did.entries ≡ []

-- the same of an event
abbrev pub IsJudgedEvent : SiteData → State → Event → Did → Type 0
IsJudgedEvent site s (SetTime time) did = Unit {0}
IsJudgedEvent site s (Opens by) did = Unit {0}
IsJudgedEvent site s (Piece by piece) did = Unit {0}
IsJudgedEvent site s (Finish by why) did = Unit {0}
IsJudgedEvent site s (Write by count) did = Unit {0}
IsJudgedEvent site s (Call desk body) did =
    ((checks : Checks) (order : Order) → AsksFor body checks order → IsJudgedOrder site s desk checks order did) × (AsksForNone body → did.entries ≡ [])
IsJudgedEvent site s (DrainLog count) did = Unit {0}
IsJudgedEvent site s (DrainSlot by count) did = Unit {0}
IsJudgedEvent site s Stop did = Unit {0}

-- each command among events that did this, one after another
abbrev pub AreJudged : SiteData → State → List Event → List Did → Type 0
AreJudged site s [] dids = Unit {0}
AreJudged site s (event ∷ events) [] = Unit {0}
AreJudged site s (event ∷ events) (did ∷ dids) = IsJudgedEvent site s event did × AreJudged site (after s event did) events dids
