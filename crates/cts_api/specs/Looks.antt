-- Calls that only look, and what a look gives.
use Rattle.std.specs.Prelude.{◌≡◌, ℕ, Bool, true, false, List, Option, Some, None, Result, Ok, Err}
use Rattle.cts_def.specs.declared.time.Time.{Time}
use Rattle.cts_rpc.specs.Requests.{Outcome, not_json, not_request, bad_params, calls, IsOutcome}
use Rattle.cts_rpc.specs.declared.call.Call.{Call}
use Rattle.cts_table.specs.States.{Shown}
use Rattle.cts_methods.specs.declared.method.Method.{Method}
use Rattle.cts_methods.specs.declared.method.Method.TheVariants.{Value, Packet, Received, Sent, Command, Limits, SetLimits, Enable, Set, ChooseSet}
use Rattle.cts_methods.specs.declared.method.Method.TheVariants.{OutOfLimits, Events, Interfaces, Interface, Inject, Stop}
use Rattle.cts_api.specs.declared.looked.Look.{Look}
use Rattle.cts_api.specs.declared.looked.Look.TheVariants.{Text, Appends}
use Rattle.cts_api.specs.declared.sending.Done as code
use Rattle.cts_api.specs.declared.refusal.Refusal.{Refusal}
use Rattle.cts_methods.specs.Asking.{Asking, asks_value, asks_packet, asks_received, asks_sent, sends, asks_limits, sets_limits, enables, asks_set}
use Rattle.cts_methods.specs.Asking.{chooses_set, asks_out_of_limits, asks_events, asks_interfaces, asks_interface, injects, stops}
use Rattle.cts_methods.specs.Methods.{method_named}
use Rattle.cts_api.specs.Replied.{Answered, Replied}

-- the methods that may append
abbrev pub changes : Method → Bool
changes (Value kind) = false
changes Packet = false
changes Received = false
changes Sent = false
changes (Command range hazardous) = true
changes Limits = false
changes SetLimits = true
changes (Enable on) = true
changes Set = false
changes ChooseSet = true
changes OutOfLimits = false
changes Events = false
changes Interfaces = false
changes Interface = false
changes Inject = true
changes Stop = true

-- what is asked by one that appends nothing
abbrev pub only_looks : Asking → Bool
only_looks (asks_value kind name) = true
only_looks (asks_packet p kind) = true
only_looks (asks_received p) = true
only_looks (asks_sent p) = true
only_looks (sends k order) = false
only_looks (asks_limits name set) = true
only_looks (sets_limits name new) = false
only_looks (enables on name) = false
only_looks asks_set = true
only_looks (chooses_set name) = false
only_looks asks_out_of_limits = true
only_looks (asks_events from) = true
only_looks asks_interfaces = true
only_looks (asks_interface name) = true
only_looks (injects name given) = false
only_looks stops = false

abbrev pub may_change : Option Method → Bool
may_change None = false
may_change (Some m) = changes m

-- the body is a call of a method that may append
abbrev pub calls_change : Outcome → Bool
calls_change not_json = false
calls_change not_request = false
calls_change (bad_params id) = false
calls_change (calls method params id) = may_change (method_named method)

-- nothing is appended by what is done
abbrev pub AppendsNone : Result code.Done Refusal → Type 0
AppendsNone (Ok d) = d.what ≡ None
AppendsNone (Err e) = Unit {0}

-- A text is that of the reply, whoever asks and when, which appends nothing. A call of a method that may append has none here.
abbrev pub LooksCall : Shown → Call → Look → Type 0
LooksCall s c (Text t) = (may_change (method_named c.method) ≡ false)
    × ((by : ℕ) (time : Time) → Answered s by time c (Ok (record { text = t; appended = 0 })) s)
LooksCall s c Appends = may_change (method_named c.method) ≡ true

abbrev pub IsChanging : List ℕ → Bool → Type 0
IsChanging body is = (o : Outcome) × IsOutcome body o × (calls_change o ≡ is)

abbrev pub Looks : Shown → List ℕ → Look → Type 0
Looks s body (Text t) = IsChanging body false × ((by : ℕ) (time : Time) → Replied s by time body (Ok (record { text = t; appended = 0 })) s)
Looks s body Appends = IsChanging body true
