-- Each cause, judged by what stands before a statement and by the statement.
use Rattle.std.specs.Prelude.{ℕ, ◌+◌, Bool, true, false, not, ◌||◌, ◌&&◌, nat_eq, nat_lt, nat_le, List, [], ◌∷◌, length, Option, Some, None, is_none}
use Rattle.std.specs.Prelude.{is_some, codes, if◌then◌else◌}
use Rattle.std.specs.List.{list_any}
use Rattle.std.specs.Option.{option_eq}
use Rattle.cts_def.specs.declared.proto_spec.Kind.{Kind}
use Rattle.cts_def.specs.declared.proto_spec.Kind.TheVariants as kind
use Rattle.cts_def.specs.Items.{is_same}
use Rattle.cts_def.specs.Most.{most_interfaces, most_protocols, most_routers}
use Rattle.cts_def.specs.Sites.{InterfaceData, RouterData, is_known_target}
use Rattle.cts_plan.specs.declared.draft.Draft.{Draft}
use Rattle.cts_plan.specs.declared.opened.Current.{Current}
use Rattle.cts_plan.specs.declared.opened.Current.TheVariants as current
use Rattle.cts_plan.specs.declared.keyword.Keyword.{Keyword}
use Rattle.cts_plan.specs.declared.keyword.Keyword.TheVariants as keyword
use Rattle.cts_plan.specs.declared.line.Line.{Line}
use Rattle.cts_plan.specs.declared.line.Line.TheVariants as line
use Rattle.cts_plan.specs.declared.line.Detail.TheVariants as detail
use Rattle.cts_plan.specs.declared.fault.SiteCause.{SiteCause}
use Rattle.cts_plan.specs.declared.fault.SiteCause.TheVariants.{UnknownKeyword, WrongCount, BadName, NotNumber, DoubleName, OutsideInterface}
use Rattle.cts_plan.specs.declared.fault.SiteCause.TheVariants.{UnknownTarget, TargetTwice, UnknownInterface, TwoPorts, ProtocolKind, ChainTooLong}
use Rattle.cts_plan.specs.declared.fault.SiteCause.TheVariants.{NotLast, MinIdSize, VariableLength, EmptySync, TooMany}
use Rattle.cts_plan.specs.Words.{word, is_nil, port_of}
use Rattle.cts_plan.specs.Forms.{role_of, head_fields, required, parameter_fields, has_protocol, protocol_of, parameters, is_other_choice}
use Rattle.cts_plan.specs.Forms.{is_bad_name, is_no_number, is_empty_sync, any_field}
use Rattle.cts_plan.specs.Steps.{StepData, step_reads, step_reads_packets}
use Rattle.cts_plan.specs.Lines.{port_at, is_bad_length}
use Rattle.cts_plan.specs.Standing.{has_name, number_of}

-- ---- what is read

abbrev pub is_nothing : Current → Bool
is_nothing current.Nothing = true
is_nothing _ = false

abbrev pub is_interface : Current → Bool
is_interface (current.Interface i) = true
is_interface _ = false

abbrev pub is_router : Current → Bool
is_router (current.Router r) = true
is_router _ = false

abbrev pub chain_in : Current → List StepData
chain_in current.Nothing = []
chain_in (current.Interface i) = i.chain
chain_in (current.Router r) = r.chain

abbrev pub targets_in : Current → List (List ℕ)
targets_in (current.Interface i) = i.targets
targets_in _ = []

abbrev pub routes_in : Current → List ℕ
routes_in (current.Router r) = r.routes
routes_in _ = []

-- ---- causes by the words

-- a line that needs an interface, a router or one of them before it
abbrev pub is_outside : Current → Keyword → Bool
is_outside c keyword.Title = false
is_outside c keyword.Port = false
is_outside c keyword.Desks = false
is_outside c keyword.LogLayout = false
is_outside c keyword.LogCycle = false
is_outside c keyword.Interface = false
is_outside c keyword.Router = false
is_outside c keyword.Protocol = is_nothing c
is_outside c keyword.Route = not (is_router c)
is_outside c _ = not (is_interface c)

abbrev pub is_wrong_protocol_count : Option Kind → List (List ℕ) → Bool
is_wrong_protocol_count None ws = false
is_wrong_protocol_count (Some kind) ws = nat_lt (length ws) (required kind) || nat_lt (length (parameter_fields kind)) (length ws)

-- after a file name that is not in the table, words are not counted
abbrev pub is_file_unknown : Keyword → List (List ℕ) → Bool
is_file_unknown keyword.Interface ws = is_none (role_of keyword.Interface ws)
is_file_unknown keyword.Router ws = is_none (role_of keyword.Router ws)
is_file_unknown _ ws = false

-- a PROTOCOL statement has a protocol
abbrev pub is_protocol_missing : Keyword → List (List ℕ) → Bool
is_protocol_missing keyword.Protocol ws = not (has_protocol keyword.Protocol ws)
is_protocol_missing _ ws = false

-- further words than those of the head
abbrev pub has_wrong_rest : Keyword → List (List ℕ) → Bool
has_wrong_rest k ws =
    if has_protocol k ws then is_wrong_protocol_count (protocol_of k ws) (parameters k ws)
    else not (is_file_unknown k ws) && nat_lt (length (head_fields k ws)) (length ws)

abbrev pub is_wrong_count : Keyword → List (List ℕ) → Bool
is_wrong_count k ws =
    nat_lt (length ws) (length (head_fields k ws)) || is_protocol_missing k ws || has_wrong_rest k ws || any_field is_other_choice k ws

abbrev pub is_length : Option Kind → Bool
is_length (Some kind.Length) = true
is_length _ = false

abbrev pub is_not_number : Keyword → List (List ℕ) → Bool
is_not_number k ws = any_field is_no_number k ws || (is_length (protocol_of k ws) && is_bad_length (parameters k ws))

-- two port words that differ, or of which one is `nil`
abbrev pub are_two : List ℕ → List ℕ → Bool
are_two a b = is_nil a || is_nil b || not (option_eq nat_eq (port_of a) (port_of b))

abbrev pub are_two_at : List (List ℕ) → ℕ → Bool
are_two_at ws at = are_two (word ws at) (word ws (at + 1))

abbrev pub is_two_ports : Keyword → List (List ℕ) → Bool
is_two_ports keyword.Interface ws = are_two_at ws (port_at (role_of keyword.Interface ws))
is_two_ports keyword.Router ws = are_two_at ws (port_at (role_of keyword.Router ws))
is_two_ports _ ws = false

abbrev pub is_other_kind : Keyword → List (List ℕ) → Bool
is_other_kind k ws = has_protocol k ws && is_none (protocol_of k ws)

-- ---- causes by what is said

abbrev pub is_unknown_name : List InterfaceData → Option (List ℕ) → Bool
is_unknown_name interfaces None = true
is_unknown_name interfaces (Some name) = not (list_any (has_name name) interfaces)

-- ROUTE names no interface that is complete
abbrev pub is_unrouted : Draft → Line → Bool
is_unrouted s (line.Detail (detail.Route name)) = is_unknown_name s.site.interfaces name
is_unrouted s _ = false

-- the file name, or the interface that ROUTE names
abbrev pub is_unknown_interface : Draft → Keyword → List (List ℕ) → Line → Bool
is_unknown_interface s k ws l = is_file_unknown k ws || is_unrouted s l

abbrev pub is_router_named : List ℕ → RouterData → Bool
is_router_named name r = is_same r.name name

abbrev pub has_route : List InterfaceData → List ℕ → Option (List ℕ) → Bool
has_route interfaces routes None = false
has_route interfaces routes (Some name) = list_any (λ route. nat_eq route (number_of interfaces name)) routes

-- a name of an interface or router, or a route, that stands already, or a second line of a setting that is given once
abbrev pub is_double : Draft → Line → Bool
is_double s (line.Interface i) = list_any (has_name i.name) s.site.interfaces
is_double s (line.Router r) = list_any (is_router_named r.name) s.site.routers
is_double s (line.Detail (detail.Route name)) = has_route s.site.interfaces (routes_in s.current) name
is_double s (line.LogLayout layout) = s.layout_said
is_double s (line.LogCycle bytes) = is_some s.site.log_cycle
is_double s _ = false

-- neither a packet nor a command has the target
abbrev pub is_unknown_target : Draft → Line → Bool
is_unknown_target s (line.Detail (detail.Target name)) = not (is_known_target s.site.definitions name)
is_unknown_target s _ = false

abbrev pub is_in : List (List ℕ) → List ℕ → Bool
is_in names name = list_any (λ other. is_same other name) names

abbrev pub maps : List ℕ → InterfaceData → Bool
maps name i = is_in i.targets name

-- an interface has the target
abbrev pub is_target_twice : Draft → Line → Bool
is_target_twice s (line.Detail (detail.Target name)) = list_any (maps name) s.site.interfaces || is_in (targets_in s.current) name
is_target_twice s _ = false

-- a fifth protocol
abbrev pub is_chain_too_long : Draft → Line → Bool
is_chain_too_long s (line.Detail (detail.Step step)) = nat_le most_protocols (length (chain_in s.current))
is_chain_too_long s _ = false

-- a reading protocol after one that reads packets
abbrev pub is_not_last : Draft → Line → Bool
is_not_last s (line.Detail (detail.Step step)) = step_reads step && list_any step_reads_packets (chain_in s.current)
is_not_last s _ = false

-- a 17th interface or a 5th router
abbrev pub is_too_many : Draft → Line → Bool
is_too_many s (line.Interface i) = nat_le most_interfaces (length s.site.interfaces)
is_too_many s (line.Router r) = nat_le most_routers (length s.site.routers)
is_too_many s _ = false

-- ---- all of them

abbrev pub holds : SiteCause → Draft → Keyword → List (List ℕ) → Line → Bool
holds UnknownKeyword s k ws l = false
holds OutsideInterface s k ws l = is_outside s.current k
holds WrongCount s k ws l = is_wrong_count k ws
holds UnknownInterface s k ws l = is_unknown_interface s k ws l
holds BadName s k ws l = any_field is_bad_name k ws
holds NotNumber s k ws l = is_not_number k ws
holds DoubleName s k ws l = is_double s l
holds TwoPorts s k ws l = is_two_ports k ws
holds UnknownTarget s k ws l = is_unknown_target s l
holds TargetTwice s k ws l = is_target_twice s l
holds ProtocolKind s k ws l = is_other_kind k ws
holds EmptySync s k ws l = any_field is_empty_sync k ws
holds ChainTooLong s k ws l = is_chain_too_long s l
holds NotLast s k ws l = is_not_last s l
holds MinIdSize s k ws l = false
holds VariableLength s k ws l = false
holds TooMany s k ws l = is_too_many s l

-- the order in which the causes of a known keyword are tried
abbrev pub order : List SiteCause
order =
    OutsideInterface ∷ WrongCount ∷ UnknownInterface ∷ BadName ∷ NotNumber ∷ DoubleName ∷ TwoPorts ∷ UnknownTarget ∷ TargetTwice
    ∷ ProtocolKind ∷ EmptySync ∷ ChainTooLong ∷ NotLast ∷ TooMany ∷ []

-- ---- names

abbrev pub name_of_cause : SiteCause → List ℕ
name_of_cause UnknownKeyword = codes "UnknownKeyword"
name_of_cause OutsideInterface = codes "OutsideInterface"
name_of_cause WrongCount = codes "WrongCount"
name_of_cause UnknownInterface = codes "UnknownInterface"
name_of_cause BadName = codes "BadName"
name_of_cause NotNumber = codes "NotNumber"
name_of_cause DoubleName = codes "DoubleName"
name_of_cause TwoPorts = codes "TwoPorts"
name_of_cause UnknownTarget = codes "UnknownTarget"
name_of_cause TargetTwice = codes "TargetTwice"
name_of_cause ProtocolKind = codes "ProtocolKind"
name_of_cause EmptySync = codes "EmptySync"
name_of_cause ChainTooLong = codes "ChainTooLong"
name_of_cause NotLast = codes "NotLast"
name_of_cause MinIdSize = codes "MinIdSize"
name_of_cause VariableLength = codes "VariableLength"
name_of_cause TooMany = codes "TooMany"
