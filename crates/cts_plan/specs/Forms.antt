-- The table of statements: which words follow a keyword.
use Rattle.std.specs.Prelude.{ℕ, ◌+◌, Bool, true, false, not, ◌&&◌, ◌||◌, nat_lt, List, [], ◌∷◌, length, drop, zip, codes, Option, Some, None}
use Rattle.std.specs.Prelude.{is_none, is_some, if◌then◌else◌}
use Rattle.std.specs.List.{list_any}
use Rattle.std.specs.Str.{bytes_eq}
use Rattle.cts_base.specs.Names.{is_name}
use Rattle.cts_def.specs.declared.proto_spec.Kind.{Kind}
use Rattle.cts_def.specs.declared.proto_spec.Kind.TheVariants as kind
use Rattle.cts_reader.specs.Words.{keyword_in}
use Rattle.cts_plan.specs.declared.keyword.Keyword.{Keyword}
use Rattle.cts_plan.specs.declared.keyword.Keyword.TheVariants as keyword
use Rattle.cts_plan.specs.declared.keyword.Role.{Role}
use Rattle.cts_plan.specs.declared.keyword.Role.TheVariants.{Client, Server}
use Rattle.cts_plan.specs.declared.keyword.Field.{Field}
use Rattle.cts_plan.specs.declared.keyword.Field.TheVariants as field
use Rattle.cts_plan.specs.declared.keyword.Check.{Check}
use Rattle.cts_plan.specs.declared.keyword.Check.TheVariants as check
use Rattle.cts_plan.specs.Words.{word, is_nil, flag_of, order_of, way_of, kind_of, port_of, desks_of, size_of, bits_of, per_count_of, max_of}
use Rattle.cts_plan.specs.Words.{layout_of, log_layout_of, cycle_of, signed_of, is_decimal, delay_of, is_pattern_word, is_empty_pattern}

abbrev pub keywords : List (List ℕ × Keyword)
keywords =
    (codes "TITLE", keyword.Title)
    ∷ (codes "PORT", keyword.Port)
    ∷ (codes "DESKS", keyword.Desks)
    ∷ (codes "LOG_LAYOUT", keyword.LogLayout)
    ∷ (codes "LOG_CYCLE", keyword.LogCycle)
    ∷ (codes "INTERFACE", keyword.Interface)
    ∷ (codes "TARGET", keyword.Target)
    ∷ (codes "PROTOCOL", keyword.Protocol)
    ∷ (codes "RECONNECT_DELAY", keyword.ReconnectDelay)
    ∷ (codes "DONT_RECONNECT", keyword.DontReconnect)
    ∷ (codes "LOG", keyword.Log)
    ∷ (codes "DONT_LOG", keyword.DontLog)
    ∷ (codes "ROUTER", keyword.Router)
    ∷ (codes "ROUTE", keyword.Route) ∷ []

abbrev pub keyword_of : List ℕ → Option Keyword
keyword_of word = keyword_in keywords word

-- what the file name of an INTERFACE or ROUTER statement makes of it, if it stands in the table for this keyword
abbrev pub role_of : Keyword → List (List ℕ) → Option Role
role_of keyword.Interface ws =
    if bytes_eq (word ws 1) (codes "tcpip_client_interface.rb") then Some Client
    else if bytes_eq (word ws 1) (codes "tcpip_server_interface.rb") then Some Server
    else None
role_of keyword.Router ws = if bytes_eq (word ws 1) (codes "tcpip_server_interface.rb") then Some Server else None
role_of _ ws = None

-- the words of an INTERFACE or ROUTER statement before its protocol: those up to the file name, and those that the file asks for
abbrev pub opening_fields : Option Role → List Field
opening_fields None = field.Name ∷ field.Text ∷ []
opening_fields (Some Client) =
    field.Name ∷ field.Text ∷ field.Text ∷ field.PortOrNil ∷ field.PortOrNil ∷ field.Timeout ∷ field.Timeout ∷ []
opening_fields (Some Server) = field.Name ∷ field.Text ∷ field.PortOrNil ∷ field.PortOrNil ∷ field.Timeout ∷ field.Timeout ∷ []

-- the words after the keyword, before a protocol
unfoldable pub head_fields : Keyword → List (List ℕ) → List Field
head_fields keyword.Title ws = field.Text ∷ []
head_fields keyword.Port ws = field.ApiWord ∷ field.Port ∷ []
head_fields keyword.Desks ws = field.Desks ∷ []
head_fields keyword.LogLayout ws = field.LogLayout ∷ []
head_fields keyword.LogCycle ws = field.Cycle ∷ []
head_fields keyword.Target ws = field.Name ∷ []
head_fields keyword.Protocol ws = field.Way ∷ []
head_fields keyword.ReconnectDelay ws = field.Delay ∷ []
head_fields keyword.DontReconnect ws = []
head_fields keyword.Log ws = field.DefaultWord ∷ []
head_fields keyword.DontLog ws = []
head_fields keyword.Route ws = field.Text ∷ []
head_fields keyword.Interface ws = opening_fields (role_of keyword.Interface ws)
head_fields keyword.Router ws = opening_fields (role_of keyword.Router ws)

-- the parameters of a protocol, in order
abbrev pub parameter_fields : Kind → List Field
parameter_fields kind.Burst = field.Size ∷ field.Sync ∷ field.Flag ∷ []
parameter_fields kind.Fixed = field.Size ∷ field.Size ∷ field.Sync ∷ field.Flag ∷ field.Flag ∷ field.Flag ∷ []
parameter_fields kind.Length =
    field.Bits ∷ field.Bits ∷ field.ValueOffset ∷ field.PerCount ∷ field.Endianness ∷ field.Size ∷ field.Sync ∷ field.Max ∷ field.Flag ∷ []
parameter_fields kind.Terminated = field.Pattern ∷ field.Termination ∷ field.Flag ∷ field.Size ∷ field.Sync ∷ field.Flag ∷ []
parameter_fields kind.Preidentified = field.Sync ∷ field.Max ∷ field.Layout ∷ []

-- how many of them are required
abbrev pub required : Kind → ℕ
required kind.Fixed = 1
required kind.Terminated = 2
required _ = 0

-- ---- the protocol of a statement

abbrev pub takes_protocol : Keyword → List (List ℕ) → Bool
takes_protocol keyword.Protocol ws = true
takes_protocol k ws = is_some (role_of k ws)

-- a protocol's name stands after the head
abbrev pub has_protocol : Keyword → List (List ℕ) → Bool
has_protocol k ws = takes_protocol k ws && nat_lt (length (head_fields k ws)) (length ws)

unfoldable pub protocol_of : Keyword → List (List ℕ) → Option Kind
protocol_of k ws = if has_protocol k ws then kind_of (word ws (length (head_fields k ws))) else None

-- the words after the protocol's name
unfoldable pub parameters : Keyword → List (List ℕ) → List (List ℕ)
parameters k ws = drop (length (head_fields k ws) + 1) ws

-- what the parameters have to be, nothing where there is no protocol or none of the five
abbrev pub fields_of : Option Kind → List Field
fields_of None = []
fields_of (Some kind) = parameter_fields kind

-- ---- one word at its field

-- a fixed word that is none of its choices
abbrev pub is_other_choice : Field → List ℕ → Bool
is_other_choice field.ApiWord word = not (bytes_eq word (codes "CTS_API"))
is_other_choice field.DefaultWord word = not (bytes_eq word (codes "DEFAULT"))
is_other_choice field.Way word = is_none (way_of word)
is_other_choice field.Flag word = is_none (flag_of word)
is_other_choice field.Endianness word = is_none (order_of word)
is_other_choice field.LogLayout word = is_none (log_layout_of word)
is_other_choice _ word = false

abbrev pub is_bad_name : Field → List ℕ → Bool
is_bad_name field.Name word = not (is_name word)
is_bad_name _ word = false

-- a number or pattern of another form, or out of its bounds
abbrev pub is_no_number : Field → List ℕ → Bool
is_no_number field.Port word = is_none (port_of word)
is_no_number field.PortOrNil word = not (is_nil word) && is_none (port_of word)
is_no_number field.Desks word = is_none (desks_of word)
is_no_number field.Cycle word = is_none (cycle_of word)
is_no_number field.Timeout word = not (is_nil word) && not (is_decimal word)
is_no_number field.Delay word = is_none (delay_of word)
is_no_number field.Size word = is_none (size_of word)
is_no_number field.Bits word = is_none (bits_of word)
is_no_number field.ValueOffset word = is_none (signed_of word)
is_no_number field.PerCount word = is_none (per_count_of word)
is_no_number field.Max word = not (is_nil word) && is_none (max_of word)
is_no_number field.Layout word = is_none (layout_of word)
is_no_number field.Sync word = not (is_pattern_word word)
is_no_number field.Pattern word = not (is_pattern_word word)
is_no_number field.Termination word = not (is_pattern_word word)
is_no_number _ word = false

-- a sync `0x`, or a read termination of no bytes
abbrev pub is_empty_sync : Field → List ℕ → Bool
is_empty_sync field.Sync word = is_empty_pattern word
is_empty_sync field.Termination word = is_empty_pattern word || is_nil word
is_empty_sync _ word = false

-- a word fails this check at its field
abbrev pub fails : Check → Field → List ℕ → Bool
fails check.Choice = is_other_choice
fails check.Name = is_bad_name
fails check.Number = is_no_number
fails check.Bytes = is_empty_sync

-- ---- all words of a statement at their fields

-- a word of the statement fails this test of its field
abbrev pub any_field : (Field → List ℕ → Bool) → Keyword → List (List ℕ) → Bool
any_field fails k ws =
    list_any (λ p. fails p.0 p.1) (zip (head_fields k ws) ws)
    || list_any (λ p. fails p.0 p.1) (zip (fields_of (protocol_of k ws)) (parameters k ws))
