-- What a statement says, read from its words. Of words that are not what their fields ask for, the reading says nothing
-- that is used: a missing parameter and one that is no such number read as the default.
use Rattle.std.specs.Prelude.{ℕ, pos, Bool, true, false, nat_eq, List, [], length, option_to_list, Option, Some, None, unwrap_or, option_map, is_none}
use Rattle.std.specs.Prelude.{if◌then◌else◌}
use Rattle.cts_base.specs.Names.{is_name, in_upper_case}
use Rattle.cts_bits.specs.Places.{is_refused}
use Rattle.cts_bits.specs.declared.order.Order.{Order}
use Rattle.cts_bits.specs.declared.order.Order.TheVariants.{Big}
use Rattle.cts_def.specs.declared.proto_spec.Kind.{Kind}
use Rattle.cts_def.specs.declared.proto_spec.Kind.TheVariants as kind
use Rattle.cts_def.specs.Starts.{PlaceData}
use Rattle.cts_def.specs.Protocols.{FixedData, SpecData, Burst, Fixed, Length, Terminated, Preidentified}
use Rattle.cts_plan.specs.declared.keyword.Keyword.{Keyword}
use Rattle.cts_plan.specs.declared.keyword.Keyword.TheVariants as keyword
use Rattle.cts_plan.specs.declared.keyword.Role.{Role}
use Rattle.cts_plan.specs.declared.keyword.Role.TheVariants.{Client, Server}
use Rattle.cts_plan.specs.declared.words.Way.{Way}
use Rattle.cts_plan.specs.declared.words.Way.TheVariants.{ReadWrite}
use Rattle.cts_plan.specs.declared.line.Line.{Line}
use Rattle.cts_plan.specs.declared.line.Line.TheVariants as line
use Rattle.cts_plan.specs.declared.line.Detail.TheVariants as detail
use Rattle.cts_plan.specs.Steps.{StepData}
use Rattle.cts_plan.specs.Drafts.{InterfaceDraftData, RouterDraftData}
use Rattle.cts_plan.specs.Words.{word, flag_of, order_of, way_of, way_reads, way_writes, port_of, desks_of, size_of, bits_of, per_count_of, max_of}
use Rattle.cts_plan.specs.Words.{layout_of, log_layout_of, cycle_of, signed_of, delay_of, pattern_of}
use Rattle.cts_plan.specs.Forms.{role_of, protocol_of, parameters}

abbrev pub flag_or : Bool → List ℕ → Bool
flag_or default word = unwrap_or (flag_of word) default

abbrev pub size_or_zero : List ℕ → ℕ
size_or_zero word = unwrap_or (size_of word) 0

abbrev pub layout_or_two : List ℕ → ℕ
layout_or_two word = unwrap_or (layout_of word) 2

-- the name that a word writes, in upper case
abbrev pub name_of : List ℕ → Option (List ℕ)
name_of word = if is_name word then Some (in_upper_case word) else None

-- ---- protocols

abbrev pub length_offset : List (List ℕ) → ℕ
length_offset ws = unwrap_or (bits_of (word ws 0)) 0

abbrev pub length_bits : List (List ℕ) → ℕ
length_bits ws = unwrap_or (bits_of (word ws 1)) 16

abbrev pub length_order : List (List ℕ) → Order
length_order ws = unwrap_or (order_of (word ws 4)) Big

-- the place of a length field, if there is such a one
abbrev pub place_at : ℕ → ℕ → Order → Option PlaceData
place_at offset bits order =
    if is_refused order offset bits then None else Some (record { offset = offset; bits = bits; order = order })

abbrev pub length_place : List (List ℕ) → Option PlaceData
length_place ws = place_at (length_offset ws) (length_bits ws) (length_order ws)

abbrev pub is_bad_length : List (List ℕ) → Bool
is_bad_length ws = is_none (length_place ws)

abbrev pub burst_of : List (List ℕ) → SpecData
burst_of ws = Burst (record { discard = size_or_zero (word ws 0); sync = pattern_of (word ws 1); fill = flag_or false (word ws 2) })

-- its packets are known when all targets are
abbrev pub fixed_of : List (List ℕ) → FixedData
fixed_of ws = record {
  min_id = size_or_zero (word ws 0);
  discard = size_or_zero (word ws 1);
  sync = pattern_of (word ws 2);
  telemetry = flag_or true (word ws 3);
  fill = flag_or false (word ws 4);
  raise = flag_or false (word ws 5);
  starts = [];
}

abbrev pub length_with : List (List ℕ) → PlaceData → SpecData
length_with ws place = Length (record {
  place = place;
  value_offset = unwrap_or (signed_of (word ws 2)) (pos 0);
  per_count = unwrap_or (per_count_of (word ws 3)) 1;
  discard = size_or_zero (word ws 5);
  sync = pattern_of (word ws 6);
  max = max_of (word ws 7);
  fill = flag_or false (word ws 8);
})

abbrev pub length_of : List (List ℕ) → Option SpecData
length_of ws = option_map (length_with ws) (length_place ws)

abbrev pub terminated_with : List (List ℕ) → SpecData
terminated_with ws = Terminated (record {
  write = pattern_of (word ws 0);
  read = pattern_of (word ws 1);
  strip = flag_or true (word ws 2);
  discard = size_or_zero (word ws 3);
  sync = pattern_of (word ws 4);
  fill = flag_or false (word ws 5);
})

abbrev pub terminated_of : List (List ℕ) → Option SpecData
terminated_of ws = if nat_eq (length (pattern_of (word ws 1))) 0 then None else Some (terminated_with ws)

abbrev pub preidentified_of : List (List ℕ) → SpecData
preidentified_of ws = Preidentified (record { sync = pattern_of (word ws 0); max = max_of (word ws 1); layout = layout_or_two (word ws 2) })

abbrev pub step_with : ℕ → Way → SpecData → StepData
step_with n way spec = record { line = n; used = record { spec = spec; reads = way_reads way; writes = way_writes way } }

-- the protocol of a statement of the line, used that way, with the parameters
abbrev pub step_of : ℕ → Way → Kind → List (List ℕ) → Option StepData
step_of n way kind.Burst ws = Some (step_with n way (burst_of ws))
step_of n way kind.Fixed ws = Some (step_with n way (Fixed (fixed_of ws)))
step_of n way kind.Length ws = option_map (step_with n way) (length_of ws)
step_of n way kind.Terminated ws = option_map (step_with n way) (terminated_of ws)
step_of n way kind.Preidentified ws = Some (step_with n way (preidentified_of ws))

abbrev pub step_in : ℕ → Way → List (List ℕ) → Option Kind → Option StepData
step_in n way ws None = None
step_in n way ws (Some kind) = step_of n way kind ws

-- the protocol of an INTERFACE, ROUTER or PROTOCOL statement
abbrev pub step_at : ℕ → Way → Keyword → List (List ℕ) → Option StepData
step_at n way k ws = step_in n way (parameters k ws) (protocol_of k ws)

-- ---- interfaces and routers

abbrev pub is_server : Option Role → Bool
is_server (Some Server) = true
is_server _ = false

-- which word is the port for writing; that for reading is the next
abbrev pub port_at : Option Role → ℕ
port_at (Some Client) = 3
port_at _ = 2

abbrev pub host_of : Option Role → List (List ℕ) → List ℕ
host_of (Some Client) ws = word ws 2
host_of _ ws = []

abbrev pub port_or_one : List ℕ → ℕ
port_or_one word = unwrap_or (port_of word) 1

-- an interface as its own statement gives it
abbrev pub interface_by : ℕ → List (List ℕ) → List ℕ → InterfaceDraftData
interface_by n ws name =
    let role = role_of keyword.Interface ws in
    record {
      line = n;
      name = name;
      host = host_of role ws;
      serves = is_server role;
      port = port_or_one (word ws (port_at role));
      chain = option_to_list (step_at n ReadWrite keyword.Interface ws);
      targets = [];
      delay = record { parts = pos 5000000000000 };
      reconnect = true;
      logged = true;
    }

-- a router as its own statement gives it
abbrev pub router_by : ℕ → List (List ℕ) → List ℕ → RouterDraftData
router_by n ws name = record {
  line = n;
  name = name;
  port = port_or_one (word ws (port_at (role_of keyword.Router ws)));
  chain = option_to_list (step_at n ReadWrite keyword.Router ws);
  routes = [];
}

-- ---- all statements

abbrev pub said_or_nothing : {X : Type 0} → (X → Line) → Option X → Line
said_or_nothing f None = line.Nothing
said_or_nothing f (Some x) = f x

abbrev pub port_line : List (List ℕ) → Line
port_line ws = said_or_nothing (λ port. line.ApiPort port) (port_of (word ws 1))

abbrev pub desks_line : List (List ℕ) → Line
desks_line ws = said_or_nothing (λ desks. line.Desks desks) (desks_of (word ws 0))

abbrev pub layout_line : List (List ℕ) → Line
layout_line ws = said_or_nothing (λ layout. line.LogLayout layout) (log_layout_of (word ws 0))

abbrev pub cycle_line : List (List ℕ) → Line
cycle_line ws = said_or_nothing (λ bytes. line.LogCycle bytes) (cycle_of (word ws 0))

abbrev pub interface_line : ℕ → List (List ℕ) → Line
interface_line n ws = said_or_nothing (λ name. line.Interface (interface_by n ws name)) (name_of (word ws 0))

abbrev pub router_line : ℕ → List (List ℕ) → Line
router_line n ws = said_or_nothing (λ name. line.Router (router_by n ws name)) (name_of (word ws 0))

abbrev pub target_line : List (List ℕ) → Line
target_line ws = said_or_nothing (λ name. line.Detail (detail.Target name)) (name_of (word ws 0))

abbrev pub protocol_line : ℕ → List (List ℕ) → Line
protocol_line n ws =
    said_or_nothing (λ step. line.Detail (detail.Step step)) (step_at n (unwrap_or (way_of (word ws 0)) ReadWrite) keyword.Protocol ws)

abbrev pub delay_line : List (List ℕ) → Line
delay_line ws = said_or_nothing (λ delay. line.Detail (detail.Delay delay)) (delay_of (word ws 0))

-- What a statement of this number says.
abbrev pub line_of : ℕ → Keyword → List (List ℕ) → Line
line_of n keyword.Title ws = line.Nothing
line_of n keyword.Port ws = port_line ws
line_of n keyword.Desks ws = desks_line ws
line_of n keyword.LogLayout ws = layout_line ws
line_of n keyword.LogCycle ws = cycle_line ws
line_of n keyword.Interface ws = interface_line n ws
line_of n keyword.Router ws = router_line n ws
line_of n keyword.Target ws = target_line ws
line_of n keyword.Protocol ws = protocol_line n ws
line_of n keyword.ReconnectDelay ws = delay_line ws
line_of n keyword.DontReconnect ws = line.Detail detail.DontReconnect
line_of n keyword.Log ws = line.Detail (detail.Logged true)
line_of n keyword.DontLog ws = line.Detail (detail.Logged false)
line_of n keyword.Route ws = line.Detail (detail.Route (name_of (word ws 0)))
