-- What the methods ask, once their params are of the right count and kinds.
use Rattle.std.specs.Prelude.{ℕ, Bool, List, Option}
use Rattle.cts_cmd.specs.declared.request.Checks.{Checks}
use Rattle.cts_conv.specs.declared.value.ValueKind.{ValueKind}
use Rattle.cts_def.specs.declared.limits.Limits.{Limits}
use Rattle.serde_json.specs.Data.{Members}

-- names as they are given, in any case
pub record PacketName : Type 0 where
  pub target : List ℕ
  pub packet : List ℕ

pub record ItemName : Type 0 where
  pub target : List ℕ
  pub packet : List ℕ
  pub item : List ℕ

-- a command as it is given: in one text, or by its names and an object of whole numbers and texts
pub data Order : Type 0 where
  in_text : List ℕ → Order
  in_parts : PacketName → Members → Order

-- new limits; no set is CUSTOM, no persistence is that of now
pub record NewLimits : Type 0 where
  pub limits : Limits
  pub set : Option (List ℕ)
  pub persistence : Option ℕ
  pub enabled : Bool

pub data Asking : Type 0 where
  asks_value : ValueKind → ItemName → Asking
  asks_packet : PacketName → ValueKind → Asking
  asks_received : PacketName → Asking
  asks_sent : PacketName → Asking
  sends : Checks → Order → Asking
  asks_limits : ItemName → Option (List ℕ) → Asking
  sets_limits : ItemName → NewLimits → Asking
  enables : Bool → ItemName → Asking
  asks_set : Asking
  chooses_set : List ℕ → Asking
  asks_out_of_limits : Asking
  asks_events : ℕ → Asking
  asks_interfaces : Asking
  asks_interface : List ℕ → Asking
  injects : PacketName → Members → Asking
  stops : Asking
