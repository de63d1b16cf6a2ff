-- Interfaces and routers as far as their statements are read.
use Rattle.std.specs.Prelude.{ℕ, pos, ◌≤◌, Bool, not, ◌||◌, ◌==◌, nat_eq, int_le, List, length, IsTrue}
use Rattle.std.specs.List.{IsDistinct}
use Rattle.cts_base.specs.declared.decimal.Decimal.{Decimal}
use Rattle.cts_def.specs.Most.{most_protocols}
use Rattle.cts_plan.specs.Steps.{StepData, are_packets_last}

pub record IsSoundChain (steps : List StepData) : Type 0 where
  pub few : length steps ≤ most_protocols
  pub packets_last : IsTrue (are_packets_last steps)

-- what contracts see of an interface that is not complete: its fields
pub record InterfaceDraftData : Type 0 where
  pub line : ℕ
  pub name : List ℕ
  pub host : List ℕ
  pub serves : Bool
  pub port : ℕ
  pub chain : List StepData
  pub targets : List (List ℕ)
  pub delay : Decimal
  pub reconnect : Bool
  pub logged : Bool

pub record IsSoundInterfaceDraft (i : InterfaceDraftData) : Type 0 where
  pub port : 1 ≤ i.port
  pub host : IsTrue (not i.serves || (length i.host == 0))
  pub delay : IsTrue (int_le (pos 0) i.delay.parts)

-- what contracts see of a router that is not complete: its fields. A route is the number of an interface.
pub record RouterDraftData : Type 0 where
  pub line : ℕ
  pub name : List ℕ
  pub port : ℕ
  pub chain : List StepData
  pub routes : List ℕ

pub record IsSoundRouterDraft (r : RouterDraftData) : Type 0 where
  pub port : 1 ≤ r.port
  pub routes : IsDistinct nat_eq r.routes
