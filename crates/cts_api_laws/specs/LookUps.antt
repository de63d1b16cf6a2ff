-- What methods that only ask leave.
use Rattle.std.specs.Prelude.{◌≡◌, ℕ, List, [], ◌∷◌, Option, Some, codes}
use Rattle.std.specs.List.{Contains}
use Rattle.cts_def.specs.declared.time.Time.{Time}
use Rattle.cts_entry.specs.declared.entry.Entry.{Entry}
use Rattle.cts_entry.specs.Legal.{IsLegal}
use Rattle.cts_table.specs.declared.basis.Basis.{Basis}
use Rattle.cts_table.specs.Keeping.{rules_of}
use Rattle.serde_json.specs.Data.{Data}
use Rattle.cts_methods.specs.Methods.{method_named}
use Rattle.cts_api.specs.Points.{Point, point_of}
use Rattle.cts_api.specs.Replies.{IsReplyOf, Reply, history_full}

-- their names
abbrev pub look_ups : List (List ℕ)
look_ups =
    codes "tlm" ∷ codes "tlm_raw" ∷ codes "tlm_formatted" ∷ codes "tlm_with_units" ∷ codes "get_tlm_packet" ∷ codes "get_tlm_cnt"
    ∷ codes "get_cmd_cnt" ∷ codes "get_limits"
    ∷ codes "get_limits_set" ∷ codes "get_out_of_limits" ∷ codes "get_limits_events" ∷ codes "get_interface_names" ∷ codes "interface_state" ∷ []

-- They append nothing.
abbrev pub LookUpsAppendNothing : Type 0
LookUpsAppendNothing = (h : Point) (by : ℕ) (time : Time) (id : Option Data) (params : List Data) (name : List ℕ) (a : Reply)
    → Contains look_ups name → IsReplyOf h by time id params (method_named name) a → a.entries ≡ []

-- They need no room: at a point of a legal history they are never told that it is full.
abbrev pub LookUpsNeedNoRoom : Type 0
LookUpsNeedNoRoom = (b : Basis) (history : List Entry) (by : ℕ) (time : Time) (id : Data) (params : List Data) (name : List ℕ) (a : Reply)
    → Contains look_ups name → IsLegal (rules_of b) history → IsReplyOf (point_of b history) by time (Some id) params (method_named name) a
    → ¬ (a ≡ history_full (Some id))
