-- The packets of a chain of framings, for the pieces in which bytes came.
use Rattle.std.specs.Prelude.{◌≡◌, ℕ, zero, suc, ◌+◌, ◌-◌, ◌^◌, min, Bool, true, false, List, [], ◌∷◌, ◌++◌, length, map, Option, Some, None}
use Rattle.cts_def.specs.declared.bad_cause.BadCause.{BadCause}
use Rattle.cts_def.specs.declared.loss.Loss.{Loss}
use Rattle.cts_framing.specs.Framing.{Framing, Output, plain}
use Rattle.cts_framing.specs.Cuts.{Pieces, IsCut}

-- lists of bytes, one after another
abbrev pub joined : List (List ℕ) → List ℕ
joined [] = []
joined (p ∷ ps) = p ++ joined ps

-- these pieces, and what is cut after them
abbrev pub and_then : Pieces → Pieces → Pieces
and_then c d = record { outs = c.outs ++ d.outs; skipped = c.skipped + d.skipped; empty = c.empty + d.empty; rest = d.rest; bad = d.bad }

-- each piece is cut for itself, after the rest of the one before it
abbrev pub CutEach : Framing → List ℕ → List (List ℕ) → Pieces → Type 0
CutEach f from [] c = IsCut f from c
CutEach f from (p ∷ ps) c = (first : Pieces) × (more : Pieces) × IsCut f (from ++ p) first × CutEach f first.rest ps more × (c ≡ and_then first more)

abbrev pub cut_by : Bool → Framing → List (List ℕ) → Pieces → Type 0
cut_by false f pieces c = IsCut f (joined pieces) c
cut_by true f pieces c = CutEach f [] pieces c

-- A stage of a chain cuts what comes to it: all bytes as one list, or each piece for itself.
abbrev pub IsStage : Framing → List (List ℕ) → Pieces → Type 0
IsStage f pieces c = cut_by f.by_piece f pieces c

-- Each stage cuts what the one before it gave, and what the last one gives are the packets.
abbrev pub Stages : List Framing → List Output → List Pieces → List Output → Type 0
Stages [] ins [] packets = ins ≡ packets
Stages (f ∷ fs) ins (c ∷ cs) packets = IsStage f (map (λ o. o.bytes) ins) c × Stages fs c.outs cs packets
Stages [] ins (c ∷ cs) packets = ⊥
Stages (f ∷ fs) ins [] packets = ⊥

-- A chain cuts these pieces so, and these are its packets.
abbrev pub IsPackets : List Framing → List (List ℕ) → List Pieces → List Output → Type 0
IsPackets chain pieces cuts packets = Stages chain (map plain pieces) cuts packets

-- a count of 64 bits that stays at its greatest number
abbrev pub capped : ℕ → ℕ
capped n = min n (2 ^ 64 - 1)

-- four numbers, 0 for each stage that is not there
abbrev pub held_by_stage : ℕ → List Pieces → List ℕ
held_by_stage zero cuts = []
held_by_stage (suc n) [] = 0 ∷ held_by_stage n []
held_by_stage (suc n) (c ∷ cuts) = capped (length c.rest) ∷ held_by_stage n cuts

abbrev pub all_skipped : List Pieces → ℕ
all_skipped [] = 0
all_skipped (c ∷ cuts) = c.skipped + all_skipped cuts

abbrev pub all_empty : List Pieces → ℕ
all_empty [] = 0
all_empty (c ∷ cuts) = c.empty + all_empty cuts

-- what is lost where a chain with these cuts is given up
abbrev pub loss_of : List Pieces → Loss
loss_of cuts = record { held = held_by_stage 4 cuts; skipped = capped (all_skipped cuts); empty = capped (all_empty cuts) }

-- the error of a stage and its number
pub record Fault : Type 0 where
  pub stage : ℕ
  pub cause : BadCause

abbrev pub or_fault : Option Fault → ℕ → Option BadCause → Option Fault
or_fault (Some later) stage bad = Some later
or_fault None stage (Some cause) = Some (record { stage = stage; cause = cause })
or_fault None stage None = None

-- the last stage that has an error, and its error; the first stage has this number
abbrev pub fault_from : ℕ → List Pieces → Option Fault
fault_from stage [] = None
fault_from stage (c ∷ cuts) = or_fault (fault_from (suc stage) cuts) stage c.bad

abbrev pub fault_of : List Pieces → Option Fault
fault_of cuts = fault_from 1 cuts
