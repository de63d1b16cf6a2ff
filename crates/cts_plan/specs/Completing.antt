-- What is judged when an interface or router is complete: at the statement that opens the next one, or at the end.
use Rattle.std.specs.Prelude.{ℕ, ◌+◌, Bool, not, ◌&&◌, ◌||◌, ◌==◌, nat_lt, List, [], ◌∷◌, length, Option, Some, None, if◌then◌else◌}
use Rattle.std.specs.List.{list_any, list_all}
use Rattle.cts_def.specs.Most.{most_protocols}
use Rattle.cts_def.specs.Packets.{PacketData, DefinitionsData, is_of}
use Rattle.cts_def.specs.Protocols as spec
use Rattle.cts_def.specs.Protocols.{FixedData, SpecData, is_start_within}
use Rattle.cts_def.specs.Sites.{SiteData, packets_of, routed_targets}
use Rattle.cts_def.specs.Starts.{StartData}
use Rattle.cts_words.specs.Refusals.{Refusal, or_else}
use Rattle.cts_reader.specs.Reading.{at_line}
use Rattle.cts_plan.specs.declared.draft.Draft.{Draft}
use Rattle.cts_plan.specs.declared.opened.Current.{Current}
use Rattle.cts_plan.specs.declared.opened.Current.TheVariants as current
use Rattle.cts_plan.specs.declared.fault.SiteCause.{SiteCause}
use Rattle.cts_plan.specs.declared.fault.SiteCause.TheVariants.{ChainTooLong, MinIdSize, VariableLength}
use Rattle.cts_plan.specs.Steps.{StepData, whole_chain}
use Rattle.cts_plan.specs.Standing.{starts_of}

abbrev pub Refused : Type 0
Refused = Refusal SiteCause

-- a min id size of 0, one that ends before the sync does, or with which a packet is too short or an id field lies outside
abbrev pub is_bad_min_id : FixedData → List StartData → Bool
is_bad_min_id f starts =
    f.min_id == 0 || nat_lt (f.discard + f.min_id) (length f.sync) || not (list_all (is_start_within f.min_id) starts)

-- a packet of the targets whose length is not known
abbrev pub have_variable : List (List ℕ) → List PacketData → Bool
have_variable targets packets = list_any (λ (p : PacketData). is_of targets p && p.variable) packets

abbrev pub cause_of_fixed : List (List ℕ) → List PacketData → FixedData → Option SiteCause
cause_of_fixed targets packets f =
    if is_bad_min_id f (starts_of targets packets) then Some MinIdSize
    else if have_variable targets packets then Some VariableLength
    else None

-- what is wrong with a protocol of an interface or router with the targets
abbrev pub cause_of_spec : DefinitionsData → List (List ℕ) → SpecData → Option SiteCause
cause_of_spec d targets (spec.Fixed f) = cause_of_fixed targets (packets_of d f.telemetry) f
cause_of_spec d targets s = None

-- at its own line
abbrev pub step_fault : DefinitionsData → List (List ℕ) → StepData → Option Refused
step_fault d targets s = at_line s.line (cause_of_spec d targets s.used.spec)

abbrev pub first_step_fault : DefinitionsData → List (List ℕ) → List StepData → Option Refused
first_step_fault d targets [] = None
first_step_fault d targets (s ∷ ss) = or_else (step_fault d targets s) (first_step_fault d targets ss)

-- What is wrong with the interface or router of this line: with the protocol that is added, its chain is too long, or the
-- first of its FIXED protocols is wrong for the targets.
abbrev pub fault_of : DefinitionsData → List (List ℕ) → ℕ → List StepData → Option Refused
fault_of d targets n steps =
    if nat_lt most_protocols (length (whole_chain steps)) then Some (n, ChainTooLong)
    else first_step_fault d targets steps

-- FIXED looks among the packets of the targets of the interface, or of all interfaces that are routed to the router.
abbrev pub fault_in : SiteData → Current → Option Refused
fault_in site current.Nothing = None
fault_in site (current.Interface i) = fault_of site.definitions i.targets i.line i.chain
fault_in site (current.Router r) = fault_of site.definitions (routed_targets site.interfaces r.routes) r.line r.chain

-- what is wrong with the interface or router that is completed now
abbrev pub due : Draft → Option Refused
due s = fault_in s.site s.current
