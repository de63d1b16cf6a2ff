-- The protocols of an interface or router that is not complete: each as it will stand in the chain. FIXED has no packets
-- before all targets are known.
use Rattle.std.specs.Prelude.{ℕ, Bool, true, false, not, ◌&&◌, List, [], ◌∷◌, ◌++◌, if◌then◌else◌}
use Rattle.std.specs.List.{list_any}
use Rattle.cts_def.specs.Protocols as spec
use Rattle.cts_def.specs.Protocols.{SpecData, UseData, spec_data, is_sound_spec, reads_packets}
use Rattle.cts_plan.specs.declared.step.Parameters.{Parameters}
use Rattle.cts_plan.specs.declared.step.Parameters.TheVariants as parameters

-- what contracts see of a protocol: the line of its statement, and what it is in the chain
pub record StepData : Type 0 where
  pub line : ℕ
  pub used : UseData

abbrev pub spec_in : Parameters → SpecData
spec_in (parameters.Ready s) = spec_data s
spec_in (parameters.Fixed f) = spec.Fixed f

abbrev pub is_fixed : SpecData → Bool
is_fixed (spec.Fixed f) = true
is_fixed _ = false

-- parameters that need no packets keep the rules of protocols
abbrev pub are_kept : Parameters → Bool
are_kept (parameters.Ready s) = not (is_fixed (spec_data s)) && is_sound_spec (spec_data s)
are_kept (parameters.Fixed f) = true

-- ---- the protocols so far

abbrev pub step_reads : StepData → Bool
step_reads s = s.used.reads

-- the protocol reads and gives packets, and not bytes
abbrev pub step_reads_packets : StepData → Bool
step_reads_packets s = reads_packets s.used

-- no protocol reads after one that reads packets
abbrev pub are_packets_last : List StepData → Bool
are_packets_last [] = true
are_packets_last (s ∷ ss) = not (step_reads_packets s && list_any step_reads ss) && are_packets_last ss

-- a BURST that reads, with its defaults
abbrev pub added : StepData
added = record { line = 0; used = record { spec = spec.Burst (record { discard = 0; sync = []; fill = false }); reads = true; writes = false } }

-- the protocols with the one that is added where none reads
abbrev pub whole_chain : List StepData → List StepData
whole_chain steps = if list_any step_reads steps then steps else steps ++ added ∷ []
