-- What the logs of a run have.
use Rattle.std.specs.Prelude.{ℕ, ◌+◌, List, [], ◌∷◌}
use Rattle.std.specs.List.{flat_map}
use Rattle.cts_entry.specs.declared.event.Event.{Event}
use Rattle.cts_entry.specs.declared.event.Effect.{Effect}
use Rattle.cts_entry.specs.declared.event.Effect.TheVariants.{Posted, Reply, Written, Logged, Routed}
use Rattle.cts_core.specs.Runs.{Did, drained}

-- how many entries the events gave to the logs that were done
abbrev pub drained_by : List Event → List Did → ℕ
drained_by [] dids = 0
drained_by (event ∷ events) [] = 0
drained_by (event ∷ events) (did ∷ dids) = drained event + drained_by events dids

abbrev pub packets_in : Effect → List ℕ
packets_in Posted = []
packets_in (Reply desk front text) = []
packets_in (Written interface bytes) = []
packets_in (Logged packets commands) = packets
packets_in (Routed slot bytes) = []

abbrev pub commands_in : Effect → List ℕ
commands_in Posted = []
commands_in (Reply desk front text) = []
commands_in (Written interface bytes) = []
commands_in (Logged packets commands) = commands
commands_in (Routed slot bytes) = []

-- all that was given to the log of packets, and to that of commands
abbrev pub packets_logged : List Did → List ℕ
packets_logged dids = flat_map (λ d. packets_in d.effect) dids

abbrev pub commands_logged : List Did → List ℕ
commands_logged dids = flat_map (λ d. commands_in d.effect) dids
