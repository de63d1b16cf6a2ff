-- What one device's connection makes of a stream.
use Rattle.std.specs.Prelude.{◌≡◌, ◌≤◌, ℕ, ◌+◌, Bool, true, false, List, [], ◌∷◌, ◌++◌, length, map, nat_lt, sum_by, Option}
use Rattle.std.specs.List.{AllByRecursion}
use Rattle.cts_def.specs.declared.time.Time.{Time}
use Rattle.cts_core.specs.Environments.{environment_of}
use Rattle.cts_core.specs.Runs.{Did, Ending, Finished, Runs}
use Rattle.cts_core.specs.States.{Environment, is_piece, opening}
use Rattle.cts_core_laws.specs.Told.{history_of}
use Rattle.cts_entry.specs.declared.entry.Entry.{Entry}
use Rattle.cts_entry.specs.declared.event.Event.{Event}
use Rattle.cts_entry.specs.declared.event.Event.TheVariants.{Finish, Opens, Piece, SetTime}
use Rattle.cts_entry.specs.declared.what.What.TheVariants.{Closed, Opened}
use Rattle.cts_entry.specs.declared.why.Why.TheVariants.{PeerEnded}
use Rattle.cts_framing.specs.Framing.{Framing, IsSound, Output}
use Rattle.cts_framing.specs.Packets.{capped, joined}
use Rattle.cts_trace_laws.specs.Streams.{AreReadBack, Holds, spoken, stream}
use Rattle.cts_table.specs.declared.basis.Basis.{Basis}
use Rattle.cts_trace.specs.Routing.{packet_entries}

-- A device is connected, its pieces come, the clock is set, and the device ends the connection.
abbrev pub hearing : ℕ → List (List ℕ) → List Time → List Event
hearing m pieces times = Opens m ∷ (map (Piece m) pieces ++ (map SetTime times ++ Finish m PeerEnded ∷ []))

-- where the clock stands after it was set to these times
abbrev pub clock_after : Time → List Time → Time
clock_after now [] = now
clock_after now (t ∷ times) = clock_after t times

abbrev pub first_time : Time
first_time = record { seconds = 0; micros = 0 }

-- the first entry of a connection
abbrev pub opened_first : ℕ → Entry
opened_first m = record { by = m; time = first_time; what = Opened }

-- its last entry: so many bytes were in no frame, and nothing else is lost
abbrev pub closed_last : ℕ → Time → ℕ → Entry
closed_last m now held = record { by = m; time = now; what = Closed PeerEnded (record { held = capped held ∷ 0 ∷ 0 ∷ 0 ∷ []; skipped = 0; empty = 0 }) 0 0 }

-- the history of such a connection: its packets stand between its Opened and its Closed
abbrev pub heard : Environment → ℕ → List Time → List Output → ℕ → List Entry
heard env m times outs held = opened_first m ∷ (packet_entries env.routing first_time m outs ++ closed_last m (clock_after first_time times) held ∷ [])

-- a device whose bytes are cut by one framing, all as one list
pub record IsDevice (interface : ℕ → Bool) (chain : ℕ → List Framing) (m : ℕ) (f : Framing) : Type 0 where
  pub is_interface : interface m ≡ true
  pub chain_is : chain m ≡ f ∷ []
  pub sound : IsSound f
  pub all_bytes : f.by_piece ≡ false

-- What a device hears of the first bytes of a stream, however they are cut into pieces: the history has the packets of the spellings
-- that stand whole in them, and its Closed the bytes after these.
abbrev pub DevicesHear : Type 0 → Environment → Type 0
DevicesHear X env = (m : ℕ) (f : Framing) (spell : X → Option (List ℕ)) (out : X → Output) (xs : List X)
    (pieces : List (List ℕ)) (more : List ℕ) (times : List Time) (dids : List Did)
    → IsDevice env.routing.is_interface env.routing.chain m f → AreReadBack f spell out (spoken spell xs) → joined pieces ++ more ≡ stream spell xs
    → Runs env opening (hearing m pieces times) dids Finished
    → (whole : List X) × (rest : List ℕ) × Holds spell xs (joined pieces) whole rest × (history_of dids ≡ heard env m times (map out whole) (length rest))

-- pieces that may come, and times that a clock may be set to
abbrev pub MayCome : List (List ℕ) → Type 0
MayCome pieces = AllByRecursion (λ (p : List ℕ). is_piece p ≡ true) pieces

abbrev pub MayBeSet : List Time → Type 0
MayBeSet times = AllByRecursion (λ (t : Time). nat_lt t.micros 1000000 ≡ true) times

-- a history has room for an Opened and the packets of these outputs
pub record HasRoomFor (entries bytes : ℕ) (outs : List Output) : Type 0 where
  pub few : 1 + length outs ≤ entries
  pub short : sum_by (λ (o : Output). length o.bytes) outs ≤ bytes

-- And all of its events are done where there is room for all of the stream.
abbrev pub DevicesEnd : Type 0 → Environment → Type 0
DevicesEnd X env = (m : ℕ) (f : Framing) (spell : X → Option (List ℕ)) (out : X → Output) (xs : List X)
    (pieces : List (List ℕ)) (more : List ℕ) (times : List Time) (dids : List Did) (ending : Ending)
    → IsDevice env.routing.is_interface env.routing.chain m f → AreReadBack f spell out (spoken spell xs) → joined pieces ++ more ≡ stream spell xs
    → MayCome pieces → MayBeSet times → HasRoomFor env.most_entries env.most_bytes (map out (spoken spell xs))
    → Runs env opening (hearing m pieces times) dids ending → ending ≡ Finished

abbrev pub SitesEnd : Type 0 → Type 0
SitesEnd X = (base : Basis) → DevicesEnd X (environment_of base)

-- the same in the environment of each site, whatever the limits of its history
abbrev pub SitesHear : Type 0 → Type 0
SitesHear X = (base : Basis) → DevicesHear X (environment_of base)
