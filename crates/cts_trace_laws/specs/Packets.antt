-- Packets as PREIDENTIFIED puts them into a stream and takes them out of it.
use Rattle.std.specs.Prelude.{◌≢◌, ℕ, List, [], Option, Some}
use Rattle.std.specs.List.{AllByRecursion}
use Rattle.cts_def.specs.Protocols.{PreidentifiedData, Preidentified}
use Rattle.cts_framing.specs.Framing.{Framing, Heading, Output}
use Rattle.cts_framing.specs.Layouts.{has_flags}
use Rattle.cts_framing.specs.Rows.{framing_of}
use Rattle.cts_encode.specs.ReadBack.{FitsHeading, read_as}
use Rattle.cts_encode.specs.Spelled.{spelling_of}

-- a packet with its time and its names
pub record Packed : Type 0 where
  pub heading : Heading
  pub bytes : List ℕ

-- it has bytes, and its time and names have a spelling in a head
pub record FitsPacked (p : Packed) : Type 0 where
  pub heading : FitsHeading p.heading
  pub some : p.bytes ≢ []

abbrev pub AllFit : List Packed → Type 0
AllFit packets = AllByRecursion FitsPacked packets

-- what is put of a packet
abbrev pub put_by : PreidentifiedData → Packed → Option (List ℕ)
put_by d p = spelling_of (Preidentified d) p.heading p.bytes

-- what is taken of it: its bytes, its time and its names, and the stored flag where heads have flags
abbrev pub taken : PreidentifiedData → Packed → Output
taken d p = record { bytes = p.bytes; heading = Some (read_as (has_flags d.layout) p.heading) }

abbrev pub cut_by : PreidentifiedData → Framing
cut_by d = framing_of (Preidentified d)
