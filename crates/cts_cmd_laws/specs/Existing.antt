-- That there are bytes of a command, and of an injection.
use Rattle.std.specs.Prelude.{ℕ, List, Option, Some, None}
use Rattle.std.specs.List.{filter_map}
use Rattle.cts_def.specs.Packets.{DefinitionsData, PacketData}
use Rattle.cts_cmd.specs.declared.built.Built.{Built}
use Rattle.cts_cmd.specs.declared.request.Given.{Given}
use Rattle.cts_cmd.specs.declared.request.Request.{Request}
use Rattle.cts_cmd.specs.Builds.{AreBytes, IsBuilt}
use Rattle.cts_cmd.specs.Injects.{Injects, stood, with_item}

-- A command that the request is built to.
abbrev pub HasCommand : DefinitionsData → Request → Type 0
HasCommand d r = (b : Built) × IsBuilt d r b

-- the bytes that stand, if some do
abbrev pub StandAsBytes : Option (List ℕ) → Type 0
StandAsBytes None = Unit {0}
StandAsBytes (Some bytes) = AreBytes bytes

-- Bytes that the members leave of those that stand.
abbrev pub LeavesBytes : PacketData → Option (List ℕ) → List (List ℕ × Given) → Type 0
LeavesBytes p current members = (new : List ℕ) × Injects (filter_map (with_item p.items) members) (stood current p.length) new
