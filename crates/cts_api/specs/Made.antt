-- The bytes of what a desk appends: those of a command that is built, and those of a packet that is injected. The rules of both are
-- relations between the bytes before and after (`cts_cmd`); here are the bytes themselves, so that each call has a reply.
use Rattle.std.specs.Prelude.{◌≡◌, ℕ, ℤ, pos, negsuc, suc, ◌+◌, ◌-◌, ◌/◌, ◌^◌, unsigned_abs, List, [], ◌∷◌, ◌++◌, length, take, drop, replicate}
use Rattle.std.specs.Prelude.{Option, Some, None, slice_get, unwrap_or, if◌then◌else◌}
use Rattle.std.specs.List.{position}
use Rattle.cts_cmd.specs.Builds.{AreBytes, IsBuilt, place_of}
use Rattle.cts_cmd.specs.Contents.{content, content_given}
use Rattle.cts_cmd.specs.Injects.{Injects, base, from_base}
use Rattle.cts_cmd.specs.declared.built.Built.{Built}
use Rattle.cts_cmd.specs.declared.request.Given.{Given}
use Rattle.cts_cmd.specs.declared.request.Request.{Request}
use Rattle.cts_def.specs.Items.{ItemData, is_to_the_end}
use Rattle.cts_def.specs.Packets.{DefinitionsData, PacketData, is_named}
use Rattle.cts_def.specs.declared.item_kind.Preset.{Preset}
use Rattle.cts_def.specs.declared.item_kind.Preset.TheVariants.{Whole, Raw}
use Rattle.cts_encode.specs.Spelled.{with_field}

-- the bits that spell a number in a field of `bits` bits, a negative one in two's complement
abbrev pub bits_for : ℕ → ℤ → ℕ
bits_for bits (pos n) = n
bits_for bits (negsuc n) = 2 ^ bits - suc n

-- what an item's field holds is written over some bytes; an item to the end stands after all
abbrev pub with_content : ItemData → Preset → List ℕ → List ℕ
with_content i (Whole z) old = with_field (place_of i) (bits_for (place_of i).bits z) old
with_content i (Raw bytes) old =
    let at = unsigned_abs i.offset / 8 in
    if is_to_the_end i then old ++ bytes else take at old ++ (bytes ++ drop (at + length bytes) old)

-- ---- commands

-- each item is written over what those before it left
abbrev pub with_contents : (ItemData → Preset) → List ItemData → List ℕ → List ℕ
with_contents holds [] old = old
with_contents holds (i ∷ items) old = with_contents holds items (with_content i (holds i) old)

-- zeros of the command's length, over which its items are written in order of definition
unfoldable pub command_bytes : List (List ℕ × Given) → PacketData → List ℕ
command_bytes params p = with_contents (content params) p.items (replicate p.length 0)

abbrev pub bytes_in : Request → Option PacketData → List ℕ
bytes_in r None = []
bytes_in r (Some p) = command_bytes r.params p

abbrev pub built_at : DefinitionsData → Request → ℕ → Built
built_at d r n = record { command = n; bytes = bytes_in r (slice_get d.commands n) }

-- the command that a request names, by its number, and its bytes; a request that no check refuses names one
abbrev pub built : DefinitionsData → Request → Built
built d r = built_at d r (unwrap_or (position (is_named r.target r.command) d.commands) 0)

-- What is built of a request is that command. So the bytes that are sent have all that is said of those that are built.
abbrev pub CommandsAreBuilt : Type 0
CommandsAreBuilt = (d : DefinitionsData) (r : Request) (b : Built) → IsBuilt d r b → built d r ≡ b

-- ---- injections

-- what a member gives its item, written after the byte from which the item's offset counts
abbrev pub with_member : ItemData × Given → List ℕ → List ℕ
with_member m old =
    let at = base (length old) m.0 in
    take at old ++ with_content (from_base m.0) (content_given m.0 m.1) (drop at old)

-- each member is written over what those before it left
unfoldable pub injected : List (ItemData × Given) → List ℕ → List ℕ
injected [] old = old
injected (m ∷ ms) old = injected ms (with_member m old)

-- What an injection leaves are the bytes.
abbrev pub InjectionsAreWritten : Type 0
InjectionsAreWritten = (members : List (ItemData × Given)) (old new : List ℕ) → AreBytes old → Injects members old new → injected members old ≡ new
