-- The makers that a word names in a site, in any case.
use Rattle.std.specs.Prelude.{ℕ, ◌+◌, ◌-◌, ◌*◌, List, length, take, drop, codes, Option, Some, None, if◌then◌else◌}
use Rattle.std.specs.List.{position}
use Rattle.std.specs.Option.{option_or}
use Rattle.std.specs.Str.{bytes_eq}
use Rattle.cts_base.specs.Names.{spells}
use Rattle.cts_def.specs.Makers.{first_slot}
use Rattle.cts_def.specs.Sites.{InterfaceData, RouterData, SiteData}

-- what two say together, if each says something
abbrev pub both : {A B C : Type 0} → (A → B → C) → Option A → Option B → Option C
both f None second = None
both f (Some a) None = None
both f (Some a) (Some b) = Some (f a b)

-- the number of the interface of this name
abbrev pub interface_named : SiteData → List ℕ → Option ℕ
interface_named site word = position (λ (i : InterfaceData). spells word i.name) site.interfaces

-- the number of the router of this name
abbrev pub router_named : SiteData → List ℕ → Option ℕ
router_named site word = position (λ (r : RouterData). spells word r.name) site.routers

-- which of a router's two slots
abbrev pub side_of : List ℕ → Option ℕ
side_of end =
    if bytes_eq end (codes "/0") then Some 0
    else if bytes_eq end (codes "/1") then Some 1
    else None

abbrev pub slot_number : ℕ → ℕ → ℕ
slot_number side router = first_slot + 2 * router + side

-- a slot is named by its router, and `/0` or `/1` after it
unfoldable pub slot_named : SiteData → List ℕ → Option ℕ
slot_named site word =
    let name_length = length word - 2 in
    both slot_number (side_of (drop name_length word)) (router_named site (take name_length word))

-- an interface or a slot
abbrev pub maker_named : SiteData → List ℕ → Option ℕ
maker_named site word = option_or (interface_named site word) (slot_named site word)
