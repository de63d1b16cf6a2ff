-- The phase in which the world of a site is made: the shelf has the boxes of all its chains.
use Rattle.std.specs.Prelude.{List, Option, option_map}
use Rattle.cts_chain.specs.Builds.{use_specs}
use Rattle.cts_connection.specs.LineChains.{line_uses}
use Rattle.cts_chain.specs.Stocking.{first_short, needed}
use Rattle.cts_def.specs.declared.proto_spec.Kind.{Kind}
use Rattle.cts_def.specs.Protocols.{SpecData}
use Rattle.cts_def.specs.Sites.{SiteData}
use Rattle.cts_proto.specs.Meaning.{Meaning}
use Rattle.cts_proto.specs.Stock.{stocked}
use Rattle.cts_run.specs.Phases.{Phase, asking}
use Rattle.cts_run.specs.declared.halt.Halt.{Halt}
use Rattle.cts_run.specs.declared.halt.Halt.TheVariants.{ShelfEmpty}

-- the protocols of all chains of a site, one chain for each interface and two for each router
abbrev pub site_specs : SiteData → List SpecData
site_specs site = use_specs (line_uses site)

-- the first kind, in their order, of which these chains together need more boxes than there are
abbrev pub short_kind : List Meaning → SiteData → Option Kind
short_kind stock site = first_short stock (site_specs site)

-- how many boxes of a short kind are needed, and how many there are
abbrev pub short_halt : List Meaning → SiteData → Kind → Halt
short_halt stock site kind = ShelfEmpty kind (needed kind (site_specs site)) (stocked kind stock)

abbrev pub shelf_phase : List Meaning → SiteData → Phase
shelf_phase stock site = asking (option_map (short_halt stock site) (short_kind stock site))
