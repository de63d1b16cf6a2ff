-- Laws of the chains of a site.
use Rattle.std.specs.Prelude.{◌≡◌, ◌≤◌, ◌<◌, ℕ, ◌+◌, ◌*◌, List, [], length, Some, slice_get, IsTrue}
use Rattle.cts_def.specs.Makers.{first_slot, first_desk}
use Rattle.cts_def.specs.Protocols.{UseData, is_chain}
use Rattle.cts_def.specs.Sites.{InterfaceData, RouterData, SiteData}
use Rattle.cts_framing.specs.Chains.{framings_of, framings_at}
use Rattle.cts_framing.specs.Laws.{AllSound}

-- each one of a site's chains is of sound framings
abbrev pub ChainsAreSound : Type 0
ChainsAreSound = (site : SiteData) (by : ℕ) → AllSound (framings_at site by)

-- Interface k has the number k, and slot s of router r the number first_slot + 2r + s. The bytes of each are cut by the
-- protocols of its interface or router that read, in order, and no other maker has framings.
pub record MakersHaveTheirChains (site : SiteData) : Type 0 where
  pub interface : (k : ℕ) (i : InterfaceData) → k < first_slot → slice_get site.interfaces k ≡ Some i → framings_at site k ≡ framings_of i.chain
  pub slot : (r s : ℕ) (router : RouterData) → s < 2 → first_slot + 2 * r + s < first_desk → slice_get site.routers r ≡ Some router
      → framings_at site (first_slot + 2 * r + s) ≡ framings_of router.chain
  pub no_interface : (k : ℕ) → k < first_slot → length site.interfaces ≤ k → framings_at site k ≡ []
  pub no_router : (r s : ℕ) → s < 2 → length site.routers ≤ r → framings_at site (first_slot + 2 * r + s) ≡ []
  pub others : (by : ℕ) → first_desk ≤ by → framings_at site by ≡ []

abbrev pub AllMakersHaveTheirChains : Type 0
AllMakersHaveTheirChains = (site : SiteData) → MakersHaveTheirChains site

-- a chain that a site may have cuts in one to four stages
abbrev pub ChainsHaveStages : Type 0
ChainsHaveStages = (uses : List UseData) → IsTrue (is_chain uses) → (1 ≤ length (framings_of uses)) × (length (framings_of uses) ≤ 4)
