-- What a hub ties is tied as the laws of hubs want it.
use Rattle.std.specs.Prelude.{◌≡◌, ℕ, true, Some, Ok, slice_get}
use Rattle.cts_def.specs.Makers.{router_of}
use Rattle.cts_def.specs.Protocols.{PreidentifiedData}
use Rattle.cts_def.specs.Sites.{InterfaceData, IsSoundSite, RouterData, SiteData}
use Rattle.cts_entry.specs.Workers.{is_slot}
use Rattle.cts_hub.specs.Ties.{HubIs}
use Rattle.cts_ident_laws.specs.Named.{HaveNames}
use Rattle.cts_play_laws.specs.Hubs.{AreTied}

-- Each slot of a router that a hub ties to an interface is tied to it, by the parameters of the one protocol that both have.
abbrev pub HubsAreTied : Type 0
HubsAreTied = (above below : SiteData) (slot m hub : ℕ) (r : RouterData) (i : InterfaceData) → IsSoundSite above → IsSoundSite below
    → HaveNames below.definitions → is_slot above slot ≡ true → slice_get above.routers (router_of slot) ≡ Some r
    → slice_get below.interfaces m ≡ Some i → HubIs above r below i m (Ok hub) → (d : PreidentifiedData) × AreTied d above slot below m
