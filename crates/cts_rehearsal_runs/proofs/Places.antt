-- The lines and chains of the demo's site.
use Rattle.std.proofs.Common.{◌≡◌, ◌∙◌, ℕ, Bool, true, false, List, [], ◌∷◌, length, map, refl, ap, lt-ltb}
use Rattle.std.specs.Prelude.{◌&&◌, ◌||◌, nat_le, nat_lt, slice_index_or}
use Rattle.cts_def.specs.Makers.{first_slot, router_of}
use Rattle.cts_def.specs.Sites.{InterfaceData, SiteData}
use Rattle.cts_entry.specs.Workers.{is_interface}
use Rattle.cts_framing.specs.Chains.{framings_of}
use Rattle.cts_framing.specs.Rows.{framing_of}
use Rattle.cts_core.specs.Environments.{site_environment}
use Rattle.cts_core.specs.States.{is_line}
use Rattle.cts_rehearsal_runs.specs.Protocols.{frames, lines}
use Rattle.cts_rehearsal_runs.specs.Sites.{IsDemoSite}

either : (a b : Bool) → b ≡ true → (a || b) ≡ true
either true b e = refl
either false b e = e

module _ (site : SiteData) (demo : IsDemoSite site) where
  pub interface_0 : is_interface site 0 ≡ true
  interface_0 = ap (λ (is : List InterfaceData). nat_lt 0 (length is)) demo.command.interfaces

  pub interface_1 : is_interface site 1 ≡ true
  interface_1 = ap (λ (is : List InterfaceData). nat_lt 1 (length is)) demo.command.interfaces

  pub line_0 : is_line (site_environment site) 0 ≡ true
  line_0 = interface_0

  pub line_1 : is_line (site_environment site) 1 ≡ true
  line_1 = interface_1

  pub line_16 : is_line (site_environment site) 16 ≡ true
  line_16 = ap (λ (n : ℕ). (nat_le first_slot 16 && nat_lt (router_of 16) n) || is_interface site 16) demo.router

  pub desk_0 : (site_environment site).is_desk 0 ≡ true
  desk_0 = lt-ltb 0 site.desks demo.desk

  pub chain_0 : (site_environment site).routing.chain 0 ≡ framing_of frames ∷ []
  chain_0 =
      ap (λ (is : List InterfaceData). framings_of (slice_index_or (map (λ (i : InterfaceData). i.chain) is) 0 [])) demo.command.interfaces
      ∙ ap framings_of demo.instrument

  pub chain_1 : (site_environment site).routing.chain 1 ≡ framing_of lines ∷ []
  chain_1 =
      ap (λ (is : List InterfaceData). framings_of (slice_index_or (map (λ (i : InterfaceData). i.chain) is) 1 [])) demo.command.interfaces
      ∙ ap framings_of demo.unit
