-- The chains of a site's interfaces have a stage.
use Rattle.std.proofs.Common.{◌≡◌, ℕ, zero, suc, ◌≤◌, true, List, [], ◌∷◌, length, map, sym, subst, arith}
use Rattle.std.specs.Prelude.{IsTrue, nat_lt, slice_index_or}
use Rattle.std.specs.List.{AllByRecursion}
use Rattle.cts_def.specs.Protocols.{is_chain}
use Rattle.cts_def.specs.Sites.{InterfaceData, IsSoundSite, SiteData}
use Rattle.cts_framing.specs.Chains.{framings_of}
use Rattle.cts_framing.proofs.Chainings.{chains_have_stages, interface_framings}
use Rattle.cts_framing.proofs.Fronts.{lt_tells, lt_test}
use Rattle.cts_framing.specs.Framing.{Framing}
use Rattle.cts_play_laws.specs.Keeping.{HaveStages}

stage_at : (interfaces : List InterfaceData) (by : ℕ) → AllByRecursion (λ (i : InterfaceData). IsTrue (is_chain i.chain)) interfaces → nat_lt by (length interfaces) ≡ true
    → 1 ≤ length (framings_of (slice_index_or (map (λ (i : InterfaceData). i.chain) interfaces) by []))
stage_at [] by all h = absurd (omega (arith, lt_tells by 0 h))
stage_at (i ∷ interfaces) zero all h = (chains_have_stages i.chain all.0).0
stage_at (i ∷ interfaces) (suc by) all h = stage_at interfaces by all.1 (let l = lt_tells (suc by) (length (i ∷ interfaces)) h in lt_test by (length interfaces) (omega (arith, l)))

pub have_stages : (site : SiteData) → IsSoundSite site → AllByRecursion (λ (i : InterfaceData). IsTrue (is_chain i.chain)) site.interfaces → HaveStages site
have_stages site sound all by h =
    subst (λ (fs : List Framing). 1 ≤ length fs) (sym (interface_framings site by (omega (arith, sound.few_interfaces, lt_tells by (length site.interfaces) h)))) (stage_at site.interfaces by all h)
