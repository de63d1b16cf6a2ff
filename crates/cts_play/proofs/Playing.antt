-- The site in which a log is played keeps the rules of sites.
use Rattle.std.proofs.Common.{◌≡◌, ℕ, List, [], ◌++◌, refl, sym, subst, arith, append-nil}
use Rattle.std.specs.Prelude.{IsTrue, Option, None}
use Rattle.std.specs.List.{IsDistinct, list_all}
use Rattle.cts_def.specs.Items.{is_same}
use Rattle.cts_def.specs.Protocols.{is_layout}
use Rattle.cts_def.specs.Sites.{InterfaceData, IsSoundSite, RouterData, SiteData, is_known_target, targets_of}
use Rattle.cts_play.specs.Played.{played}

pub played_sound : (layout : ℕ) (s : SiteData) → IsTrue (is_layout layout) → IsSoundSite s → IsSoundSite (played layout s)
unfolding IsDistinct
played_sound layout s l h =
    let same : targets_of s.interfaces ++ [] ≡ targets_of s.interfaces = append-nil (targets_of s.interfaces) in
    record {
      few_interfaces = omega arith;
      few_routers = omega arith;
      interface_names = (tt, tt);
      router_names = tt;
      targets = subst (IsDistinct is_same) (sym same) h.targets;
      known_targets = subst (λ (ts : List (List ℕ)). IsTrue (list_all (is_known_target s.definitions) ts)) (sym same) h.known_targets;
      routes = refl;
      interface_packets = ((tt, tt), tt);
      router_packets = tt;
      api_port = h.api_port;
      some_desks = h.some_desks;
      few_desks = h.few_desks;
      log_layout = l;
      log_cycle = refl;
    }

abbrev made_of : SiteData → ℕ → List InterfaceData → List RouterData → SiteData
made_of s layout interfaces routers = record {
  definitions = s.definitions;
  interfaces = interfaces;
  routers = routers;
  api_port = s.api_port;
  desks = s.desks;
  log_layout = layout;
  log_cycle = None;
}

-- the same of parts that are those of the played site
pub sound_by : (layout : ℕ) (s : SiteData) → IsTrue (is_layout layout) → IsSoundSite s → (interfaces : List InterfaceData) (routers : List RouterData)
    → interfaces ≡ (played layout s).interfaces → routers ≡ [] → IsSoundSite (made_of s layout interfaces routers)
sound_by layout s l h interfaces routers e r =
    subst (λ (is : List InterfaceData). IsSoundSite (made_of s layout is routers)) (sym e)
    (subst (λ (rs : List RouterData). IsSoundSite (made_of s layout (played layout s).interfaces rs)) (sym r) (played_sound layout s l h))
