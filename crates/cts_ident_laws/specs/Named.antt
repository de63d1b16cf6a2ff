-- Packets that are known again by their names.
use Rattle.std.specs.Prelude.{◌≡◌, ◌<◌, ℕ, false, List, length, map, Some, IsTrue, slice_get}
use Rattle.std.specs.List.{AllByRecursion, IsDistinct}
use Rattle.cts_base.specs.Names.{upper}
use Rattle.cts_def.specs.Items.{is_same}
use Rattle.cts_def.specs.Makers.{first_slot}
use Rattle.cts_def.specs.Names.{names_at}
use Rattle.cts_def.specs.Packets.{DefinitionsData, PacketData, have_same_names, is_of, unknown}
use Rattle.cts_def.specs.Sites.{SiteData, targets_at}
use Rattle.cts_def.specs.declared.ident.Ident.{Ident}
use Rattle.cts_def.specs.declared.ident.Ident.TheVariants.{Known, Unknown}
use Rattle.cts_ident.specs.Identification.{named}

-- A packet's names are in upper case and have at most 255 bytes, and its target is not that of the packets which no definition fits.
pub record IsNamed (p : PacketData) : Type 0 where
  pub target : map upper p.target ≡ p.target
  pub name : map upper p.name ≡ p.name
  pub short_target : length p.target < 256
  pub short_name : length p.name < 256
  pub known : is_same p.target unknown ≡ false

-- all telemetry packets have such names, and no two the same
pub record HaveNames (d : DefinitionsData) : Type 0 where
  pub distinct : IsDistinct have_same_names d.telemetry
  pub each : AllByRecursion IsNamed d.telemetry

-- the target and the name that stand for a packet outside, which are UNKNOWN where no definition fits
abbrev pub outer_names : DefinitionsData → Ident → List ℕ × List ℕ
outer_names d (Known number) = names_at d.telemetry number
outer_names d Unknown = (unknown, unknown)

-- no definition fits, or it is a packet of these targets
abbrev pub IsOfTargets : DefinitionsData → List (List ℕ) → Ident → Type 0
IsOfTargets d targets (Known number) = (p : PacketData) × (slice_get d.telemetry number ≡ Some p) × IsTrue (is_of targets p)
IsOfTargets d targets Unknown = Unit {0}

-- By its names an interface knows each packet of its targets again, and knows none where no definition fitted.
abbrev pub NamesAreKnown : Type 0
NamesAreKnown = (site : SiteData) (interface : ℕ) (i : Ident) → interface < first_slot → HaveNames site.definitions
    → IsOfTargets site.definitions (targets_at site.interfaces interface) i
    → named site interface (outer_names site.definitions i).0 (outer_names site.definitions i).1 ≡ i
