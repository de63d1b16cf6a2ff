-- The demo's command, and the sites that have it.
use Rattle.std.specs.Prelude.{◌≡◌, pos, false, [], ◌∷◌, codes, Some, None}
use Rattle.cts_bits.specs.declared.order.Order.TheVariants.{Big}
use Rattle.cts_def.specs.Items.{ItemData}
use Rattle.cts_def.specs.Packets.{PacketData}
use Rattle.cts_def.specs.Sites.{InterfaceData, SiteData}
use Rattle.cts_def.specs.declared.conversion.Conversion.TheVariants.{Plain}
use Rattle.cts_def.specs.declared.item_kind.ItemKind.TheVariants.{Uint}
use Rattle.cts_def.specs.declared.item_kind.Overflow.TheVariants.{Error}
use Rattle.cts_def.specs.declared.item_kind.Preset.TheVariants.{Whole}

-- by this number the instrument knows the command
abbrev pub opcode : ItemData
opcode = record {
  name = codes "OPCODE";
  kind = Uint;
  offset = pos 0;
  size = pos 8;
  order = Big;
  id = Some (pos 7);
  range = Some (pos 7, pos 7);
  preset = Whole (pos 7);
  states = [];
  conversion = Plain;
  limits = None;
  units = None;
  format = None;
  required = false;
  overflow = Error;
}

-- 0 to 10, and 5 where it is not given
abbrev pub duration : ItemData
duration = record {
  name = codes "DURATION";
  kind = Uint;
  offset = pos 8;
  size = pos 16;
  order = Big;
  id = None;
  range = Some (pos 0, pos 10);
  preset = Whole (pos 5);
  states = [];
  conversion = Plain;
  limits = None;
  units = None;
  format = None;
  required = false;
  overflow = Error;
}

abbrev pub collect : PacketData
collect = record { target = codes "INST"; name = codes "COLLECT"; items = opcode ∷ duration ∷ []; length = 3; variable = false; hazardous = false }

-- The site has the demo's one command, and the first of its two interfaces the target of it.
pub record HasDemoCommand (site : SiteData) : Type 0 where
  pub commands : site.definitions.commands ≡ collect ∷ []
  pub first : InterfaceData
  pub second : InterfaceData
  pub interfaces : site.interfaces ≡ first ∷ second ∷ []
  pub targets : first.targets ≡ codes "INST" ∷ []
