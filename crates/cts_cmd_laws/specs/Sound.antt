-- What definitions keep of themselves, as far as their commands and packets are written over bytes.
use Rattle.std.specs.Prelude.{List, IsTrue}
use Rattle.std.specs.List.{AllByRecursion}
use Rattle.cts_def.specs.declared.item_kind.Preset.{Preset}
use Rattle.cts_def.specs.declared.item_kind.Preset.TheVariants.{Whole, Raw}
use Rattle.cts_def.specs.Items.{ItemData, IsSoundItem}
use Rattle.cts_def.specs.Packets.{PacketData, IsSoundPacket, is_command}
use Rattle.cts_cmd.specs.Builds.{AreBytes}

-- a preset of a text or block is bytes
abbrev pub IsPreset : Preset → Type 0
IsPreset (Whole z) = Unit {0}
IsPreset (Raw bytes) = AreBytes bytes

-- What every item keeps.
pub record IsItem (i : ItemData) : Type 0 where
  pub sound : IsSoundItem i
  pub preset : IsPreset i.preset

-- What every packet keeps.
pub record IsPacket (p : PacketData) : Type 0 where
  pub sound : IsSoundPacket p
  pub items : AllByRecursion IsItem p.items

-- What every command keeps.
pub record IsCommand (c : PacketData) : Type 0 where
  pub packet : IsPacket c
  pub command : IsTrue (is_command c)

-- what all commands of definitions keep
abbrev pub AreCommands : List PacketData → Type 0
AreCommands commands = AllByRecursion IsCommand commands
