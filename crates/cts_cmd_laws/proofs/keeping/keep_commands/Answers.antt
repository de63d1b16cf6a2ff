use Rattle.std.proofs.Common.{◌∙◌, List, ap, subst}
use Rattle.std.specs.List.{list_all}
use Rattle.cts_def.specs.Packets.{DefinitionsData, PacketData, is_command}
use Rattle.cts_cmd_laws.specs.Sound.{AreCommands}
use Rattle.cts_cmd_laws.proofs.Kept.{are_commands}
use Rattle.cts_cmd_laws.proofs.keeping.keep_commands.Goals as goal

pub returns : goal.returns
returns c =
    let sound = are_commands c.as_slice.result.now c.keep_packets.ensures (ap (λ (cs : List PacketData). list_all is_command cs) c.as_slice.ensures ∙ c.definitions.invariant.command_packets) in
    subst AreCommands (c.as_slice.ensures ∙ ap (λ (d : DefinitionsData). d.commands) c.definitions.view_is) sound
