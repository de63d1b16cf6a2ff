use Rattle.std.proofs.Common.{◌∙◌, ap, ◌++◌, ◌∷◌, [], refl}
use Rattle.cts_defstatement.specs.declared.line.Line.TheVariants as line
use Rattle.cts_defread.specs.declared.drafted.Drafted.{Drafted}
use Rattle.cts_defread.proofs.Clean.{clean}
use Rattle.cts_defread.proofs.KeptPacket.{known_target, named, telemetry_kept, command_kept}
use Rattle.cts_defread.proofs.Taken.{both_ok}
use Rattle.cts_defread.proofs.draft.Draft.add_packet.Goals as goal

pub new_packet-requires : goal.new_packet-requires
new_packet-requires c =
    known_target c.args.self.now.packets.items c.args.self.now.set_names.items c.args.head (clean c.args.self.now.packets.items c.args.self.now.set_names.items (line.Packet c.args.head) c.requires.clean)

pub returns-in-Telemetry-clause-kept : goal.returns-in-Telemetry-clause-kept
returns-in-Telemetry-clause-kept c =
    both_ok c.know_packet.result
    (λ known counted.
    telemetry_kept c.args.self.now _ c.args.head c.in-Telemetry.is c.requires.kept
    (clean c.args.self.now.packets.items c.args.self.now.set_names.items (line.Packet c.args.head) c.requires.clean)
    (record { sets = refl; set_names = refl; item_count = refl }) (record { items = c.clear.ensures.empty; states = c.clear-2.ensures.empty; ends = refl; ended = refl; filled = refl })
    (c.in_ok-push.ensures.items ∙ ap (λ (d : Drafted). c.args.self.now.packets.items ++ d ∷ []) c.new_packet.ensures)
    (named c.args.self.now.telemetry c.know_packet.new.known _ _ c.in_ok-names.ensures known) counted refl refl)
    c.know_packet.ensures.known c.know_packet.ensures.counted

pub returns-in-Command-clause-kept : goal.returns-in-Command-clause-kept
returns-in-Command-clause-kept c =
    both_ok c.know_packet-in-Command.result
    (λ known counted.
    command_kept c.args.self.now _ c.args.head c.in-Command.is c.requires.kept
    (clean c.args.self.now.packets.items c.args.self.now.set_names.items (line.Packet c.args.head) c.requires.clean)
    (record { sets = refl; set_names = refl; item_count = refl }) (record { items = c.clear.ensures.empty; states = c.clear-2.ensures.empty; ends = refl; ended = refl; filled = refl })
    (c.in_ok-push.ensures.items ∙ ap (λ (d : Drafted). c.args.self.now.packets.items ++ d ∷ []) c.new_packet.ensures)
    (named c.args.self.now.commands c.know_packet-in-Command.new.known _ _ c.in_ok-names.ensures known) counted refl refl)
    c.know_packet-in-Command.ensures.known c.know_packet-in-Command.ensures.counted
