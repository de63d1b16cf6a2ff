-- Definitions of one command without parameters, which tests build commands of.
use Rattle.std.proofs.Common.{◌≡◌, false, [], ◌∷◌, refl, ap, arith}
use Rattle.std.proofs.lemmas.Map.Keys.{IsDistinct-from_apart}
use Rattle.std.specs.List.{list_all}
use Rattle.cts_def.specs.Items.{is_same}
use Rattle.cts_def.specs.Packets.{AreSoundDefinitions, DefinitionsData, IsSoundPacket, PacketData, default_set, have_same_names, is_telemetry, unknown}

pub sound_command : (p : PacketData) → p.items ≡ [] → p.length ≡ 0 → p.variable ≡ false → is_same p.target unknown ≡ false → IsSoundPacket p
sound_command p items length variable target = record {
  least = rw (items, length) refl;
  varies = rw (items, variable) refl;
  short = rw length (omega arith);
  few = rw items (omega arith);
  distinct = rw items (IsDistinct-from_apart is_same [] (λ i j d before within. absurd (omega arith)));
  known_target = target;
  no_counts = rw items refl;
}

pub sound_definitions : (d : DefinitionsData) (p : PacketData) → d.telemetry ≡ [] → d.commands ≡ p ∷ [] → p.items ≡ [] → d.set_names ≡ default_set ∷ [] → AreSoundDefinitions d
sound_definitions d p telemetry commands items sets = record {
  telemetry = rw telemetry (IsDistinct-from_apart have_same_names [] (λ i j d before within. absurd (omega arith)));
  commands = rw commands (IsDistinct-from_apart have_same_names (p ∷ []) (λ i j d before within. absurd (omega arith)));
  few_telemetry = rw telemetry (omega arith);
  few_commands = rw commands (omega arith);
  few_items = rw (telemetry, commands, items) (omega arith);
  telemetry_packets = ap (list_all (is_telemetry d.set_names)) telemetry;
  command_packets = rw (commands, items) refl;
  first_set = rw sets refl;
  sets = rw sets (IsDistinct-from_apart is_same (default_set ∷ []) (λ i j d before within. absurd (omega arith)));
  few_sets = rw sets (omega arith);
}
