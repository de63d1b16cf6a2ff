-- The definitions of a draft keep the rules of all definitions.
use Rattle.std.proofs.Common.{◌≡◌, ℕ, ◌+◌, Bool, true, false, not, cond, List, [], ◌∷◌, map, length, refl, sym, subst, arith}
use Rattle.std.specs.List.{filter}
use Rattle.cts_def.specs.Packets.{PacketData, AreSoundDefinitions, items_in}
use Rattle.cts_defstatement.specs.declared.open.PacketKind.TheVariants.{Telemetry, Command}
use Rattle.cts_defread.specs.declared.draft.Draft.{Draft}
use Rattle.cts_defread.specs.declared.drafted.Drafted.{Drafted}
use Rattle.cts_defread.specs.Causes.{count_items}
use Rattle.cts_defread.specs.Drafts.{IsKept}
use Rattle.cts_defread.specs.Standing.{are_same_kind, packets_of, definitions_in}
use Rattle.cts_defread.proofs.OfKind.{all_commands, all_telemetry}

count_cond : (b : Bool) (d : Drafted) (xs ys : List Drafted) (n : ℕ) → items_in (map (λ (p : Drafted). p.packet) xs) + items_in (map (λ (p : Drafted). p.packet) ys) ≡ n
    → items_in (map (λ (p : Drafted). p.packet) (cond b (d ∷ xs) xs)) + items_in (map (λ (p : Drafted). p.packet) (cond (not b) (d ∷ ys) ys)) ≡ length d.packet.items + n
count_cond true d xs ys n e = omega (arith, e)
count_cond false d xs ys n e = omega (arith, e)

pub count_parts : (ps : List Drafted) → items_in (packets_of Telemetry ps) + items_in (packets_of Command ps) ≡ count_items ps
count_parts [] = refl
count_parts (d ∷ ps) =
    count_cond (are_same_kind Telemetry d.kind) d (filter (λ (p : Drafted). are_same_kind Telemetry p.kind) ps) (filter (λ (p : Drafted). are_same_kind Command p.kind) ps) (count_items ps) (count_parts ps)

pub all_sound : (d : Draft) → IsKept d → AreSoundDefinitions (definitions_in d.packets.items d.set_names.items)
all_sound d h = record {
  telemetry = h.sound.telemetry;
  commands = h.sound.commands;
  few_telemetry = omega (arith, h.telemetry_count, h.few_telemetry);
  few_commands = omega (arith, h.command_count, h.few_commands);
  few_items = omega (arith, count_parts d.packets.items, h.item_count, h.few_items);
  telemetry_packets = all_telemetry d.set_names.items d.packets.items h.sound.kinds;
  command_packets = all_commands d.set_names.items d.packets.items h.sound.kinds;
  first_set = h.sound.first_set;
  sets = h.sound.distinct_sets;
  few_sets = h.sound.few_sets;
}

-- the same of equal lists
pub made_sound : (d : Draft) (telemetry commands : List PacketData) (sets : List (List ℕ)) → IsKept d → telemetry ≡ packets_of Telemetry d.packets.items → commands ≡ packets_of Command d.packets.items → sets ≡ d.set_names.items
    → AreSoundDefinitions (record { telemetry = telemetry; commands = commands; set_names = sets })
made_sound d telemetry commands sets h t c s =
    let A : List PacketData → Type 0 = λ ts. AreSoundDefinitions (record { telemetry = ts; commands = commands; set_names = sets }) in
    let B : List PacketData → Type 0 = λ cs. AreSoundDefinitions (record { telemetry = packets_of Telemetry d.packets.items; commands = cs; set_names = sets }) in
    let C : List (List ℕ) → Type 0 = λ ss. AreSoundDefinitions (record { telemetry = packets_of Telemetry d.packets.items; commands = packets_of Command d.packets.items; set_names = ss }) in
    subst A (sym t) (subst B (sym c) (subst C (sym s) (all_sound d h)))
