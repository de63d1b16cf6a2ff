-- What the draft keeps is what a search would find.
use Rattle.std.proofs.Common.{◌≡◌, ℕ, Bool, true, false, ◌&&◌, ◌||◌, List, [], ◌∷◌, Option, Some, None, refl, ap, ◌∙◌}
use Rattle.std.specs.BTreeSet.{contains}
use Rattle.std.specs.Cmp.Lexicographic.{slice_cmp}
use Rattle.std.specs.List.{list_any, filter}
use Rattle.std.specs.Ordering.{nat_cmp}
use Rattle.cts_base.specs.Known.{pair_cmp}
use Rattle.cts_base.proofs.Known.{known_bytes, known_pairs}
use Rattle.cts_def.specs.declared.state_def.StateDef.{StateDef}
use Rattle.cts_def.specs.Items.{ItemData, is_same}
use Rattle.cts_def.specs.Packets.{PacketData}
use Rattle.cts_defstatement.specs.declared.open.PacketKind.{PacketKind}
use Rattle.cts_defstatement.specs.declared.open.PacketKind.TheVariants.{Telemetry, Command}
use Rattle.cts_defread.specs.declared.draft.Draft.{Draft}
use Rattle.cts_defread.specs.declared.drafted.Drafted.{Drafted}
use Rattle.cts_defread.specs.Causes.{open_items, open_item, passes, has_names, has_item, has_state}
use Rattle.cts_defread.specs.Drafts.{IsKept, names_of, item_names, state_names}
use Rattle.cts_defread.specs.Standing.{are_same_kind, packets_of}
use Rattle.cts_defread.proofs.Lists.{any_map}

any_filter_step : {X : Type 0} (p q : X → Bool) (x : X) (xs : List X) (b : Bool) → q x ≡ b → list_any p (filter q xs) ≡ list_any (λ y. q y && p y) xs
    → list_any p (filter q (x ∷ xs)) ≡ (b && p x || list_any (λ y. q y && p y) xs)
any_filter_step p q x xs true e h = rw e (ap (λ b. p x || b) h)
any_filter_step p q x xs false e h = rw e h

any_filter : {X : Type 0} (p q : X → Bool) (xs : List X) → list_any p (filter q xs) ≡ list_any (λ x. q x && p x) xs
any_filter p q [] = refl
any_filter p q (x ∷ xs) = any_filter_step p q x xs (q x) refl (any_filter p q xs)

pub kept_item : (d : Draft) (name : List ℕ) → IsKept d → contains (slice_cmp nat_cmp) d.items name ≡ has_item (open_items d.packets.items) name
kept_item d name kept =
    kept.items name
    ∙ known_bytes (item_names (open_items d.packets.items)) name
    ∙ any_map (is_same name) (λ (i : ItemData). i.name) (open_items d.packets.items)

state_found : (item : Option ItemData) (name : List ℕ) → list_any (is_same name) (state_names item) ≡ passes (has_state name) item
state_found None name = refl
state_found (Some i) name = any_map (is_same name) (λ (s : StateDef). s.name) i.states

pub kept_state : (d : Draft) (name : List ℕ) → IsKept d → contains (slice_cmp nat_cmp) d.states name ≡ passes (has_state name) (open_item d.packets.items)
kept_state d name kept =
    kept.states name
    ∙ known_bytes (state_names (open_item d.packets.items)) name
    ∙ state_found (open_item d.packets.items) name

pub kept_set : (d : Draft) (name : List ℕ) → IsKept d → contains (slice_cmp nat_cmp) d.sets name ≡ list_any (is_same name) d.set_names.items
kept_set d name kept = kept.sets name ∙ known_bytes d.set_names.items name

-- the names of a packet are these
abbrev are_names : List ℕ × List ℕ → List ℕ × List ℕ → Bool
are_names q k = is_same q.0 k.0 && is_same q.1 k.1

names_found : (kind : PacketKind) (packets : List Drafted) (target name : List ℕ)
    → list_any (are_names (target, name)) (names_of kind packets) ≡ list_any (has_names kind target name) packets
names_found kind packets target name =
    any_map (are_names (target, name)) (λ (p : PacketData). (p.target, p.name)) (packets_of kind packets)
    ∙ any_map (λ (p : PacketData). are_names (target, name) (p.target, p.name)) (λ (d : Drafted). d.packet) (filter (λ (d : Drafted). are_same_kind kind d.kind) packets)
    ∙ any_filter (λ (d : Drafted). are_names (target, name) (d.packet.target, d.packet.name)) (λ (d : Drafted). are_same_kind kind d.kind) packets

pub kept_telemetry : (d : Draft) (target name : List ℕ) → IsKept d → contains pair_cmp d.telemetry (target, name) ≡ list_any (has_names Telemetry target name) d.packets.items
kept_telemetry d target name kept =
    kept.telemetry (target, name)
    ∙ known_pairs (names_of Telemetry d.packets.items) (target, name)
    ∙ names_found Telemetry d.packets.items target name

pub kept_command : (d : Draft) (target name : List ℕ) → IsKept d → contains pair_cmp d.commands (target, name) ≡ list_any (has_names Command target name) d.packets.items
kept_command d target name kept =
    kept.commands (target, name)
    ∙ known_pairs (names_of Command d.packets.items) (target, name)
    ∙ names_found Command d.packets.items target name
