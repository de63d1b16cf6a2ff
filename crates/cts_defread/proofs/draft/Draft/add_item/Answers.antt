use Rattle.std.proofs.Common.{◌≡◌, ◌||◌, ◌++◌, ◌∷◌, [], Bool, ℕ, List, max, refl, sym, ap, ◌∙◌, subst}
use Rattle.std.specs.Cmp.Lexicographic.{slice_cmp}
use Rattle.std.specs.Ordering.{nat_cmp}
use Rattle.std.proofs.lemmas.Cmp.{nat_list_cmp_total}
use Rattle.std.proofs.lemmas.List.{append-nil}
use Rattle.cts_base.specs.Known.{Knows}
use Rattle.cts_base.proofs.Known.{knows_more}
use Rattle.cts_def.specs.Items.{ItemData, is_same, is_to_the_end, span_of}
use Rattle.cts_def.specs.Packets.{received_count}
use Rattle.cts_def.specs.Spans.{end_of, is_misplaced}
use Rattle.cts_defstatement.specs.declared.line.Line.TheVariants as line
use Rattle.cts_defread.specs.Causes.{open_items, has_item, is_open_ended}
use Rattle.cts_defread.specs.Drafts.{item_names}
use Rattle.cts_defread.proofs.Clean.{clean}
use Rattle.cts_defread.proofs.Kept.{unchanged_kept}
use Rattle.cts_defread.proofs.KeptItem.{new_rules, few_items, other_name, single_name, item_placed, item_kept}
use Rattle.cts_defread.proofs.draft.Draft.add_item.Goals as goal
use Rattle.cts_defread.proofs.draft.Draft.add_item.Goals.{then-self, else-self, then-self-2, else-self-2}

pub returns-in_default-clause-kept : goal.returns-in_default-clause-kept
returns-in_default-clause-kept c =
    unchanged_kept c.args.self.now _ c.requires.kept
    (record { telemetry = refl; commands = refl; items = refl; telemetry_count = refl; command_count = refl; item_count = refl; ends = refl; ended = refl; filled = refl })
    refl refl refl
    (sym (c.in_default.ensures.items ∙ append-nil c.pop.new.self.items))

pub new_item-item-requires : goal.new_item-item-requires
new_item-item-requires c =
    new_rules c.args.self.now.packets.items c.pop.new.self.items c.in-Some.drafted c.args.self.now.set_names.items c.args.head c.args.self.now.end c.in-Some.ensures.items c.requires.kept.ends
    (clean c.args.self.now.packets.items c.args.self.now.set_names.items (line.Item c.args.head) c.requires.clean)

pub with_item-requires-clause-placed : goal.with_item-requires-clause-placed
with_item-requires-clause-placed c =
    ap (λ (i : ItemData). is_misplaced (span_of i)) c.new_item-item.ensures
    ∙ (new_rules c.args.self.now.packets.items c.pop.new.self.items c.in-Some.drafted c.args.self.now.set_names.items c.args.head c.args.self.now.end c.in-Some.ensures.items c.requires.kept.ends
    (clean c.args.self.now.packets.items c.args.self.now.set_names.items (line.Item c.args.head) c.requires.clean)).placed

pub with_item-requires-clause-few : goal.with_item-requires-clause-few
with_item-requires-clause-few c =
    few_items c.args.self.now.packets.items c.pop.new.self.items c.in-Some.drafted c.args.self.now.set_names.items c.args.head c.in-Some.ensures.items
    (clean c.args.self.now.packets.items c.args.self.now.set_names.items (line.Item c.args.head) c.requires.clean)

pub with_item-requires-clause-other : goal.with_item-requires-clause-other
with_item-requires-clause-other c =
    ap (λ (i : ItemData). is_same i.name received_count) c.new_item-item.ensures
    ∙ other_name c.args.self.now.packets.items c.args.self.now.set_names.items c.args.head
    (clean c.args.self.now.packets.items c.args.self.now.set_names.items (line.Item c.args.head) c.requires.clean)

pub with_item-requires-clause-single : goal.with_item-requires-clause-single
with_item-requires-clause-single c =
    ap (λ (i : ItemData). has_item c.in-Some.drafted.packet.items i.name) c.new_item-item.ensures
    ∙ single_name c.args.self.now.packets.items c.pop.new.self.items c.in-Some.drafted c.args.self.now.set_names.items c.args.head c.in-Some.ensures.items
    (clean c.args.self.now.packets.items c.args.self.now.set_names.items (line.Item c.args.head) c.requires.clean)

pub returns-clause-placed : goal.returns-clause-placed
returns-clause-placed c =
    item_placed c.args.self.now.packets.items c.pop.new.self.items c.push.new.self.items c.in-Some.drafted c.in_ok-with_item.field-0 c.new_item-item.result c.args.head c.args.self.now.end
    c.in-Some.ensures.items c.requires.kept.ends c.new_item-item.ensures c.in_ok-with_item.ensures c.in_ok-push.ensures.items

pub returns-clause-kept : goal.returns-clause-kept
returns-clause-kept c =
    let ended : c.if-self.self ≡ c.args.self.now.is_open_ended || is_open_ended c.new_item-item.result =
    elim c.if-self.branch [
      | then-self w ↦ w.self-is ∙ w.if-self.true ∙ sym (ap (λ (b : Bool). b || is_open_ended c.new_item-item.result) w.if-self.true)
      | else-self w ↦ w.self-is ∙ c.is_open_ended-is_open_ended.ensures ∙ sym (ap (λ (b : Bool). b || is_open_ended c.new_item-item.result) w.if-self.false)
    ] in
    let filled : c.if-self-2.self ≡ c.args.self.now.is_to_the_end || is_to_the_end c.new_item-item.result =
    elim c.if-self-2.branch [
      | then-self-2 w ↦ w.self-is ∙ w.if-self-2.true ∙ sym (ap (λ (b : Bool). b || is_to_the_end c.new_item-item.result) w.if-self-2.true)
      | else-self-2 w ↦ w.self-is ∙ c.is_to_the_end-is_to_the_end.ensures ∙ sym (ap (λ (b : Bool). b || is_to_the_end c.new_item-item.result) w.if-self-2.false)
    ] in
    item_kept c.args.self.now _ c.pop.new.self.items c.in-Some.drafted c.new_item-item.result c.args.head c.requires.kept
    (clean c.args.self.now.packets.items c.args.self.now.set_names.items (line.Item c.args.head) c.requires.clean) c.requires.suited
    (record { telemetry = refl; commands = refl; sets = refl; set_names = refl; telemetry_count = refl; command_count = refl })
    c.in-Some.ensures.items c.new_item-item.ensures
    (item_placed c.args.self.now.packets.items c.pop.new.self.items c.push.new.self.items c.in-Some.drafted c.in_ok-with_item.field-0 c.new_item-item.result c.args.head c.args.self.now.end
    c.in-Some.ensures.items c.requires.kept.ends c.new_item-item.ensures c.in_ok-with_item.ensures c.in_ok-push.ensures.items)
    (subst (λ (n : List ℕ). Knows (slice_cmp nat_cmp) c.insert.new.self (item_names (open_items c.args.self.now.packets.items) ++ n ∷ [])) c.in_ok-name.ensures.cases
    (knows_more nat_list_cmp_total c.args.self.now.items c.insert.new.self (item_names (open_items c.args.self.now.packets.items)) c.in_ok-name.name c.in_ok-insert.ensures.updates c.requires.kept.items))
    c.clear.ensures.empty refl
    (c.max-self.ensures ∙ ap (max c.args.self.now.end) (c.end-end.ensures ∙ ap end_of c.span.ensures))
    ended filled
