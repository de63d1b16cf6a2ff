-- One more definition keeps what the draft keeps.
use Rattle.std.proofs.Common.{◌≡◌, ℕ, ◌+◌, ◌≤◌, Bool, true, false, cond, List, [], ◌∷◌, ◌++◌, map, length, refl, sym, ap, ◌∙◌, subst, arith}
use Rattle.std.specs.Prelude.{nat_le}
use Rattle.std.specs.BTreeSet.{BTreeSet, IsEmpty, Updates}
use Rattle.std.specs.Cmp.Lexicographic.{slice_cmp}
use Rattle.std.specs.List.{list_any, list_all, IsDistinct}
use Rattle.std.specs.Ordering.{nat_cmp}
use Rattle.std.proofs.lemmas.Bool.{leb-false}
use Rattle.std.proofs.lemmas.List.{append-nil, length-append}
use Rattle.cts_base.specs.Known.{Knows, pair_cmp}
use Rattle.cts_base.proofs.Known.{knows_none, knows_more, pairs_total}
use Rattle.cts_def.specs.Items.{ItemData, is_same, is_to_the_end}
use Rattle.cts_def.specs.Packets.{PacketData, unknown, have_same_names}
use Rattle.cts_defstatement.specs.declared.line.Line.TheVariants as line
use Rattle.cts_defstatement.specs.declared.line.PacketLine.{PacketLine}
use Rattle.cts_defstatement.specs.declared.open.PacketKind.{PacketKind}
use Rattle.cts_defstatement.specs.declared.open.PacketKind.TheVariants.{Telemetry, Command}
use Rattle.cts_defread.specs.declared.draft.Draft.{Draft}
use Rattle.cts_defread.specs.declared.drafted.Drafted.{Drafted}
use Rattle.cts_defread.specs.Causes.{drafted_items, open_items, is_open_ended, has_names, count_items}
use Rattle.cts_defread.specs.Drafts.{IsKept, names_of, item_names, state_names}
use Rattle.cts_defread.specs.Sound.{AreSound, keeps_its_kind}
use Rattle.cts_defread.specs.Standing.{end_from, are_same_kind, packets_of}
use Rattle.cts_defread.specs.Steps.{new_packet}
use Rattle.cts_defread.proofs.Clean.{Clean}
use Rattle.cts_defread.proofs.OfKind.{kinds_packet}
use Rattle.cts_defread.proofs.Names.{names-append, length_names, distinct_kept, distinct_more, count_more}
use Rattle.cts_defread.proofs.Rules.{left_false, right_false}
use Rattle.cts_words.specs.Blocks.{last_of}
use Rattle.cts_words.proofs.Blocks.{last_snoc}

pub known_target : (packets : List Drafted) (sets : List (List ℕ)) (head : PacketLine) → Clean packets sets (line.Packet head) → is_same head.target unknown ≡ false
known_target packets sets head h = left_false (is_same head.target unknown) (list_any (has_names head.kind head.target head.name) packets) h.single

-- the names of one definition, if it is of this kind
abbrev names_at : PacketKind → PacketLine → List (List ℕ × List ℕ)
names_at kind head = names_of kind (new_packet head ∷ [])

more_names : (kind : PacketKind) (old new : List Drafted) (head : PacketLine) → new ≡ old ++ new_packet head ∷ [] → names_of kind new ≡ names_of kind old ++ names_at kind head
more_names kind old new head placed = ap (names_of kind) placed ∙ names-append kind old (new_packet head ∷ [])

-- of the kind that is defined
own_names : (kind : PacketKind) (old new : List Drafted) (head : PacketLine) → new ≡ old ++ new_packet head ∷ [] → are_same_kind kind head.kind ≡ true → names_of kind new ≡ names_of kind old ++ (head.target, head.name) ∷ []
own_names kind old new head placed own =
    more_names kind old new head placed
    ∙ ap (λ (b : Bool). names_of kind old ++ map (λ (p : PacketData). (p.target, p.name)) (map (λ (d : Drafted). d.packet) (cond b (new_packet head ∷ []) []))) own

-- of the other kind
other_names : (kind : PacketKind) (old new : List Drafted) (head : PacketLine) → new ≡ old ++ new_packet head ∷ [] → are_same_kind kind head.kind ≡ false → names_of kind new ≡ names_of kind old
other_names kind old new head placed other =
    more_names kind old new head placed
    ∙ ap (λ (b : Bool). names_of kind old ++ map (λ (p : PacketData). (p.target, p.name)) (map (λ (d : Drafted). d.packet) (cond b (new_packet head ∷ []) []))) other
    ∙ append-nil (names_of kind old)

-- ---- what is known of the kind that is defined, and of the other one

pub own_known : (kind : PacketKind) (old new : List Drafted) (head : PacketLine) (known after : BTreeSet (List ℕ × List ℕ)) → new ≡ old ++ new_packet head ∷ [] → are_same_kind kind head.kind ≡ true
    → Updates pair_cmp known after (head.target, head.name) true → Knows pair_cmp known (names_of kind old) → Knows pair_cmp after (names_of kind new)
own_known kind old new head known after placed own updates h =
    subst (λ (ns : List (List ℕ × List ℕ)). Knows pair_cmp after ns) (sym (own_names kind old new head placed own)) (knows_more pairs_total known after (names_of kind old) (head.target, head.name) updates h)

pub other_known : (kind : PacketKind) (old new : List Drafted) (head : PacketLine) (known : BTreeSet (List ℕ × List ℕ)) → new ≡ old ++ new_packet head ∷ [] → are_same_kind kind head.kind ≡ false
    → Knows pair_cmp known (names_of kind old) → Knows pair_cmp known (names_of kind new)
other_known kind old new head known placed other h = subst (λ (ns : List (List ℕ × List ℕ)). Knows pair_cmp known ns) (sym (other_names kind old new head placed other)) h

pub own_count : (kind : PacketKind) (old new : List Drafted) (head : PacketLine) (n m : ℕ) → new ≡ old ++ new_packet head ∷ [] → are_same_kind kind head.kind ≡ true → n ≡ length (packets_of kind old) → m ≡ n + 1
    → m ≡ length (packets_of kind new)
own_count kind old new head n m placed own counted more =
    omega (
      arith,
      counted,
      more,
      length_names kind old,
      length_names kind new,
      ap (λ (ns : List (List ℕ × List ℕ)). length ns) (own_names kind old new head placed own),
      length-append (names_of kind old) ((head.target, head.name) ∷ []),
    )

pub other_count : (kind : PacketKind) (old new : List Drafted) (head : PacketLine) (n : ℕ) → new ≡ old ++ new_packet head ∷ [] → are_same_kind kind head.kind ≡ false → n ≡ length (packets_of kind old) → n ≡ length (packets_of kind new)
other_count kind old new head n placed other counted =
    counted ∙ sym (length_names kind old) ∙ sym (ap (λ (ns : List (List ℕ × List ℕ)). length ns) (other_names kind old new head placed other)) ∙ length_names kind new

-- ---- all that is kept

-- names without doubles, of this kind
kind_distinct : (kind : PacketKind) (old new : List Drafted) (head : PacketLine) (b : Bool) → are_same_kind kind head.kind ≡ b → new ≡ old ++ new_packet head ∷ []
    → (b ≡ true → list_any (has_names kind head.target head.name) old ≡ false) → IsDistinct have_same_names (packets_of kind old) → IsDistinct have_same_names (packets_of kind new)
kind_distinct kind old new head true own placed single h = distinct_more kind old new head.target head.name (own_names kind old new head placed own) (single refl) h
kind_distinct kind old new head false other placed single h = distinct_kept kind new old (other_names kind old new head placed other) h

same_kinds : (kind own : PacketKind) → are_same_kind kind own ≡ true → own ≡ kind
same_kinds Telemetry Telemetry e = refl
same_kinds Telemetry Command e = absurd cc
same_kinds Command Telemetry e = absurd cc
same_kinds Command Command e = refl

packet_sound : (old new : List Drafted) (sets : List (List ℕ)) (head : PacketLine) → new ≡ old ++ new_packet head ∷ [] → Clean old sets (line.Packet head) → AreSound old sets → AreSound new sets
packet_sound old new sets head placed h sound =
    let single : list_any (has_names head.kind head.target head.name) old ≡ false = right_false (is_same head.target unknown) (list_any (has_names head.kind head.target head.name) old) h.single in
    let of_kind : (kind : PacketKind) → are_same_kind kind head.kind ≡ true → list_any (has_names kind head.target head.name) old ≡ false =
    λ kind own. ap (λ (k : PacketKind). list_any (has_names k head.target head.name) old) (sym (same_kinds kind head.kind own)) ∙ single in
    record {
      telemetry = kind_distinct Telemetry old new head (are_same_kind Telemetry head.kind) refl placed (of_kind Telemetry) sound.telemetry;
      commands = kind_distinct Command old new head (are_same_kind Command head.kind) refl placed (of_kind Command) sound.commands;
      kinds = ap (λ (ps : List Drafted). list_all (keeps_its_kind sets) ps) placed ∙ kinds_packet sets old head sound.kinds;
      first_set = sound.first_set;
      distinct_sets = sound.distinct_sets;
      few_sets = sound.few_sets;
    }

-- what of the draft a definition leaves as it is
pub record SameSets (new old : Draft) : Type 0 where
  pub sets : new.sets ≡ old.sets
  pub set_names : new.set_names.items ≡ old.set_names.items
  pub item_count : new.item_count ≡ old.item_count

-- what is new with a definition
pub record IsOpened (new : Draft) : Type 0 where
  pub items : IsEmpty new.items
  pub states : IsEmpty new.states
  pub ends : new.end ≡ 0
  pub ended : new.is_open_ended ≡ false
  pub filled : new.is_to_the_end ≡ false

pub packet_kept : (old new : Draft) (head : PacketLine) → IsKept old → Clean old.packets.items old.set_names.items (line.Packet head) → SameSets new old → IsOpened new
    → new.packets.items ≡ old.packets.items ++ new_packet head ∷ []
    → Knows pair_cmp new.telemetry (names_of Telemetry new.packets.items) → Knows pair_cmp new.commands (names_of Command new.packets.items)
    → new.telemetry_count ≡ length (packets_of Telemetry new.packets.items) → new.command_count ≡ length (packets_of Command new.packets.items)
    → new.telemetry_count ≤ 4096 → new.command_count ≤ 4096 → IsKept new
packet_kept old new head h clean same opened placed telemetry commands telemetry_count command_count few_telemetry few_commands =
    let items : open_items new.packets.items ≡ [] = ap drafted_items (ap last_of placed ∙ last_snoc old.packets.items (new_packet head)) in
    let total : count_items new.packets.items ≡ count_items old.packets.items = omega (arith, ap count_items placed, count_more old.packets.items (new_packet head)) in
    record {
      telemetry = telemetry;
      commands = commands;
      items = subst (λ (is : List ItemData). Knows (slice_cmp nat_cmp) new.items (item_names is)) (sym items) (knows_none (slice_cmp nat_cmp) new.items opened.items);
      states = subst (λ (is : List ItemData). Knows (slice_cmp nat_cmp) new.states (state_names (last_of is))) (sym items) (knows_none (slice_cmp nat_cmp) new.states opened.states);
      sets =
          subst (λ (s : BTreeSet (List ℕ)). Knows (slice_cmp nat_cmp) s new.set_names.items) (sym same.sets)
          (subst (λ (ns : List (List ℕ)). Knows (slice_cmp nat_cmp) old.sets ns) (sym same.set_names) h.sets);
      telemetry_count = telemetry_count;
      command_count = command_count;
      item_count = same.item_count ∙ h.item_count ∙ sym total;
      ends = opened.ends ∙ sym (ap (end_from 0) items);
      ended = opened.ended ∙ sym (ap (list_any is_open_ended) items);
      filled = opened.filled ∙ sym (ap (list_any is_to_the_end) items);
      few_telemetry = few_telemetry;
      few_commands = few_commands;
      few_items = omega (arith, same.item_count, h.few_items);
      room = omega (arith, opened.ends);
      sound = subst (λ (ss : List (List ℕ)). AreSound new.packets.items ss) (sym same.set_names) (packet_sound old.packets.items new.packets.items old.set_names.items head placed clean h.sound);
    }

-- there is room for one more of the kind that is defined
few_more : (kind : PacketKind) (packets : List Drafted) (sets : List (List ℕ)) (head : PacketLine) (n m : ℕ) → head.kind ≡ kind → Clean packets sets (line.Packet head) → n ≡ length (packets_of kind packets) → m ≡ n + 1 → m ≤ 4096
few_more kind packets sets head n m own h counted more =
    let few : nat_le 4096 (length (packets_of kind packets)) ≡ false = ap (λ (k : PacketKind). nat_le 4096 (length (packets_of k packets))) (sym own) ∙ h.few in
    omega (arith, leb-false 4096 (length (packets_of kind packets)) few, counted, more)

pub telemetry_kept : (old new : Draft) (head : PacketLine) → head.kind ≡ Telemetry → IsKept old → Clean old.packets.items old.set_names.items (line.Packet head) → SameSets new old → IsOpened new
    → new.packets.items ≡ old.packets.items ++ new_packet head ∷ [] → Updates pair_cmp old.telemetry new.telemetry (head.target, head.name) true → new.telemetry_count ≡ old.telemetry_count + 1
    → new.commands ≡ old.commands → new.command_count ≡ old.command_count → IsKept new
telemetry_kept old new head own h clean same opened placed updates counted commands count =
    let is_own : are_same_kind Telemetry head.kind ≡ true = ap (are_same_kind Telemetry) own in
    let is_other : are_same_kind Command head.kind ≡ false = ap (are_same_kind Command) own in
    packet_kept old new head h clean same opened placed
    (own_known Telemetry old.packets.items new.packets.items head old.telemetry new.telemetry placed is_own updates h.telemetry)
    (subst (λ (s : BTreeSet (List ℕ × List ℕ)). Knows pair_cmp s (names_of Command new.packets.items)) (sym commands) (other_known Command old.packets.items new.packets.items head old.commands placed is_other h.commands))
    (own_count Telemetry old.packets.items new.packets.items head old.telemetry_count new.telemetry_count placed is_own h.telemetry_count counted)
    (count ∙ other_count Command old.packets.items new.packets.items head old.command_count placed is_other h.command_count)
    (few_more Telemetry old.packets.items old.set_names.items head old.telemetry_count new.telemetry_count own clean h.telemetry_count counted)
    (omega (arith, count, h.few_commands))

pub command_kept : (old new : Draft) (head : PacketLine) → head.kind ≡ Command → IsKept old → Clean old.packets.items old.set_names.items (line.Packet head) → SameSets new old → IsOpened new
    → new.packets.items ≡ old.packets.items ++ new_packet head ∷ [] → Updates pair_cmp old.commands new.commands (head.target, head.name) true → new.command_count ≡ old.command_count + 1
    → new.telemetry ≡ old.telemetry → new.telemetry_count ≡ old.telemetry_count → IsKept new
command_kept old new head own h clean same opened placed updates counted telemetry count =
    let is_own : are_same_kind Command head.kind ≡ true = ap (are_same_kind Command) own in
    let is_other : are_same_kind Telemetry head.kind ≡ false = ap (are_same_kind Telemetry) own in
    packet_kept old new head h clean same opened placed
    (subst (λ (s : BTreeSet (List ℕ × List ℕ)). Knows pair_cmp s (names_of Telemetry new.packets.items)) (sym telemetry) (other_known Telemetry old.packets.items new.packets.items head old.telemetry placed is_other h.telemetry))
    (own_known Command old.packets.items new.packets.items head old.commands new.commands placed is_own updates h.commands)
    (count ∙ other_count Telemetry old.packets.items new.packets.items head old.telemetry_count placed is_other h.telemetry_count)
    (own_count Command old.packets.items new.packets.items head old.command_count new.command_count placed is_own h.command_count counted)
    (omega (arith, count, h.few_telemetry))
    (few_more Command old.packets.items old.set_names.items head old.command_count new.command_count own clean h.command_count counted)

-- A pair of clones is the pair of names.
pub named : (known after : BTreeSet (List ℕ × List ℕ)) (names told : List ℕ × List ℕ) → names ≡ told → Updates pair_cmp known after names true → Updates pair_cmp known after told true
named known after names told same updates = subst (λ (p : List ℕ × List ℕ). Updates pair_cmp known after p true) same updates
