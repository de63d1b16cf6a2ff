-- Answered definitions are those of their lines.
use Rattle.std.proofs.Common.{◌≡◌, ℕ, max, Bool, true, false, cond, List, [], ◌∷◌, ◌++◌, map, Option, Some, None, refl, sym, ap, subst, ◌∙◌}
use Rattle.std.specs.Prelude.{is_some}
use Rattle.std.specs.List.{filter, filter_map, cons_option}
use Rattle.cts_bits.specs.declared.order.Order.{Order}
use Rattle.cts_def.specs.Items.{ItemData, span_of}
use Rattle.cts_def.specs.Packets.{PacketData, DefinitionsData}
use Rattle.cts_def.specs.Spans.{end_of}
use Rattle.cts_defstatement.specs.declared.line.ItemLine.{ItemLine}
use Rattle.cts_defstatement.specs.declared.line.Line.{Line}
use Rattle.cts_defstatement.specs.declared.line.Line.TheVariants as line
use Rattle.cts_defstatement.specs.declared.line.PacketLine.{PacketLine}
use Rattle.cts_defstatement.specs.declared.open.PacketKind.{PacketKind}
use Rattle.cts_defstatement.specs.declared.open.PacketKind.TheVariants.{Telemetry, Command}
use Rattle.cts_defread.specs.declared.drafted.Drafted.{Drafted}
use Rattle.cts_defread.specs.Defined.{BeginsAtHead, DefinitionsAreOfTheirLines, HasItemLine, HasPacketLine, IsBlock, IsDefinedBy, names_of_head, names_of_packet, names_said}
use Rattle.cts_defread.specs.Definitions.{lines_of, refusal, at_end}
use Rattle.cts_defread.specs.Standing.{are_same_kind, definitions_at, end_from, item_at, item_in, items_from, items_of, offset_or, packet_in, packet_of, packets_of, standing}
use Rattle.cts_defread.proofs.InOrder.{end_after_first}
use Rattle.cts_words.specs.Blocks.{HasNoHead, begin_block, blocks, cut_at_heads}
use Rattle.cts_reader.proofs.FirstRefused.{taken}
use Rattle.cts_words.proofs.Blocks.{heads}

-- ---- blocks

-- the lines before the first head
record Front {L H : Type 0} (head_in : L → Option H) (all front : List L) : Type 0 where
  after : List L
  lines : all ≡ front ++ after
  own : HasNoHead head_in front
  next : BeginsAtHead head_in after

front_step : {L H : Type 0} (head_in : L → Option H) (o : Option H) (l : L) (ls : List L) (r : List L × List (H × List L)) → head_in l ≡ o → Front head_in ls r.0 → Front head_in (l ∷ ls) (begin_block o l r).0
front_step head_in None l ls r e f = record { after = f.after; lines = ap (λ xs. l ∷ xs) f.lines; own = (e, f.own); next = f.next }
front_step head_in (Some head) l ls r e f = record { after = l ∷ ls; lines = refl; own = tt; next = ap is_some e }

fronts : {L H : Type 0} (head_in : L → Option H) (ls : List L) → Front head_in ls (cut_at_heads head_in ls).0
fronts head_in [] = record { after = []; lines = refl; own = tt; next = tt }
fronts head_in (l ∷ ls) = front_step head_in (head_in l) l ls (cut_at_heads head_in ls) refl (fronts head_in ls)

longer : {L H : Type 0} (head_in : L → Option H) (l : L) (ls : List L) (head : H) (body : List L) → IsBlock head_in ls head body → IsBlock head_in (l ∷ ls) head body
longer head_in l ls head body b = record { before = l ∷ b.before; opening = b.opening; after = b.after; lines = ap (λ xs. l ∷ xs) b.lines; opens = b.opens; own = b.own; next = b.next }

block_step : {L H : Type 0} (head_in : L → Option H) (o : Option H) (l : L) (ls : List L) (r : List L × List (H × List L)) → head_in l ≡ o → Front head_in ls r.0
    → ((f g : List (H × List L)) (b : H × List L) → r.1 ≡ f ++ b ∷ g → IsBlock head_in ls b.0 b.1)
    → (f g : List (H × List L)) (b : H × List L) → (begin_block o l r).1 ≡ f ++ b ∷ g → IsBlock head_in (l ∷ ls) b.0 b.1
block_step head_in None l ls r e front later f g b h = longer head_in l ls b.0 b.1 (later f g b h)
block_step {L} {H} head_in (Some head) l ls r e front later [] g b h =
    let one : (head, r.0) ≡ b = cc in
    let P : H × List L → Type 0 = λ c. IsBlock head_in (l ∷ ls) c.0 c.1 in
    let here : P (head, r.0) = record { before = []; opening = l; after = front.after; lines = ap (λ xs. l ∷ xs) front.lines; opens = e; own = front.own; next = front.next } in
    subst P one here
block_step head_in (Some head) l ls r e front later (x ∷ f) g b h = longer head_in l ls b.0 b.1 (later f g b (let rest : r.1 ≡ f ++ b ∷ g = cc in rest))

is_block : {L H : Type 0} (head_in : L → Option H) (ls : List L) (f g : List (H × List L)) (b : H × List L) → blocks head_in ls ≡ f ++ b ∷ g → IsBlock head_in ls b.0 b.1
is_block head_in [] [] g b h = absurd cc
is_block head_in [] (x ∷ f) g b h = absurd cc
is_block head_in (l ∷ ls) f g b h = block_step head_in (head_in l) l ls (cut_at_heads head_in ls) refl (fronts head_in ls) (is_block head_in ls) f g b h

-- ---- items

item_found : (order : Order) (end : ℕ) (bs : List (ItemLine × List Line)) (before after : List ItemData) (i : ItemData) → items_from order end bs ≡ before ++ i ∷ after
    → (f : List (ItemLine × List Line)) × (g : List (ItemLine × List Line)) × (b : ItemLine × List Line) × (bs ≡ f ++ b ∷ g) × (i ≡ item_at order (end_from end before) b.0 b.1)
item_found order end [] [] after i e = absurd cc
item_found order end [] (j ∷ before) after i e = absurd cc
item_found order end (b ∷ bs) [] after i e = ([], bs, b, refl, let one : i ≡ item_at order end b.0 b.1 = cc in one)
item_found order end (b ∷ bs) (j ∷ before) after i e =
    let one : item_at order end b.0 b.1 ≡ j = cc in
    let rest : items_from order (max end (end_of (span_of (item_at order end b.0 b.1)))) bs ≡ before ++ i ∷ after = cc in
    let later = item_found order (max end (end_of (span_of (item_at order end b.0 b.1)))) bs before after i rest in (
      b ∷ later.0,
      later.1,
      later.2,
      ap (λ xs. b ∷ xs) later.3,
      later.4 ∙ ap (λ (k : ItemData). item_at order (end_from (max end (end_of (span_of k))) before) later.2.0 later.2.1) one,
    )

item_names_of : (order : Order) (end : ℕ) (bs : List (ItemLine × List Line)) → map (λ (i : ItemData). i.name) (items_from order end bs) ≡ map (λ (l : ItemLine). l.name) (map (λ (b : ItemLine × List Line). b.0) bs)
item_names_of order end [] = refl
item_names_of order end (b ∷ bs) = ap (λ ns. b.0.name ∷ ns) (item_names_of order (max end (end_of (span_of (item_at order end b.0 b.1)))) bs)

item_line : (order : Order) (body : List Line) (before after : List ItemData) (i : ItemData) → items_from order 0 (blocks item_in body) ≡ before ++ i ∷ after → HasItemLine order body before i
item_line order body before after i e =
    let found = item_found order 0 (blocks item_in body) before after i e in
    let same = found.4 in
    record {
      head = found.2.0;
      details = found.2.1;
      block = is_block item_in body found.0 found.1 found.2 found.3;
      item = record {
        name = ap (λ (j : ItemData). j.name) same;
        kind = ap (λ (j : ItemData). j.kind) same;
        offset = ap (λ (j : ItemData). j.offset) same ∙ ap (λ (n : ℕ). offset_or n found.2.0.offset) (end_after_first before);
        size = ap (λ (j : ItemData). j.size) same;
        order = ap (λ (j : ItemData). j.order) same;
        id = ap (λ (j : ItemData). j.id) same;
        range = ap (λ (j : ItemData). j.range) same;
        preset = ap (λ (j : ItemData). j.preset) same;
        states = ap (λ (j : ItemData). j.states) same;
        conversion = ap (λ (j : ItemData). j.conversion) same;
        limits = ap (λ (j : ItemData). j.limits) same;
        units = ap (λ (j : ItemData). j.units) same;
        format = ap (λ (j : ItemData). j.format) same;
        required = ap (λ (j : ItemData). j.required) same;
        overflow = ap (λ (j : ItemData). j.overflow) same;
      };
    }

-- ---- packets

abbrev Blocks : Type 0
Blocks = List (PacketLine × List Line)

-- the packets of a kind that these blocks define
abbrev of_blocks : PacketKind → Blocks → List PacketData
of_blocks kind bs = packets_of kind (map packet_of bs)

record Found (kind : PacketKind) (bs : Blocks) (p : PacketData) : Type 0 where
  front : Blocks
  rest : Blocks
  block : PacketLine × List Line
  is : bs ≡ front ++ block ∷ rest
  own_kind : are_same_kind kind block.0.kind ≡ true
  packet : p ≡ (packet_of block).packet

found_later : (kind : PacketKind) (b : PacketLine × List Line) (bs : Blocks) (p : PacketData) → Found kind bs p → Found kind (b ∷ bs) p
found_later kind b bs p f = record { front = b ∷ f.front; rest = f.rest; block = f.block; is = ap (λ (xs : Blocks). b ∷ xs) f.is; own_kind = f.own_kind; packet = f.packet }

found_step : (kind : PacketKind) (own : Bool) (b : PacketLine × List Line) (bs : Blocks) (before after : List PacketData) (p : PacketData) → are_same_kind kind b.0.kind ≡ own
    → map (λ (d : Drafted). d.packet) (cond own (packet_of b ∷ filter (λ (d : Drafted). are_same_kind kind d.kind) (map packet_of bs)) (filter (λ (d : Drafted). are_same_kind kind d.kind) (map packet_of bs))) ≡ before ++ p ∷ after
    → ((fs : List PacketData) → of_blocks kind bs ≡ fs ++ p ∷ after → Found kind bs p) → Found kind (b ∷ bs) p
found_step kind false b bs before after p own e later = found_later kind b bs p (later before e)
found_step kind true b bs [] after p own e later =
    record { front = []; rest = bs; block = b; is = refl; own_kind = own; packet = let one : p ≡ (packet_of b).packet = cc in one }
found_step kind true b bs (q ∷ before) after p own e later = found_later kind b bs p (later before (let rest : of_blocks kind bs ≡ before ++ p ∷ after = cc in rest))

packet_found : (kind : PacketKind) (bs : Blocks) (before after : List PacketData) (p : PacketData) → of_blocks kind bs ≡ before ++ p ∷ after → Found kind bs p
packet_found kind [] [] after p e = absurd cc
packet_found kind [] (q ∷ before) after p e = absurd cc
packet_found kind (b ∷ bs) before after p e =
    found_step kind (are_same_kind kind b.0.kind) b bs before after p refl e (λ fs. packet_found kind bs fs after p)

pub same_kinds : (kind own : PacketKind) → are_same_kind kind own ≡ true → own ≡ kind
same_kinds Telemetry Telemetry e = refl
same_kinds Telemetry Command e = absurd cc
same_kinds Command Telemetry e = absurd cc
same_kinds Command Command e = refl

packet_line : (kind : PacketKind) (lines : List Line) (before after : List PacketData) (p : PacketData) → packets_of kind (standing lines) ≡ before ++ p ∷ after → HasPacketLine kind lines p
packet_line kind lines before after p e =
    let f = packet_found kind (blocks packet_in lines) before after p e in
    let items : p.items ≡ items_of f.block = ap (λ (q : PacketData). q.items) f.packet in
    record {
      head = f.block.0;
      body = f.block.1;
      block = is_block packet_in lines f.front f.rest f.block f.is;
      own_kind = same_kinds kind f.block.0.kind f.own_kind;
      target = ap (λ (q : PacketData). q.target) f.packet;
      name = ap (λ (q : PacketData). q.name) f.packet;
      hazardous = ap (λ (q : PacketData). q.hazardous) f.packet;
      item_names =
          ap (map (λ (i : ItemData). i.name)) items ∙ item_names_of f.block.0.order 0 (blocks item_in f.block.1)
          ∙ ap (map (λ (l : ItemLine). l.name)) (heads item_in f.block.1);
      items = λ front back i split. item_line f.block.0.order f.block.1 front back i (sym items ∙ split);
    }

-- ---- names in order

names_step : (kind : PacketKind) (own : Bool) (b : PacketLine × List Line) (ds : List Drafted) (names : List (List ℕ × List ℕ)) → are_same_kind kind b.0.kind ≡ own
    → map names_of_packet (map (λ (d : Drafted). d.packet) ds) ≡ names
    → map names_of_packet (map (λ (d : Drafted). d.packet) (cond own (packet_of b ∷ ds) ds)) ≡ cons_option (cond own (Some (b.0.target, b.0.name)) None) names
names_step kind true b ds names own e = ap (λ ns. (b.0.target, b.0.name) ∷ ns) e
names_step kind false b ds names own e = e

names_of_blocks : (kind : PacketKind) (bs : Blocks) → map names_of_packet (of_blocks kind bs) ≡ filter_map (names_of_head kind) (map (λ (b : PacketLine × List Line). b.0) bs)
names_of_blocks kind [] = refl
names_of_blocks kind (b ∷ bs) =
    names_step kind (are_same_kind kind b.0.kind) b (filter (λ (d : Drafted). are_same_kind kind d.kind) (map packet_of bs)) (filter_map (names_of_head kind) (map (λ (c : PacketLine × List Line). c.0) bs)) refl
    (names_of_blocks kind bs)

names_of_lines : (kind : PacketKind) (lines : List Line) → filter_map (names_of_head kind) (filter_map packet_in lines) ≡ filter_map (names_said kind) lines
names_of_lines kind [] = refl
names_of_lines kind (line.Packet head ∷ lines) = ap (cons_option (names_of_head kind head)) (names_of_lines kind lines)
names_of_lines kind (line.Item head ∷ lines) = names_of_lines kind lines
names_of_lines kind (line.Detail d ∷ lines) = names_of_lines kind lines
names_of_lines kind (line.Hazardous ∷ lines) = names_of_lines kind lines
names_of_lines kind (line.NoEffect ∷ lines) = names_of_lines kind lines

names_in_order : (kind : PacketKind) (lines : List Line) → map names_of_packet (packets_of kind (standing lines)) ≡ filter_map (names_said kind) lines
names_in_order kind lines = names_of_blocks kind (blocks packet_in lines) ∙ ap (filter_map (names_of_head kind)) (heads packet_in lines) ∙ names_of_lines kind lines

-- ---- all of it

defined : (lines : List Line) → IsDefinedBy lines (definitions_at lines)
defined lines = record {
  telemetry_names = names_in_order Telemetry lines;
  command_names = names_in_order Command lines;
  telemetry = packet_line Telemetry lines;
  commands = packet_line Command lines;
  sets = refl;
}

pub definitions_are_of_their_lines : DefinitionsAreOfTheirLines
definitions_are_of_their_lines all d e =
    let P : DefinitionsData → Type 0 = λ x. IsDefinedBy (lines_of all) x in
    subst P (taken refusal at_end (λ ss. definitions_at (lines_of ss)) all d e) (defined (lines_of all))
