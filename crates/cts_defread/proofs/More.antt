-- One more line changes what stands by one step.
use Rattle.std.proofs.Common.{◌≡◌, ℕ, max, Bool, true, cond, ◌||◌, List, [], ◌∷◌, ◌++◌, map, length, Option, Some, None, refl, ap, ◌∙◌}
use Rattle.std.proofs.lemmas.List.{append-nil, map-append}
use Rattle.std.proofs.lemmas.List.Elements.{filter_map-append}
use Rattle.std.specs.List.{list_any}
use Rattle.cts_base.proofs.Known.{any_snoc}
use Rattle.cts_base.specs.declared.decimal.Decimal.{Decimal}
use Rattle.cts_bits.specs.declared.order.Order.{Order}
use Rattle.cts_def.specs.declared.conversion.Segment.{Segment}
use Rattle.cts_def.specs.Items.{ItemData, span_of}
use Rattle.cts_def.specs.Packets.{greatest, length_of, are_variable}
use Rattle.cts_def.specs.Spans.{end_of, bytes_needed, is_variable}
use Rattle.cts_defstatement.specs.declared.details.Detail.{Detail}
use Rattle.cts_defstatement.specs.declared.details.Detail.TheVariants as detail
use Rattle.cts_defstatement.specs.declared.details.LimitsLine.{LimitsLine}
use Rattle.cts_defstatement.specs.declared.line.ItemLine.{ItemLine}
use Rattle.cts_defstatement.specs.declared.line.Line.{Line}
use Rattle.cts_defstatement.specs.declared.line.Line.TheVariants as line
use Rattle.cts_defstatement.specs.declared.line.PacketLine.{PacketLine}
use Rattle.cts_defread.specs.declared.drafted.Drafted.{Drafted}
use Rattle.cts_defread.specs.Standing.{packet_in, item_in, set_limits, conversion_from, limits_from, item_at, end_from, items_from, items_of, packet_of, is_hazardous, standing}
use Rattle.cts_defread.specs.Steps.{add_segment, add_limits, change_item, add_item, add_detail, make_hazardous, place}
use Rattle.cts_defread.proofs.Lists.{on_last_same, map_on_last, any_on_last, any_more, greatest_more}
use Rattle.cts_words.specs.Blocks.{blocks, on_last, with_line}
use Rattle.cts_words.proofs.Blocks.{blocks-more, blocks-joined, last_snoc}

-- ---- one more detail of an item

segment_more : (o : Option (List Decimal)) (segments : List Segment) (s : Segment) → conversion_from o (segments ++ s ∷ []) ≡ add_segment s (conversion_from o segments)
segment_more (Some coefficients) segments s = refl
segment_more None [] s = refl
segment_more None (t ∷ segments) s = refl

limits_more : (ls : List LimitsLine) (l : LimitsLine) → limits_from (ls ++ l ∷ []) ≡ add_limits l (limits_from ls)
limits_more [] l = refl
limits_more (first ∷ others) l =
    ap (λ sets. Some (record { sets = set_limits first ∷ sets; persistence = first.persistence; enabled = first.enabled })) (map-append set_limits others (l ∷ []))

item-detail : (order : Order) (end : ℕ) (head : ItemLine) (body : List Line) (d : Detail) → item_at order end head (body ++ line.Detail d ∷ []) ≡ change_item d (item_at order end head body)
item-detail order end head body (detail.State s) = simp (filter_map-append, append-nil, any_snoc)
item-detail order end head body (detail.Limits l) = simp (filter_map-append, append-nil, any_snoc, limits_more)
item-detail order end head body (detail.Poly coefficients) = simp (filter_map-append, append-nil, any_snoc, last_snoc)
item-detail order end head body (detail.Segment s) = simp (filter_map-append, append-nil, any_snoc, segment_more)
item-detail order end head body (detail.Units full short) = simp (filter_map-append, append-nil, any_snoc, last_snoc)
item-detail order end head body (detail.Format text) = simp (filter_map-append, append-nil, any_snoc, last_snoc)
item-detail order end head body (detail.Overflow o) = simp (filter_map-append, append-nil, any_snoc, last_snoc)
item-detail order end head body detail.Required = simp (filter_map-append, append-nil, any_snoc)

item-hazardous : (order : Order) (end : ℕ) (head : ItemLine) (body : List Line) → item_at order end head (body ++ line.Hazardous ∷ []) ≡ item_at order end head body
item-hazardous order end head body = simp (filter_map-append, append-nil, any_snoc)

item-no_effect : (order : Order) (end : ℕ) (head : ItemLine) (body : List Line) → item_at order end head (body ++ line.NoEffect ∷ []) ≡ item_at order end head body
item-no_effect order end head body = simp (filter_map-append, append-nil, any_snoc)

-- ---- items

-- A line that belongs to the last item changes it alone.
items-joined : (order : Order) (l : Line) (f : ItemData → ItemData)
    → ((end : ℕ) (head : ItemLine) (body : List Line) → item_at order end head (body ++ l ∷ []) ≡ f (item_at order end head body))
    → (end : ℕ) (bs : List (ItemLine × List Line)) → items_from order end (on_last (with_line l) bs) ≡ on_last f (items_from order end bs)
items-joined order l f more end [] = refl
items-joined order l f more end (b ∷ []) = ap (λ i. i ∷ []) (more end b.0 b.1)
items-joined order l f more end (b ∷ c ∷ bs) =
    ap (λ is. item_at order end b.0 b.1 ∷ is) (items-joined order l f more (max end (end_of (span_of (item_at order end b.0 b.1)))) (c ∷ bs))

items-new : (order : Order) (end : ℕ) (bs : List (ItemLine × List Line)) (head : ItemLine)
    → items_from order end (bs ++ (head, []) ∷ []) ≡ items_from order end bs ++ item_at order (end_from end (items_from order end bs)) head [] ∷ []
items-new order end [] head = refl
items-new order end (b ∷ bs) head =
    ap (λ is. item_at order end b.0 b.1 ∷ is) (items-new order (max end (end_of (span_of (item_at order end b.0 b.1)))) bs head)

-- A detail does not move an item.
pub same_span : (d : Detail) (i : ItemData) → span_of (change_item d i) ≡ span_of i
same_span (detail.State s) i = refl
same_span (detail.Limits l) i = refl
same_span (detail.Poly coefficients) i = refl
same_span (detail.Segment s) i = refl
same_span (detail.Units full short) i = refl
same_span (detail.Format text) i = refl
same_span (detail.Overflow o) i = refl
same_span detail.Required i = refl

-- A detail does not name an item anew.
pub same_name : (d : Detail) (i : ItemData) → (change_item d i).name ≡ i.name
same_name (detail.State s) i = refl
same_name (detail.Limits l) i = refl
same_name (detail.Poly coefficients) i = refl
same_name (detail.Segment s) i = refl
same_name (detail.Units full short) i = refl
same_name (detail.Format text) i = refl
same_name (detail.Overflow o) i = refl
same_name detail.Required i = refl

pub length_on_last_item : (f : ItemData → ItemData) (items : List ItemData) → ((i : ItemData) → span_of (f i) ≡ span_of i) → length_of (on_last f items) ≡ length_of items
length_on_last_item f items same = ap greatest (map_on_last (λ (i : ItemData). bytes_needed (span_of i)) f items (λ i. ap bytes_needed (same i)))

pub variable_on_last_item : (f : ItemData → ItemData) (items : List ItemData) → ((i : ItemData) → span_of (f i) ≡ span_of i) → are_variable (on_last f items) ≡ are_variable items
variable_on_last_item f items same = any_on_last (λ (i : ItemData). is_variable (span_of i)) f items (λ i. ap is_variable (same i))

pub length_more : (items : List ItemData) (i : ItemData) → length_of (items ++ i ∷ []) ≡ max (length_of items) (bytes_needed (span_of i))
length_more items i =
    ap greatest (map-append (λ (j : ItemData). bytes_needed (span_of j)) items (i ∷ []))
    ∙ greatest_more (map (λ (j : ItemData). bytes_needed (span_of j)) items) (bytes_needed (span_of i))

pub variable_more : (items : List ItemData) (i : ItemData) → are_variable (items ++ i ∷ []) ≡ are_variable items || is_variable (span_of i)
variable_more items i = any_more (λ (j : ItemData). is_variable (span_of j)) items i

-- ---- definitions

abbrev made : PacketLine → List ItemData → ℕ → Bool → Bool → Drafted
made head items length variable hazardous = record {
  kind = head.kind;
  order = head.order;
  packet = record { target = head.target; name = head.name; items = items; length = length; variable = variable; hazardous = hazardous };
}

-- a definition by its items
abbrev made_of : PacketLine → List ItemData → Bool → Drafted
made_of head items hazardous = made head items (length_of items) (are_variable items) hazardous

hazards : (body : List Line) (l : Line) → list_any is_hazardous (body ++ l ∷ []) ≡ cond (is_hazardous l) true (list_any is_hazardous body)
hazards body l = any_snoc is_hazardous body l

packet-item : (b : PacketLine × List Line) (h : ItemLine) → packet_of (with_line (line.Item h) b) ≡ add_item h (packet_of b)
packet-item (head, body) h =
    let items : List ItemData = items_of (head, body) in
    let item : ItemData = item_at head.order (end_from 0 items) h [] in
    let hazardous : Bool = list_any is_hazardous body in
    ap (λ (bs : List (ItemLine × List Line)). made_of head (items_from head.order 0 bs) (list_any is_hazardous (body ++ line.Item h ∷ []))) (blocks-more item_in body (line.Item h) h refl)
    ∙ ap (λ (is : List ItemData). made_of head is (list_any is_hazardous (body ++ line.Item h ∷ []))) (items-new head.order 0 (blocks item_in body) h)
    ∙ ap (made_of head (items ++ item ∷ [])) (hazards body (line.Item h))
    ∙ ap (λ (n : ℕ). made head (items ++ item ∷ []) n (are_variable (items ++ item ∷ [])) hazardous) (length_more items item)
    ∙ ap (λ (v : Bool). made head (items ++ item ∷ []) (max (length_of items) (bytes_needed (span_of item))) v hazardous) (variable_more items item)

-- A line that belongs to an item, and moves it not, changes the last one alone.
packet-joined : (head : PacketLine) (body : List Line) (l : Line) (f : ItemData → ItemData) → item_in l ≡ None
    → ((end : ℕ) (h : ItemLine) (ls : List Line) → item_at head.order end h (ls ++ l ∷ []) ≡ f (item_at head.order end h ls))
    → ((i : ItemData) → span_of (f i) ≡ span_of i)
    → packet_of (head, body ++ l ∷ []) ≡ made head (on_last f (items_of (head, body))) (length_of (items_of (head, body))) (are_variable (items_of (head, body))) (cond (is_hazardous l) true (list_any is_hazardous body))
packet-joined head body l f none more same =
    let items : List ItemData = items_of (head, body) in
    ap (λ (bs : List (ItemLine × List Line)). made_of head (items_from head.order 0 bs) (list_any is_hazardous (body ++ l ∷ []))) (blocks-joined item_in body l none)
    ∙ ap (λ (is : List ItemData). made_of head is (list_any is_hazardous (body ++ l ∷ []))) (items-joined head.order l f more 0 (blocks item_in body))
    ∙ ap (made_of head (on_last f items)) (hazards body l)
    ∙ ap (λ (n : ℕ). made head (on_last f items) n (are_variable (on_last f items)) (cond (is_hazardous l) true (list_any is_hazardous body))) (length_on_last_item f items same)
    ∙ ap (λ (v : Bool). made head (on_last f items) (length_of items) v (cond (is_hazardous l) true (list_any is_hazardous body))) (variable_on_last_item f items same)

packet-detail : (b : PacketLine × List Line) (d : Detail) → packet_of (with_line (line.Detail d) b) ≡ add_detail d (packet_of b)
packet-detail (head, body) d = packet-joined head body (line.Detail d) (change_item d) refl (λ end h ls. item-detail head.order end h ls d) (same_span d)

packet-unchanged : (head : PacketLine) (body : List Line) (l : Line) → item_in l ≡ None
    → ((end : ℕ) (h : ItemLine) (ls : List Line) → item_at head.order end h (ls ++ l ∷ []) ≡ item_at head.order end h ls)
    → packet_of (head, body ++ l ∷ []) ≡ made_of head (items_of (head, body)) (cond (is_hazardous l) true (list_any is_hazardous body))
packet-unchanged head body l none more =
    let items : List ItemData = items_of (head, body) in
    packet-joined head body l (λ i. i) none more (λ i. refl)
    ∙ ap (λ (is : List ItemData). made head is (length_of items) (are_variable items) (cond (is_hazardous l) true (list_any is_hazardous body))) (on_last_same (λ i. i) items (λ i. refl))

packet-hazardous : (b : PacketLine × List Line) → packet_of (with_line line.Hazardous b) ≡ make_hazardous (packet_of b)
packet-hazardous (head, body) = packet-unchanged head body line.Hazardous refl (item-hazardous head.order)

packet-no_effect : (b : PacketLine × List Line) → packet_of (with_line line.NoEffect b) ≡ packet_of b
packet-no_effect (head, body) = packet-unchanged head body line.NoEffect refl (item-no_effect head.order)

packets-joined : (bs : List (PacketLine × List Line)) (l : Line) (f : Drafted → Drafted) → ((b : PacketLine × List Line) → packet_of (with_line l b) ≡ f (packet_of b))
    → map packet_of (on_last (with_line l) bs) ≡ on_last f (map packet_of bs)
packets-joined [] l f h = refl
packets-joined (b ∷ []) l f h = ap (λ p. p ∷ []) (h b)
packets-joined (b ∷ c ∷ bs) l f h = ap (λ ps. packet_of b ∷ ps) (packets-joined (c ∷ bs) l f h)

-- ---- all definitions

stands_joined : (ls : List Line) (l : Line) (f : Drafted → Drafted) → packet_in l ≡ None → ((b : PacketLine × List Line) → packet_of (with_line l b) ≡ f (packet_of b))
    → standing (ls ++ l ∷ []) ≡ on_last f (standing ls)
stands_joined ls l f none h = ap (map packet_of) (blocks-joined packet_in ls l none) ∙ packets-joined (blocks packet_in ls) l f h

pub standing-more : (ls : List Line) (l : Line) → standing (ls ++ l ∷ []) ≡ place l (standing ls)
standing-more ls (line.Packet head) = ap (map packet_of) (blocks-more packet_in ls (line.Packet head) head refl) ∙ map-append packet_of (blocks packet_in ls) ((head, []) ∷ [])
standing-more ls (line.Item h) = stands_joined ls (line.Item h) (add_item h) refl (λ b. packet-item b h)
standing-more ls (line.Detail d) = stands_joined ls (line.Detail d) (add_detail d) refl (λ b. packet-detail b d)
standing-more ls line.Hazardous = stands_joined ls line.Hazardous make_hazardous refl packet-hazardous
standing-more ls line.NoEffect = stands_joined ls line.NoEffect (λ d. d) refl packet-no_effect ∙ on_last_same (λ d. d) (standing ls) (λ d. refl)
