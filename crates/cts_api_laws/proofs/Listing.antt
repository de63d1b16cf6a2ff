-- Rows item by item are the rows of the list.
use Rattle.std.proofs.Common.{◌≡◌, ◌∙◌, ℕ, ◌+◌, Bool, true, false, List, [], ◌∷◌, ◌++◌, Option, Some, None, refl, ap}
use Rattle.std.specs.Prelude.{flat_map, if◌then◌else◌, map}
use Rattle.std.specs.List.{cons_option, enumerate_from, filter, filter_map}
use Rattle.cts_conv.specs.declared.value.ValueKind.{ValueKind}
use Rattle.cts_def.specs.Items.{ItemData}
use Rattle.cts_def.specs.Packets.{PacketData}
use Rattle.cts_monitor.specs.declared.types.LimitsEvent.{LimitsEvent}
use Rattle.serde_json.specs.Data.{Data}
use Rattle.cts_api.specs.Answers.{all_out_rows, event_row, event_rows, item_row, out_row, out_rows, rows_from, with_row}
use Rattle.cts_api.specs.Points.{Point}
use Rattle.cts_api.specs.Shown.{color, is_out}
use Rattle.cts_api_laws.specs.ListedRows.{RowsAreListed}

rows_are : (h : Point) (kind : ValueKind) (p : ℕ) (packet : PacketData) (bytes : List ℕ) (n : ℕ) (items : List ItemData)
    → rows_from h kind p packet bytes n items ≡ map (λ (i : ℕ × ItemData). item_row h kind p packet bytes i.0 i.1) (enumerate_from n items)
rows_are h kind p packet bytes n [] = refl
rows_are h kind p packet bytes n (i ∷ items) = ap (λ (rows : List Data). item_row h kind p packet bytes n i ∷ rows) (rows_are h kind p packet bytes (n + 1) items)

module _ (h : Point) where
  abbrev out : ℕ → ℕ × ItemData → Bool
  out p i = is_out (h.state_of p i.0)

  abbrev row : ℕ → PacketData → ℕ × ItemData → Data
  row p packet i = out_row packet i.1 (color (h.state_of p i.0))

  abbrev rows_of : ℕ → PacketData → ℕ → List ItemData → List Data
  rows_of p packet n items = map (row p packet) (filter (out p) (enumerate_from n items))

  one_out : (p : ℕ) (packet : PacketData) (n : ℕ) (i : ItemData) (b : Bool) (rows : List Data) (more : List (ℕ × ItemData)) → rows ≡ map (row p packet) more
      → (if b then row p packet (n, i) ∷ rows else rows) ≡ map (row p packet) (if b then (n, i) ∷ more else more)
  one_out p packet n i true rows more is = ap (λ (ds : List Data). row p packet (n, i) ∷ ds) is
  one_out p packet n i false rows more is = is

  out_are : (p : ℕ) (packet : PacketData) (n : ℕ) (items : List ItemData) → out_rows h p packet n items ≡ rows_of p packet n items
  out_are p packet n [] = refl
  out_are p packet n (i ∷ items) = one_out p packet n i (is_out (h.state_of p n)) (out_rows h p packet (n + 1) items) (filter (out p) (enumerate_from (n + 1) items)) (out_are p packet (n + 1) items)

  all_are : (n : ℕ) (packets : List PacketData) → all_out_rows h n packets ≡ flat_map (λ (p : ℕ × PacketData). rows_of p.0 p.1 0 p.1.items) (enumerate_from n packets)
  all_are n [] = refl
  all_are n (p ∷ packets) =
      ap (λ (ds : List Data). ds ++ all_out_rows h (n + 1) packets) (out_are n p 0 p.items) ∙ ap (λ (ds : List Data). rows_of n p 0 p.items ++ ds) (all_are (n + 1) packets)

with_is : (o : Option Data) (rows : List Data) → with_row o rows ≡ cons_option o rows
with_is None rows = refl
with_is (Some d) rows = refl

events_are : (packets : List PacketData) (es : List LimitsEvent) → event_rows packets es ≡ filter_map (event_row packets) es
events_are packets [] = refl
events_are packets (e ∷ es) = ap (with_row (event_row packets e)) (events_are packets es) ∙ with_is (event_row packets e) (filter_map (event_row packets) es)

pub rows_are_listed : RowsAreListed
rows_are_listed = record {
  packet = λ h kind p packet bytes. rows_are h kind p packet bytes 0 packet.items;
  out = λ h packets. all_are h 0 packets;
  events = events_are;
}
