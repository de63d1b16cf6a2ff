-- The lists of rows that look-ups answer, as lists: a row for each item, for each item that is out of its limits, and for each change of a state.
use Rattle.std.specs.Prelude.{◌≡◌, ℕ, List, flat_map, map}
use Rattle.std.specs.List.{enumerate_from, filter, filter_map}
use Rattle.cts_conv.specs.declared.value.ValueKind.{ValueKind}
use Rattle.cts_def.specs.Items.{ItemData}
use Rattle.cts_def.specs.Packets.{PacketData}
use Rattle.cts_monitor.specs.declared.types.LimitsEvent.{LimitsEvent}
use Rattle.cts_api.specs.Answers.{all_out_rows, event_row, event_rows, item_row, out_row, rows_from}
use Rattle.cts_api.specs.Points.{Point}
use Rattle.cts_api.specs.Shown.{color, is_out}

-- the items of a packet that are red or yellow, each with its number
abbrev pub out_items : Point → ℕ → PacketData → List (ℕ × ItemData)
out_items h p packet = filter (λ (i : ℕ × ItemData). is_out (h.state_of p i.0)) (enumerate_from 0 packet.items)

pub record RowsAreListed : Type 0 where
  -- get_tlm_packet: one row an item
  pub packet : (h : Point) (kind : ValueKind) (p : ℕ) (packet : PacketData) (bytes : List ℕ)
      → rows_from h kind p packet bytes 0 packet.items ≡ map (λ (i : ℕ × ItemData). item_row h kind p packet bytes i.0 i.1) (enumerate_from 0 packet.items)
  -- get_out_of_limits: one row an item that is out, packet by packet
  pub out : (h : Point) (packets : List PacketData)
      → all_out_rows h 0 packets ≡ flat_map (λ (p : ℕ × PacketData). map (λ (i : ℕ × ItemData). out_row p.1 i.1 (color (h.state_of p.0 i.0)))
      (out_items h p.0 p.1)) (enumerate_from 0 packets)
  -- get_limits_events: one row an event
  pub events : (packets : List PacketData) (es : List LimitsEvent) → event_rows packets es ≡ filter_map (event_row packets) es
