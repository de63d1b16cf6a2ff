-- All that is kept stands for one entry more.
use Rattle.std.proofs.Common.{◌≡◌, ◌≢◌, ◌∷◌, [], ◌++◌, ℕ, ◌<◌, ◌-◌, ◌^◌, Bool, true, false, List, length, get_or, sym, ◌∙◌, ap, subst, arith, append-nil, Option, Some, None}
use Rattle.std.specs.Prelude.{◌==◌, if◌then◌else◌, slice_get}
use Rattle.std.proofs.Math.ListN.{length-set}
use Rattle.std.proofs.lemmas.Grind.{common_steps}
use Rattle.std.proofs.lemmas.Option.{slice_get-get_or}
use Rattle.cts_def.specs.Packets.{PacketData}
use Rattle.cts_def.specs.Sites.{SiteData}
use Rattle.cts_def.specs.declared.ident.Ident.TheVariants.{Known}
use Rattle.cts_entry.specs.declared.entry.Entry.{Entry}
use Rattle.cts_monitor.specs.Brought.{brings, brought_by, of_ident}
use Rattle.cts_monitor.specs.Cells.{CellsTell, Fit, sampled_all, turns}
use Rattle.cts_monitor.specs.Events.{events, events_at, brought_events, packet_events, item_events}
use Rattle.cts_monitor.specs.Settings.{may_set}
use Rattle.cts_monitor.specs.Grid.{GridData, GridTells, RowTells, cells_at, sampled_packet}
use Rattle.cts_monitor.specs.declared.cells.Cell.{Cell}
use Rattle.cts_monitor.specs.declared.types.LimitsEvent.{LimitsEvent}
use Rattle.cts_monitor.proofs.Keyed.{keyed_set}
use Rattle.cts_monitor.proofs.Telling.{events_more}
use Rattle.cts_monitor.proofs.CellSteps.{cells_same, cells_sampled, turns_are, cells_fit}

pub other_number : (n m : ℕ) → m ≢ n → (n == m) ≡ false
other_number n m d = grind (arith, common_steps)

same_number : (n : ℕ) → (n == n) ≡ true
same_number n = grind (arith, common_steps)

pub row_same : (site : SiteData) (h : List Entry) (e : Entry) (p : ℕ) (row : List Cell) → ((j : ℕ) → may_set p j e ≡ false) → brought_by (Known p) e ≡ None → RowTells site h p row → RowTells site (h ++ e ∷ []) p row
row_same site h e p row q b t packet is = cells_same packet p 0 h e packet.items row q b (t packet is)

same_packet : (o : Option PacketData) (a b : PacketData) → o ≡ Some a → o ≡ Some b → a ≡ b
same_packet o a b x y = cc

-- an entry that brings nothing and sets nothing
pub grid_same : (site : SiteData) (h : List Entry) (e : Entry) (k : GridData) → ((n j : ℕ) → may_set n j e ≡ false) → ((p : ℕ) → brought_by (Known p) e ≡ None) → events_at site h e ≡ [] → GridTells site h k → GridTells site (h ++ e ∷ []) k
grid_same site h e k q b none t = record {
  long = t.long;
  rows = λ p row is. row_same site h e p row (q p) (b p) (t.rows p row is);
  told = t.told ∙ sym (events_more site h e ∙ ap (λ (es : List LimitsEvent). events site h ++ es) none ∙ append-nil (events site h));
}

module _ (site : SiteData) (h : List Entry) (k : GridData) (q : ℕ) (packet : PacketData) (within : q < length k.rows) (is : slice_get site.definitions.telemetry q ≡ Some packet) (t : GridTells site h k) where
  row_there : CellsTell packet q 0 h packet.items (cells_at k.rows q)
  row_there = t.rows q (get_or k.rows q []) (slice_get-get_or k.rows q [] within) packet is

  -- it can take the bytes
  pub grid_fits : length h < 2 ^ 32 - 1 → Fit packet.items (cells_at k.rows q)
  grid_fits few = cells_fit packet q 0 h packet.items (cells_at k.rows q) few row_there

  -- an entry that brings bytes of the packet
  module _ (e : Entry) (bytes : List ℕ) (quiet : (n j : ℕ) → may_set n j e ≡ false) (brought : brings e.what ≡ Some (Known q, bytes)) where
    own : brought_by (Known q) e ≡ Some bytes
    own = ap (of_ident (Known q)) brought ∙ ap (λ (b : Bool). if b then Some bytes else None) (same_number q)

    others : (p : ℕ) → p ≢ q → brought_by (Known p) e ≡ None
    others p d = ap (of_ident (Known p)) brought ∙ ap (λ (b : Bool). if b then Some bytes else None) (other_number q p d)

    new_row : RowTells site (h ++ e ∷ []) q (sampled_all packet bytes packet.items (cells_at k.rows q))
    new_row other there =
        subst (λ (x : PacketData). CellsTell x q 0 (h ++ e ∷ []) x.items (sampled_all packet bytes packet.items (cells_at k.rows q))) (same_packet (slice_get site.definitions.telemetry q) packet other is there)
        (cells_sampled packet q 0 h e bytes packet.items (cells_at k.rows q) (quiet q) own row_there)

    events_here : events_at site h e ≡ item_events h e packet q 0 packet.items
    events_here = ap (brought_events site h e) brought ∙ ap (packet_events h e q) is

    pub grid_sampled : GridTells site (h ++ e ∷ []) (sampled_packet (length h) q packet bytes k)
    grid_sampled = record {
      long = length-set k.rows q (sampled_all packet bytes packet.items (cells_at k.rows q)) ∙ t.long;
      rows = keyed_set (RowTells site h) (RowTells site (h ++ e ∷ [])) k.rows q (sampled_all packet bytes packet.items (cells_at k.rows q))
          (λ p row d. row_same site h e p row (quiet p) (others p d)) new_row t.rows;
      told = ap (λ (es : List LimitsEvent). es ++ turns (length h) q 0 packet bytes packet.items (cells_at k.rows q)) t.told
          ∙ ap (λ (es : List LimitsEvent). events site h ++ es) (turns_are packet q 0 h e bytes packet.items (cells_at k.rows q) (quiet q) own row_there ∙ sym events_here)
          ∙ sym (events_more site h e);
    }
