-- Entries that open, close and stop nothing.
use Rattle.std.proofs.Common.{◌≡◌, ℕ, ◌==◌, Bool, true, false, List, [], ◌∷◌, length, None, refl, subst, arith}
use Rattle.std.specs.Prelude.{◌&&◌}
use Rattle.std.specs.List.{list_any}
use Rattle.cts_def.specs.declared.time.Time.{Time}
use Rattle.cts_entry.specs.Histories.{bytes_in, connects_maker, entries_in, is_opened, is_stopped, latest, opens}
use Rattle.cts_entry.specs.declared.entry.Entry.{Entry}
use Rattle.cts_entry.specs.declared.what.What.TheVariants.{Command}
use Rattle.cts_framing.specs.Framing.{Output, plain}
use Rattle.cts_trace.specs.Routing.{Routing, packet_entries}
use Rattle.cts_trace.proofs.Walks.{none_if, packets_connect, packets_open, posted_packets}

pub record IsQuiet (entries : List Entry) : Type 0 where
  pub connects : (k : ℕ) → latest (connects_maker k) entries ≡ None
  pub opens : (k : ℕ) → list_any (opens k) entries ≡ false
  pub stops : is_stopped entries ≡ false

pub quiet_none : IsQuiet []
quiet_none = record { connects = λ k. refl; opens = λ k. refl; stops = refl }

-- ---- packets

no_stop : (g : Routing) (now : Time) (by : ℕ) (outs : List Output) → is_stopped (packet_entries g now by outs) ≡ false
no_stop g now by [] = refl
no_stop g now by (o ∷ outs) = no_stop g now by outs

pub quiet_packets : (g : Routing) (now : Time) (by : ℕ) (outs : List Output) → g.is_interface by ≡ true → IsQuiet (packet_entries g now by outs)
quiet_packets g now by outs interface = record {
  connects = λ k. subst (λ (es : List Entry). latest (connects_maker k) es ≡ None) (posted_packets g [] now by outs interface) (packets_connect k g [] now by outs);
  opens = λ k. subst (λ (es : List Entry). list_any (opens k) es ≡ false) (posted_packets g [] now by outs interface) (packets_open k g [] now by outs);
  stops = no_stop g now by outs;
}

pub packet_entry : (g : Routing) (now : Time) (by : ℕ) (bytes : List ℕ) → entries_in (packet_entries g now by (plain bytes ∷ [])) ≡ 1
packet_entry g now by bytes = refl

pub packet_bytes : (g : Routing) (now : Time) (by : ℕ) (bytes : List ℕ) → bytes_in (packet_entries g now by (plain bytes ∷ [])) ≡ length bytes
packet_bytes g now by bytes = omega arith

-- ---- a command

abbrev sent : ℕ → Time → ℕ → ℕ → List ℕ → Entry
sent by now interface command bytes = record { by = by; time = now; what = Command interface command bytes }

not_opened : (b : Bool) (e : Entry) → is_opened e.what ≡ false → (b && is_opened e.what) ≡ false
not_opened true e h = h
not_opened false e h = refl

pub quiet_command : (by : ℕ) (now : Time) (interface command : ℕ) (bytes : List ℕ) → IsQuiet (sent by now interface command bytes ∷ [])
quiet_command by now interface command bytes = record {
  connects = λ k. none_if (by == k) None refl;
  opens = λ k. let no = not_opened (by == k) (sent by now interface command bytes) refl in grind arith;
  stops = refl;
}

pub command_bytes : (by : ℕ) (now : Time) (interface command : ℕ) (bytes : List ℕ) → bytes_in (sent by now interface command bytes ∷ []) ≡ length bytes
command_bytes by now interface command bytes = omega arith
