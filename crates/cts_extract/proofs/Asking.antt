-- What an attempt to make columns answers.
use Rattle.std.proofs.Common.{◌≡◌, ℕ, Bool, true, false, cond, List, refl, sym, ◌∙◌, ap, Some, None, Ok, Err}
use Rattle.std.specs.Prelude.{slice_get}
use Rattle.std.specs.List.{list_any}
use Rattle.cts_conv.specs.declared.value.ValueKind.{ValueKind}
use Rattle.cts_def.specs.Packets.{DefinitionsData, PacketData}
use Rattle.cts_extract.specs.Columns.{ColumnsAre, IsUnknown, ItemsAre, first_unknown, has_target, kept_packets, packet_named, unknown_in}
use Rattle.cts_extract.specs.declared.fault.ColumnFault.{ColumnFault}
use Rattle.cts_extract.specs.declared.fault.ColumnFault.TheVariants.{Unknown, Memory}
use Rattle.cts_extract.proofs.Asked.{no_stranger}

module _ (d : DefinitionsData) (commands : Bool) (target packet : List ℕ) (words : List (List ℕ)) (kind : ValueKind) where
  fault_at : (word : List ℕ) (e : ColumnFault) → first_unknown d commands target packet words ≡ Some word → IsUnknown word e → ColumnsAre d commands target packet words kind (Err e)
  fault_at word (Unknown other) h u = h ∙ ap Some (sym u)
  fault_at word Memory h u = tt

  -- what is unknown, by whether the target is known
  by_target : (b : Bool) → list_any (has_target target) (kept_packets d commands) ≡ b
      → first_unknown d commands target packet words ≡ cond b (unknown_in packet words (packet_named d commands target packet)) (Some target)
  by_target b h = ap (λ (k : Bool). cond k (unknown_in packet words (packet_named d commands target packet)) (Some target)) h

  pub target_unknown : (e : ColumnFault) → list_any (has_target target) (kept_packets d commands) ≡ false → IsUnknown target e → ColumnsAre d commands target packet words kind (Err e)
  target_unknown e h u = fault_at target e (by_target false h) u

  pub packet_unknown : (e : ColumnFault) → list_any (has_target target) (kept_packets d commands) ≡ true → packet_named d commands target packet ≡ None → IsUnknown packet e
      → ColumnsAre d commands target packet words kind (Err e)
  packet_unknown e h n u = fault_at packet e (by_target true h ∙ ap (unknown_in packet words) n) u

  pub item_unknown : (p : PacketData) (e : ColumnFault) → list_any (has_target target) (kept_packets d commands) ≡ true → packet_named d commands target packet ≡ Some p → ItemsAre p words (Err e)
      → ColumnsAre d commands target packet words kind (Err e)
  item_unknown p (Unknown other) h n i = by_target true h ∙ (ap (unknown_in packet words) n ∙ i)
  item_unknown p Memory h n i = tt

  pub all_asked : (p : PacketData) (number : ℕ) (numbers : List ℕ) (names : List (List ℕ)) → list_any (has_target target) (kept_packets d commands) ≡ true
      → packet_named d commands target packet ≡ Some p → slice_get (kept_packets d commands) number ≡ Some p → ItemsAre p words (Ok (numbers, names))
      → ColumnsAre d commands target packet words kind (Ok (record { commands = commands; packet = number; items = numbers; names = names; kind = kind }))
  all_asked p number numbers names h n at i = (
    by_target true h ∙ (ap (unknown_in packet words) n ∙ no_stranger p words i.0 i.1),
    record {
      of = p;
      items = i.0;
      are_of = record { at = at; items_at = i.2; names = i.3 };
      commands_are = refl;
      kind_is = refl;
      named = n;
      called = i.1;
    },
  )
