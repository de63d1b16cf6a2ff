-- How much is given at once.
use Rattle.std.proofs.Common.{◌≡◌, ℕ, ◌+◌, ◌≤◌, ◌<◌, Bool, false, List, length, sym, subst, arith, inl, inr, Some}
use Rattle.std.specs.Prelude.{◌⊎◌, nat_eq, slice_get}
use Rattle.std.proofs.lemmas.Option.{slice_get_within}
use Rattle.cts_def.specs.Sites.{SiteData}
use Rattle.cts_entry.specs.declared.entry.Entry.{Entry}
use Rattle.cts_log_batch.specs.declared.batch.Batch.{Batch}
use Rattle.cts_log_parts.specs.Growths.{CutsData}
use Rattle.cts_outside.specs.declared.vault.LogKind.{LogKind}
use Rattle.cts_outside.specs.declared.vault.LogKind.TheVariants.{Tlm, Cmd}
use Rattle.cts_scribe.specs.declared.growth.Growth.{Growth}
use Rattle.cts_scribe.specs.Growing.{AreBounded, Gives, GivesBoth, Leaves, bytes_given, bytes_of_entry, most_bytes, most_entries}
use Rattle.cts_scribe.proofs.Giving.{true_or_not}

-- ---- the same bytes and places

one_given : (kind : LogKind) (site : SiteData) (history : List Entry) (from to : ℕ) (b b' : List ℕ) (c c' : CutsData) → b' ≡ b → c' ≡ c
    → Gives kind site history from to b c → Gives kind site history from to b' c'
one_given kind site history from to b b' c c' bytes cuts gives =
    subst (λ (x : List ℕ). Gives kind site history from to x c') (sym bytes) (subst (λ (x : CutsData). Gives kind site history from to b x) (sym cuts) gives)

pub given_as : (site : SiteData) (history : List Entry) (from to : ℕ) (g h : Growth) → h.batch.tlm.items ≡ g.batch.tlm.items
    → h.batch.cmd.items ≡ g.batch.cmd.items → h.tlm ≡ g.tlm → h.cmd ≡ g.cmd → GivesBoth site history from to g → GivesBoth site history from to h
given_as site history from to g h tlm cmd tlm_cuts cmd_cuts gives = record {
  tlm = one_given Tlm site history from to g.batch.tlm.items h.batch.tlm.items g.tlm h.tlm tlm tlm_cuts gives.tlm;
  cmd = one_given Cmd site history from to g.batch.cmd.items h.batch.cmd.items g.cmd h.cmd cmd cmd_cuts gives.cmd;
}

-- ---- the bounds

-- with the first entry a single one is followed, and with each other one there are not too many bytes
pub short_on : (from at n : ℕ) → (nat_eq at from ≡ false → n ≤ most_bytes) → (at + 1 ≡ from + 1) ⊎ (n ≤ most_bytes)
short_on from at n short = elim (true_or_not (nat_eq at from)) [
  | inl is ↦ inl (grind (arith, is))
  | inr is ↦ inr (short is)
]

-- an entry that is left out is not the first
pub later_on : (from at : ℕ) → from ≤ at → nat_eq at from ≡ false → from < at
later_on from at le is = grind (arith, le, is)

module _ (site : SiteData) (history : List Entry) (from to : ℕ) where
  -- all were followed that stand or may be
  pub taken_all : (batch : Batch) → to ≤ from + most_entries → (to ≡ from + 1) ⊎ (bytes_given batch ≤ most_bytes)
      → (to < length history → from + most_entries ≤ to) → AreBounded site history from to batch
  taken_all batch few short all = record {
    few = few;
    short = short;
    full = λ e at less. omega (arith, less, all (slice_get_within history to e at));
  }

  -- the next one is left out
  pub left_out : (e : Entry) (is_first : Bool) (old new : Batch) → slice_get history to ≡ Some e → to ≤ from + most_entries
      → (to ≡ from + 1) ⊎ (bytes_given old ≤ most_bytes) → Leaves site e is_first old new → AreBounded site history from to new
  left_out e is_first old new there few short leaves =
      let same : bytes_given new ≡ bytes_given old = (λ i. length (leaves.tlm i) + length (leaves.cmd i)) in
      record {
        few = few;
        short = subst (λ (n : ℕ). (to ≡ from + 1) ⊎ (n ≤ most_bytes)) (sym same) short;
        full = λ x at less.
            let this : e ≡ x = cc in
            subst (λ (y : Entry). most_bytes < bytes_given new + bytes_of_entry site y) this
            (subst (λ (n : ℕ). most_bytes < n + bytes_of_entry site e) (sym same) leaves.over);
      }
