-- What the next entry gives to the logs.
use Rattle.std.proofs.Common.{◌≡◌, ℕ, ◌+◌, ◌-◌, ◌<◌, Bool, true, false, List, [], ◌∷◌, ◌++◌, length, take, refl, sym, ◌∙◌, ap, subst, arith, inl, inr}
use Rattle.std.proofs.Common.{append-nil, length-append, Some}
use Rattle.std.specs.Prelude.{◌⊎◌, ◌^◌, if◌then◌else◌, slice_get}
use Rattle.cts_def.specs.Sites.{SiteData}
use Rattle.cts_entry.specs.declared.entry.Entry.{Entry}
use Rattle.cts_framing.specs.Layouts.{has_flags}
use Rattle.cts_log.specs.Cycling.{CycleData, begins_part}
use Rattle.cts_log.specs.Files.{log_head_len}
use Rattle.cts_log.specs.Logged.{FitsLogged, Logged, entry_bytes}
use Rattle.cts_log_parts.specs.Grouping.{size_after}
use Rattle.cts_log_parts.specs.Growths.{CutsData, begins_entry, cut_with, cycle_after}
use Rattle.cts_log_parts.specs.Parts.{entry_len, log_parts}
use Rattle.cts_outside.specs.declared.vault.LogKind.{LogKind}
use Rattle.cts_scribe.specs.Growing.{Gives, GivesOneMore}
use Rattle.cts_scribe.specs.Logs.{counted_after, entries_log, file_kind, is_in_log, logged, logged_as}
use Rattle.cts_scribe.proofs.Logging.{gives_in, gives_out, logged_in, logged_out}
use Rattle.cts_scribe.proofs.NextEntries.{take_next}
use Rattle.cts_scribe.proofs.Parting.{begins_there, counts as counts_of, counts_on, cut_on, entry_short, fall_on, grown_on, same_parts}

pub true_or_not : (x : Bool) → (x ≡ true) ⊎ (x ≡ false)
true_or_not true = inl refl
true_or_not false = inr refl

-- no entries give nothing
pub gives_none : (kind : LogKind) (site : SiteData) (history : List Entry) (p : ℕ) (bytes : List ℕ) (cuts : CutsData) → bytes ≡ [] → cuts.places ≡ []
    → cuts.end ≡ 0 → Gives kind site history p p bytes cuts
gives_none kind site history p bytes cuts none nowhere end =
    subst (λ (b : List ℕ). Gives kind site history p p b cuts) (sym none)
    (subst (λ (c : CutsData). Gives kind site history p p [] c) (sym cuts_are) (record {
      places = omega arith;
      end = refl;
      grown = λ digest. same_parts (file_kind kind) (has_flags site.log_layout) digest site.log_cycle (logged kind site (take p history));
    }))
  where
    cuts_are : cuts ≡ record { places = []; end = 0 }
    cuts_are = ap (λ (l : List ℕ). record { places = l; end = cuts.end }) nowhere ∙ ap (λ (n : ℕ). record { places = []; end = n }) end

-- an entry is not too long for a cycle
pub entry_room : (kind : LogKind) (site : SiteData) (e : Entry) → FitsLogged (has_flags site.log_layout) (logged_as site e)
    → length (entries_log kind site (e ∷ [])) < 2 ^ 33
entry_room kind site e fits = elim (true_or_not (is_in_log kind site e)) [
  | inl is ↦ subst (λ (l : List ℕ). length l < 2 ^ 33) (sym (gives_in kind site e is)) (entry_short (has_flags site.log_layout) (logged_as site e) fits)
  | inr is ↦ subst (λ (l : List ℕ). length l < 2 ^ 33) (sym (gives_out kind site e is)) (omega arith)
]

module _ (kind : LogKind) (site : SiteData) (history : List Entry) (p n : ℕ) (e : Entry) (bytes : List ℕ) (cuts : CutsData)
    (there : slice_get history n ≡ Some e) where
  abbrev flags : Bool
  flags = has_flags site.log_layout

  abbrev entries : List Logged
  entries = logged kind site (take n history)

  abbrev begins : Bool
  begins = begins_part site.log_cycle (size_after (entry_len flags) site.log_cycle log_head_len entries) (entry_len flags (logged_as site e))

  abbrev cuts_then : CutsData
  cuts_then = record { places = if begins then cuts.places ++ length bytes ∷ [] else cuts.places; end = length (bytes ++ entry_bytes flags (logged_as site e)) }

  entries_then : is_in_log kind site e ≡ true → logged kind site (take (n + 1) history) ≡ entries ++ logged_as site e ∷ []
  entries_then is = ap (logged kind site) (take_next history n e there) ∙ logged_in kind site (take n history) e is

  entries_same : is_in_log kind site e ≡ false → logged kind site (take (n + 1) history) ≡ entries
  entries_same is = ap (logged kind site) (take_next history n e there) ∙ logged_out kind site (take n history) e is

  -- an entry that stands in the log
  given_in : is_in_log kind site e ≡ true → Gives kind site history p n bytes cuts
      → Gives kind site history p (n + 1) (bytes ++ entry_bytes flags (logged_as site e)) cuts_then
  given_in is g = record {
    places = fall_on begins cuts.places bytes (entry_bytes flags (logged_as site e)) g.places;
    end = refl;
    grown = λ digest.
        grown_on (file_kind kind) flags digest site.log_cycle (logged kind site (take p history)) entries (logged_as site e) bytes cuts.places g.places
        (g.grown digest)
        ∙ ap (λ (l : List Logged). log_parts (file_kind kind) flags digest site.log_cycle l) (sym (entries_then is));
  }

  -- and one that does not
  given_out : is_in_log kind site e ≡ false → Gives kind site history p n bytes cuts → Gives kind site history p (n + 1) bytes cuts
  given_out is g = record {
    places = g.places;
    end = g.end;
    grown = λ digest. g.grown digest ∙ ap (λ (l : List Logged). log_parts (file_kind kind) flags digest site.log_cycle l) (sym (entries_same is));
  }

  module _ (cycle : CycleData) (bytes' : List ℕ) (cuts' : CutsData) (cycle' : CycleData) (more : GivesOneMore kind site e bytes cuts cycle bytes' cuts' cycle')
      (counts : cycle ≡ counted_after kind site (take n history)) (g : Gives kind site history p n bytes cuts) where
    -- so many bytes came
    bytes_in : is_in_log kind site e ≡ true → bytes' ≡ bytes ++ entry_bytes flags (logged_as site e)
    bytes_in is = more.bytes_are ∙ ap (λ (l : List ℕ). bytes ++ l) (gives_in kind site e is)

    length_in : is_in_log kind site e ≡ true → length bytes' - cuts.end ≡ entry_len flags (logged_as site e)
    length_in is =
        let a = ap length (bytes_in is) in
        let b = length-append bytes (entry_bytes flags (logged_as site e)) in
        omega (arith, a, b, g.end)

    bytes_out : is_in_log kind site e ≡ false → bytes' ≡ bytes
    bytes_out is = more.bytes_are ∙ ap (λ (l : List ℕ). bytes ++ l) (gives_out kind site e is) ∙ append-nil bytes

    length_out : is_in_log kind site e ≡ false → length bytes' - cuts.end ≡ 0
    length_out is = let a = ap length (bytes_out is) in omega (arith, a, g.end)

    begins_in : is_in_log kind site e ≡ true → begins_entry cycle (length bytes' - cuts.end) ≡ begins
    begins_in is =
        ap (λ (c : CycleData). begins_entry c (length bytes' - cuts.end)) counts ∙ ap (begins_entry (counted_after kind site (take n history))) (length_in is)
        ∙ begins_there flags site.log_cycle entries (logged_as site e)

    cuts_in : is_in_log kind site e ≡ true → cuts' ≡ cuts_then
    cuts_in is =
        more.cuts_are ∙ cut_on begins (begins_entry cycle (length bytes' - cuts.end)) (length bytes') (length bytes) cuts (begins_in is) g.end
        ∙ ap (λ (l : List ℕ). record { places = if begins then cuts.places ++ length bytes ∷ [] else cuts.places; end = length l }) (bytes_in is)

    cuts_out : is_in_log kind site e ≡ false → cuts' ≡ cuts
    cuts_out is =
        more.cuts_are ∙ ap (λ (k : ℕ). cut_with (begins_entry cycle k) (length bytes') cuts) (length_out is)
        ∙ ap (λ (k : ℕ). record { places = cuts.places; end = k }) (ap length (bytes_out is) ∙ sym g.end)

    pub gives_next : Gives kind site history p (n + 1) bytes' cuts'
    gives_next = elim (true_or_not (is_in_log kind site e)) [
      | inl is ↦ subst (λ (b : List ℕ). Gives kind site history p (n + 1) b cuts') (sym (bytes_in is))
          (subst (λ (c : CutsData). Gives kind site history p (n + 1) (bytes ++ entry_bytes flags (logged_as site e)) c) (sym (cuts_in is)) (given_in is g))
      | inr is ↦ subst (λ (b : List ℕ). Gives kind site history p (n + 1) b cuts') (sym (bytes_out is))
          (subst (λ (c : CutsData). Gives kind site history p (n + 1) bytes c) (sym (cuts_out is)) (given_out is g))
    ]

    pub counts_next : cycle' ≡ counted_after kind site (take (n + 1) history)
    counts_next = elim (true_or_not (is_in_log kind site e)) [
      | inl is ↦ more.cycle_is ∙ ap (λ (c : CycleData). cycle_after c (length bytes' - cuts.end)) counts
          ∙ ap (cycle_after (counted_after kind site (take n history))) (length_in is)
          ∙ counts_on flags site.log_cycle entries (logged_as site e)
          ∙ ap (counts_of flags site.log_cycle) (sym (entries_then is))
      | inr is ↦ more.cycle_is ∙ ap (cycle_after cycle) (length_out is) ∙ counts ∙ ap (counts_of flags site.log_cycle) (sym (entries_same is))
    ]
