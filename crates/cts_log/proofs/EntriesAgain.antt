-- Entries that were laid out are read again, and bytes hold an entry where they begin with one.
use Rattle.std.proofs.Common.{◌≡◌, ℕ, ◌+◌, ◌-◌, ◌≤◌, Bool, true, false, ◌&&◌, List, ◌++◌, length, take, drop, refl, sym, ◌∙◌, ap, arith, append_assoc, length-append}
use Rattle.std.specs.Prelude.{nat_le, not, slice_range}
use Rattle.std.proofs.lemmas.List.{take_at, drop_at, length-drop, length-take-le}
use Rattle.std.proofs.lemmas.List.Folds.{drop_split}
use Rattle.cts_framing.specs.Heads.{AreBytes, HeadData, FitsHead}
use Rattle.cts_framing.specs.Layouts.{has_laid, has_wrong_flags, laid_end, laid_head, laid_of, stored_at}
use Rattle.cts_framing.proofs.Fronts.{and_tells, le_tells, le_test}
use Rattle.cts_framing.proofs.Laid.{flags_again, has_laid_again, laid_again, laid_end_again, laid_fits, laid_whole, stored_again}
use Rattle.cts_encode.specs.Spellings.{head_for, head_in}
use Rattle.cts_log.specs.Laws.{EntriesAreExact, EntriesAreRead, EntryIsRead}
use Rattle.cts_log.specs.Logged.{Logged, FitsLogged, entry_bytes, entry_end, entry_of, has_entry}

abbrev pub head_data : Logged → HeadData
head_data e = head_for e.heading (length e.bytes)

fits_in : (fl : Bool) (e : Logged) → FitsLogged fl e → FitsHead (head_data e)
fits_in fl e f = record { seconds = f.heading.seconds; micros = f.heading.micros; target = f.heading.target; packet = f.heading.packet; count = f.bytes }

-- without flags nothing is stored, and with them the flag is told
told : (fl : Bool) (e : Logged) → FitsLogged fl e → (fl && e.heading.stored) ≡ e.heading.stored
told true e f = refl
told false e f = sym (f.unstored refl)

untold : (fl : Bool) (u : List ℕ) → fl ≡ false → stored_at fl u ≡ false
untold true u h = cc h
untold false u h = refl

module _ (fl : Bool) (e : Logged) (x : List ℕ) (f : FitsLogged fl e) where
  head : List ℕ
  head = head_in fl e.heading (length e.bytes)

  u : List ℕ
  u = head ++ (e.bytes ++ x)

  ends : laid_end fl u ≡ length head
  unfolding u head
  ends = laid_end_again fl e.heading.stored (head_data e) (e.bytes ++ x)

  says : laid_of fl u ≡ head_data e
  unfolding u head
  says = laid_again fl e.heading.stored (head_data e) (e.bytes ++ x) (fits_in fl e f)

  stored_is : stored_at fl u ≡ e.heading.stored
  unfolding u head
  stored_is = stored_again fl e.heading.stored (head_data e) (e.bytes ++ x) ∙ told fl e f

  right : has_wrong_flags fl u ≡ false
  unfolding u head
  right = flags_again fl e.heading.stored (head_data e) (e.bytes ++ x)

  there : has_laid fl u ≡ true
  unfolding u head
  there = has_laid_again fl e.heading.stored (head_data e) (e.bytes ++ x)

  counts : (laid_of fl u).count ≡ length e.bytes
  counts = ap (λ (h : HeadData). h.count) says

  end_is : entry_end fl u ≡ length head + length e.bytes
  end_is = omega (arith, ends, counts)

  long : length u ≡ length head + (length e.bytes + length x)
  unfolding u
  long = omega (arith, length-append head (e.bytes ++ x), length-append e.bytes x)

  is_whole : has_entry fl u ≡ true
  is_whole = rw (right, there, le_test (entry_end fl u) (length u) (omega (arith, end_is, long))) refl

  after : drop (laid_end fl u) u ≡ e.bytes ++ x
  unfolding u
  after = drop_at head (e.bytes ++ x) (laid_end fl u) (sym ends)

  bytes_are : slice_range u (laid_end fl u) (entry_end fl u) ≡ e.bytes
  bytes_are = ap (take (entry_end fl u - laid_end fl u)) after ∙ take_at e.bytes x (entry_end fl u - laid_end fl u) (omega (arith, ends, end_is))

  entry_is : entry_of fl u ≡ e
  entry_is = λ i. record { heading = record { time = (says i).time; target = (says i).target; packet = (says i).packet; stored = stored_is i }; bytes = bytes_are i }

  laid : entry_bytes fl e ++ x ≡ u
  unfolding u head
  laid = append_assoc head e.bytes x

  pub read_again : EntryIsRead fl e x
  unfolding head
  read_again = record {
    whole = ap (has_entry fl) laid ∙ is_whole;
    entry = ap (entry_of fl) laid ∙ entry_is;
    end = ap (entry_end fl) laid ∙ (end_is ∙ sym (length-append head e.bytes));
  }

pub entries_are_read : EntriesAreRead
entries_are_read fl e x f = read_again fl e x f

not_tells : (b : Bool) → not b ≡ true → b ≡ false
not_tells true h = cc h
not_tells false h = refl

module _ (fl : Bool) (u : List ℕ) (b : AreBytes u) (h : has_entry fl u ≡ true) where
  parts : (not (has_wrong_flags fl u) ≡ true) × ((has_laid fl u && nat_le (entry_end fl u) (length u)) ≡ true)
  parts = and_tells (not (has_wrong_flags fl u)) (has_laid fl u && nat_le (entry_end fl u) (length u)) h

  right_there : has_wrong_flags fl u ≡ false
  right_there = not_tells (has_wrong_flags fl u) parts.0

  head_there : has_laid fl u ≡ true
  head_there = (and_tells (has_laid fl u) (nat_le (entry_end fl u) (length u)) parts.1).0

  pub all_there : entry_end fl u ≤ length u
  all_there = le_tells (entry_end fl u) (length u) (and_tells (has_laid fl u) (nat_le (entry_end fl u) (length u)) parts.1).1

  as_long : length (slice_range u (laid_end fl u) (entry_end fl u)) ≡ (laid_of fl u).count
  as_long = omega (arith, all_there, length-drop (laid_end fl u) u, length-take-le (entry_end fl u - laid_end fl u) (drop (laid_end fl u) u) (omega (arith, all_there, length-drop (laid_end fl u) u)))

  pub fits_there : FitsLogged fl (entry_of fl u)
  fits_there =
      let f = laid_fits fl u b head_there in
      record { heading = record { seconds = f.seconds; micros = f.micros; target = f.target; packet = f.packet }; bytes = omega (arith, as_long, f.count); unstored = untold fl u }

  same_head : head_data (entry_of fl u) ≡ laid_of fl u
  same_head = λ i. record { time = (laid_of fl u).time; target = (laid_of fl u).target; packet = (laid_of fl u).packet; count = as_long i }

  pub laid_there : u ≡ entry_bytes fl (entry_of fl u) ++ drop (entry_end fl u) u
  laid_there =
      laid_whole fl u b right_there head_there
      ∙ (ap (λ v. laid_head fl (stored_at fl u) (laid_of fl u) ++ v) (drop_split u (laid_end fl u) (entry_end fl u) (omega arith))
      ∙ (ap (λ (d : HeadData). laid_head fl (stored_at fl u) d ++ (slice_range u (laid_end fl u) (entry_end fl u) ++ drop (entry_end fl u) u)) (sym same_head)
      ∙ sym (append_assoc (laid_head fl (stored_at fl u) (head_data (entry_of fl u))) (slice_range u (laid_end fl u) (entry_end fl u)) (drop (entry_end fl u) u))))

pub entries_are_exact : EntriesAreExact
entries_are_exact fl u b = (
  λ h. (entry_of fl u, drop (entry_end fl u) u, fits_there fl u b h, laid_there fl u b h),
  λ t. ap (has_entry fl) t.3 ∙ (read_again fl t.0 t.1 t.2).whole,
)
