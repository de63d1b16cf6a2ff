-- What a hall shows when several entries are appended.
use Rattle.std.proofs.Common.{◌≡◌, ◌+◌, ◌-◌, List, [], ◌∷◌, ◌++◌, arith, append_assoc, append-nil}
use Rattle.std.proofs.lemmas.List.Sums.{sum_by-cons}
use Rattle.cts_entry.specs.declared.entry.Entry.{Entry}
use Rattle.cts_entry.specs.Histories.{entries_for, entries_in, bytes_for, bytes_in}
use Rattle.cts_entry.proofs.Appending.{entries-append, bytes-append}
use Rattle.cts_table.specs.States.{Shown, CanAdd, added}
use Rattle.cts_connection.specs.Postings.{CanAddAll, added_all}

-- nothing is appended
pub added_none : (s : Shown) → added_all s [] ≡ s
added_none s =
    let spare : s.spare_entries - 0 ≡ s.spare_entries = omega arith in
    let bytes : s.spare_bytes - 0 ≡ s.spare_bytes = omega arith in
    λ i. record { basis = s.basis; entries = append-nil s.entries i; spare_entries = spare i; spare_bytes = bytes i }

-- some entries and then one more
pub added_more : (s : Shown) (front : List Entry) (e : Entry) → added (added_all s front) e ≡ added_all s (front ++ e ∷ [])
added_more s front e =
    let one : entries_in (e ∷ []) ≡ entries_for e.what + 0 = sum_by-cons (λ (x : Entry). entries_for x.what) e [] in
    let weight : bytes_in (e ∷ []) ≡ bytes_for e.what + 0 = sum_by-cons (λ (x : Entry). bytes_for x.what) e [] in
    let entries = append_assoc s.entries front (e ∷ []) in
    let spare : (s.spare_entries - entries_in front) - entries_for e.what ≡ s.spare_entries - entries_in (front ++ e ∷ []) = omega (arith, entries-append front (e ∷ []), one) in
    let bytes : (s.spare_bytes - bytes_in front) - bytes_for e.what ≡ s.spare_bytes - bytes_in (front ++ e ∷ []) = omega (arith, bytes-append front (e ∷ []), weight) in
    λ i. record { basis = s.basis; entries = entries i; spare_entries = spare i; spare_bytes = bytes i }

-- the first of several may be appended, and the others after it
pub can_first : (s : Shown) (e : Entry) (es : List Entry) → CanAddAll s (e ∷ es) → CanAdd s e
can_first s e es can =
    let many : entries_in (e ∷ es) ≡ entries_for e.what + entries_in es = sum_by-cons (λ (x : Entry). entries_for x.what) e es in
    let size : bytes_in (e ∷ es) ≡ bytes_for e.what + bytes_in es = sum_by-cons (λ (x : Entry). bytes_for x.what) e es in
    record { allowed = can.allowed.0; of_site = can.of_site.0; entry = omega (arith, can.entries, many); bytes = omega (arith, can.bytes, size) }

pub can_rest : (s : Shown) (e : Entry) (es : List Entry) → CanAddAll s (e ∷ es) → CanAddAll (added s e) es
can_rest s e es can =
    let many : entries_in (e ∷ es) ≡ entries_for e.what + entries_in es = sum_by-cons (λ (x : Entry). entries_for x.what) e es in
    let size : bytes_in (e ∷ es) ≡ bytes_for e.what + bytes_in es = sum_by-cons (λ (x : Entry). bytes_for x.what) e es in
    record { allowed = can.allowed.1; of_site = can.of_site.1; entries = omega (arith, can.entries, many); bytes = omega (arith, can.bytes, size) }
