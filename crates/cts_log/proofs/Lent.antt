-- The entry that is lent is that at the beginning of the bytes.
use Rattle.std.proofs.Common.{◌≡◌, ℕ, ◌+◌, ◌-◌, ◌≤◌, Bool, true, false, ◌&&◌, List, length, take, drop, refl, sym, ◌∙◌, ap, arith}
use Rattle.std.proofs.Math.Bool.{and-false}
use Rattle.std.specs.Prelude.{nat_le, not, ◌==◌, slice_range}
use Rattle.std.proofs.lemmas.List.{drop-drop}
use Rattle.cts_framing.specs.Heads.{packet_end, target_end}
use Rattle.cts_framing.specs.Layouts.{after_flags, are_flags, flag_len, flags_at, has_wrong_flags, laid_end, laid_of, stored_at}
use Rattle.cts_framing.proofs.Fronts.{le_test}
use Rattle.cts_framing.proofs.Laid.{laid_room}
use Rattle.cts_encode.specs.HeadSpans.{IsHead}
use Rattle.cts_encode.specs.declared.head.Head.{Head}
use Rattle.cts_log.specs.Logged.{Logged, entry_end, entry_of, has_entry}

not_wrong : (fl : Bool) (u : List ℕ) → are_flags (flags_at fl u) ≡ true → has_wrong_flags fl u ≡ false
not_wrong true u h = ap (λ (b : Bool). nat_le 1 (length u) && not b) h ∙ and-false (nat_le 1 (length u))
not_wrong false u h = refl

moved : (u : List ℕ) (by start end : ℕ) → slice_range (drop by u) start end ≡ slice_range u (by + start) (by + end)
moved u by start end =
    let e : end - start ≡ (by + end) - (by + start) = omega arith in
    ap (take (end - start)) (drop-drop start by u) ∙ ap (λ k. take k (drop (by + start) u)) e

module _ (fl : Bool) (u : List ℕ) (h : Head) (is : IsHead fl u h) (right : are_flags h.flags ≡ true) (fits : h.count ≤ length u - h.begin) where
  end_is : h.begin + h.count ≡ entry_end fl u
  end_is = omega (arith, is.begin, is.count)

  whole : has_entry fl u ≡ true
  whole =
      let room : laid_end fl u ≤ length u = laid_room fl u is.whole in
      let end : entry_end fl u ≤ length u = omega (arith, room, fits, is.begin, is.count) in
      rw (not_wrong fl u (ap are_flags (sym is.flags) ∙ right), is.whole, le_test (entry_end fl u) (length u) end) refl

  lent : Logged
  lent = record {
    heading = record { time = h.time; target = slice_range u h.target.0 h.target.1; packet = slice_range u h.packet.0 h.packet.1; stored = h.flags == 128 };
    bytes = slice_range u h.begin (h.begin + h.count);
  }

  lent_is : lent ≡ entry_of fl u
  unfolding lent
  lent_is =
      let time : h.time ≡ (laid_of fl u).time = is.time in
      let target : slice_range u h.target.0 h.target.1 ≡ (laid_of fl u).target =
      ap (λ (x : ℕ × ℕ). slice_range u x.0 x.1) is.target ∙ sym (moved u (flag_len fl) 9 (target_end (after_flags fl u))) in
      let packet : slice_range u h.packet.0 h.packet.1 ≡ (laid_of fl u).packet =
      ap (λ (x : ℕ × ℕ). slice_range u x.0 x.1) is.packet ∙ sym (moved u (flag_len fl) (target_end (after_flags fl u) + 1) (packet_end (after_flags fl u))) in
      let stored : (h.flags == 128) ≡ stored_at fl u = ap (λ (n : ℕ). n == 128) is.flags in
      let bytes : slice_range u h.begin (h.begin + h.count) ≡ slice_range u (laid_end fl u) (entry_end fl u) =
      ap (slice_range u h.begin) end_is ∙ ap (λ (n : ℕ). slice_range u n (entry_end fl u)) is.begin in
      λ i. record { heading = record { time = time i; target = target i; packet = packet i; stored = stored i }; bytes = bytes i }

  pub lends : (has_entry fl u ≡ true)
      × (record {
        heading = record { time = h.time; target = slice_range u h.target.0 h.target.1; packet = slice_range u h.packet.0 h.packet.1; stored = h.flags == 128 };
        bytes = slice_range u h.begin (h.begin + h.count);
      } ≡ entry_of fl u) × (h.begin + h.count ≡ entry_end fl u)
  unfolding lent
  lends = (whole, lent_is, end_is)
