-- What PREIDENTIFIED writes it reads again.
use Rattle.std.proofs.Common.{◌≡◌, ℕ, ◌+◌, ◌^◌, ◌≤◌, Bool, true, false, ◌&&◌, ◌||◌, List, ◌++◌, length, drop, refl, ◌∙◌, ap, arith, Some, length-append}
use Rattle.std.specs.Prelude.{nat_le, nat_lt}
use Rattle.std.proofs.lemmas.List.{drop_at}
use Rattle.cts_def.specs.Protocols.{PreidentifiedData, Preidentified}
use Rattle.cts_framing.specs.Framing.{Heading}
use Rattle.cts_framing.specs.Heads.{HeadData, FitsHead}
use Rattle.cts_framing.specs.Layouts.{has_flags, laid_end, laid_of, stored_at}
use Rattle.cts_framing.specs.Patterns.{begins}
use Rattle.cts_encode.specs.ReadBack.{FitsHeading, output_for}
use Rattle.cts_def.specs.Most.{frame_limit}
use Rattle.cts_framing.specs.Rows.{is_over, long_within, head_states, preidentified_states, after_head}
use Rattle.cts_encode.specs.Spellings.{head_for, head_in, headed, too_large}
use Rattle.cts_framing.specs.Stating.{Long, is_long}
use Rattle.cts_encode.proofs.AgainCut.{is_whole}
use Rattle.cts_framing.proofs.Fronts.{le_test, begins_front, not_lt_tells}
use Rattle.cts_framing.proofs.TerminatedSteady.{not_full}
use Rattle.cts_framing.proofs.LengthSteady.{or_tells}
use Rattle.cts_framing.proofs.Laid.{laid_length, laid_end_again, laid_again, has_laid_again, flags_again, stored_again}

pub within_limit : (n : ℕ) → nat_lt frame_limit n ≡ false → long_within n ≡ Long n
within_limit n h = rw (le_test n frame_limit (not_lt_tells frame_limit n h)) refl

module _ (p : PreidentifiedData) (h : Heading) (b : List ℕ) (fits : FitsHeading h) (none : too_large (Preidentified p) h b ≡ false) where
  few : (nat_le (2 ^ 32) (length b) ≡ false) × (is_over p.max (length b) ≡ false) × (nat_lt frame_limit (length (headed p h b)) ≡ false)
  few =
      let t = or_tells (nat_le (2 ^ 32) (length b) || is_over p.max (length b)) (nat_lt frame_limit (length (headed p h b))) none in
      let u = or_tells (nat_le (2 ^ 32) (length b)) (is_over p.max (length b)) t.0 in
      (u.0, u.1, t.1)

  fits_head : FitsHead (head_for h (length b))
  fits_head = record { seconds = fits.seconds; micros = fits.micros; target = fits.target; packet = fits.packet; count = not_full (2 ^ 32) (length b) few.0 }

  after : drop (length p.sync) (headed p h b) ≡ head_in (has_flags p.layout) h (length b) ++ b
  after = drop_at p.sync (head_in (has_flags p.layout) h (length b) ++ b) (length p.sync) refl

  states_are : preidentified_states p (headed p h b) ≡ Long (length (headed p h b))
  states_are =
      let f : Bool = has_flags p.layout in
      let d : HeadData = head_for h (length b) in
      let l : List ℕ = head_in (has_flags p.layout) h (length b) in
      let v : List ℕ = l ++ b in
      let total : length p.sync + length l + length b ≡ length (headed p h b) = omega (arith, length-append p.sync v, length-append l b) in
      let long : long_within (length p.sync + length l + length b) ≡ Long (length (headed p h b)) = ap long_within total ∙ within_limit (length (headed p h b)) few.2 in
      let count : (laid_of f v).count ≡ length b = ap (λ (e : HeadData). e.count) (laid_again f h.stored d b fits_head) in
      ap (head_states p f) after ∙ rw (flags_again f h.stored d b, has_laid_again f h.stored d b, laid_end_again f h.stored d b, count, few.1, long) refl

  some_bytes : 1 ≤ length (headed p h b)
  some_bytes =
      let l : List ℕ = head_in (has_flags p.layout) h (length b) in
      omega (arith, length-append p.sync (l ++ b), length-append l b, laid_length (has_flags p.layout) h.stored (head_for h (length b)))

  pub preidentified_whole : (nat_le 1 (length (headed p h b)) && begins p.sync (headed p h b) && is_long (preidentified_states p (headed p h b)) (length (headed p h b))) ≡ true
  preidentified_whole = is_whole p.sync (preidentified_states p) (headed p h b) some_bytes (begins_front p.sync (head_in (has_flags p.layout) h (length b) ++ b)) states_are

  pub preidentified_output : after_head (has_flags p.layout) (drop (length p.sync) (headed p h b)) ≡ output_for (Preidentified p) h b
  preidentified_output =
      let f : Bool = has_flags p.layout in
      let d : HeadData = head_for h (length b) in
      let l : List ℕ = head_in (has_flags p.layout) h (length b) in
      let v : List ℕ = l ++ b in
      let bytes : drop (laid_end f v) v ≡ b = ap (λ n. drop n v) (laid_end_again f h.stored d b) ∙ drop_at l b (length l) refl in
      let head : laid_of f v ≡ d = laid_again f h.stored d b fits_head in
      let stored : stored_at f v ≡ (f && h.stored) = stored_again f h.stored d b in
      ap (after_head f) after ∙ (λ i. record { bytes = bytes i; heading = Some (record { time = (head i).time; target = (head i).target; packet = (head i).packet; stored = stored i }) })
