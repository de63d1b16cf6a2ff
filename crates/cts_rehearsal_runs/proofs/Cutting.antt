-- The pieces of a rehearsal are cut without an error.
use Rattle.std.proofs.Common.{◌≡◌, ◌∙◌, ℕ, zero, suc, ◌+◌, ◌-◌, ◌/◌, ◌%◌, ◌≤◌, true, List, [], ◌∷◌, ◌++◌, length, take, replicate, Option, Some, None, refl, sym, ap, subst, arith, length-append, append-nil}
use Rattle.std.specs.Prelude.{nat_le, option_map}
use Rattle.std.proofs.lemmas.List.{length-replicate, take_all}
use Rattle.cts_bits.specs.Bits.{bits_of}
use Rattle.cts_bits.specs.Fields.{field_at}
use Rattle.cts_def.specs.Most.{frame_limit}
use Rattle.cts_framing.specs.Cuts.{Ends, IsCut, and_output, one_if_empty}
use Rattle.cts_framing.specs.Framing.{Output, plain}
use Rattle.cts_framing.specs.Patterns.{first_place}
use Rattle.cts_framing.specs.Rows.{end_states, framing_of, length_states, terminated_states}
use Rattle.cts_framing.specs.Stating.{Long}
use Rattle.cts_framing.proofs.Endings.{open_ends, part_ends}
use Rattle.cts_framing.proofs.Framings.{ends_nil, taken_none}
use Rattle.cts_framing.proofs.LengthSteady.{length_steady}
use Rattle.cts_framing.proofs.Sound.{is_sound}
use Rattle.cts_framing.proofs.Steady.{frame_test}
use Rattle.cts_framing.proofs.Takings.{taken_frame}
use Rattle.cts_rehearsal.specs.Generated.{frame, frame_cut}
use Rattle.cts_rehearsal_runs.specs.Protocols.{frame_data, frames, line_data, lines}
use Rattle.cts_rehearsal_runs.specs.Cut.{FramesAreCut, LinesAreCut, given}

-- ---- frames

-- a frame with its length
abbrev six : ℕ → ℕ → ℕ → ℕ → List ℕ
six a b c d = 0 ∷ 6 ∷ a ∷ b ∷ c ∷ d ∷ []

abbrev Waits : List ℕ → Type 0
Waits u = Ends (framing_of frames) u None

-- the length is not there yet
waits_one : Waits (0 ∷ [])
waits_one = open_ends [] (length_states frame_data) (framing_of frames).output (length_steady frame_data) (0 ∷ []) tt refl

waits_two : Waits (0 ∷ 6 ∷ [])
unfolding field_at bits_of
waits_two = part_ends [] (length_states frame_data) (framing_of frames).output (length_steady frame_data) (0 ∷ 6 ∷ []) 6 tt refl (omega arith)

waits_three : (a : ℕ) → Waits (0 ∷ 6 ∷ a ∷ [])
unfolding field_at bits_of
waits_three a = part_ends [] (length_states frame_data) (framing_of frames).output (length_steady frame_data) (0 ∷ 6 ∷ a ∷ []) 6 tt refl (omega arith)

waits_four : (a b : ℕ) → Waits (0 ∷ 6 ∷ a ∷ b ∷ [])
unfolding field_at bits_of
waits_four a b = part_ends [] (length_states frame_data) (framing_of frames).output (length_steady frame_data) (0 ∷ 6 ∷ a ∷ b ∷ []) 6 tt refl (omega arith)

waits_five : (a b c : ℕ) → Waits (0 ∷ 6 ∷ a ∷ b ∷ c ∷ [])
unfolding field_at bits_of
waits_five a b c = part_ends [] (length_states frame_data) (framing_of frames).output (length_steady frame_data) (0 ∷ 6 ∷ a ∷ b ∷ c ∷ []) 6 tt refl (omega arith)

waits : (a b c d k : ℕ) → 1 ≤ k → k ≤ 5 → Waits (take k (six a b c d))
waits a b c d zero some few = absurd (omega (arith, some))
waits a b c d (suc zero) some few = waits_one
waits a b c d (suc (suc zero)) some few = waits_two
waits a b c d (suc (suc (suc zero))) some few = waits_three a
waits a b c d (suc (suc (suc (suc zero)))) some few = waits_four a b
waits a b c d (suc (suc (suc (suc (suc zero))))) some few = waits_five a b c
waits a b c d (suc (suc (suc (suc (suc (suc k)))))) some few = absurd (omega (arith, few))

is_frame : (a b c d : ℕ) → (framing_of frames).whole (six a b c d) [] ≡ true
unfolding field_at bits_of
is_frame a b c d = refl

gives_packet : (a b c d : ℕ) → IsCut (framing_of frames) (six a b c d) (given (a ∷ b ∷ c ∷ d ∷ []))
gives_packet a b c d = record { taken = taken_frame (framing_of frames) (six a b c d) [] (is_frame a b c d); ends = ends_nil (framing_of frames) (is_sound frames) }

pub frames_are_cut : FramesAreCut
frames_are_cut r = (
  record {
    taken = taken_none (framing_of frames) (take (frame_cut r) (frame r));
    ends = waits 1 (r / 8 / 256 % 256) (r / 8 % 256) (r / 524288 % 2) (frame_cut r) (omega arith) (omega arith);
  },
  gives_packet 1 (r / 8 / 256 % 256) (r / 8 % 256) (r / 524288 % 2),
)

-- ---- lines

abbrev line : ℕ → List ℕ
line n = replicate n 65 ++ 10 ∷ []

line_long : (n : ℕ) → length (line n) ≡ n + 1
line_long n = omega (arith, length-append {A = ℕ} (replicate n 65) (10 ∷ []), length-replicate {A = ℕ} n 65)

end_at : (n : ℕ) → first_place (10 ∷ []) (line n) ≡ Some n
end_at zero = refl
end_at (suc n) = ap (option_map suc) (end_at n)

without_end : (n : ℕ) → take n (line n) ≡ replicate n 65
without_end zero = refl
without_end (suc n) = ap (λ (t : List ℕ). 65 ∷ t) (without_end n)

module _ (n : ℕ) (few : n ≤ 40) where
  states_are : terminated_states line_data (line n) ≡ Long (length (line n))
  states_are =
      let all : take frame_limit (line n) ≡ line n = take_all frame_limit (line n) (omega (arith, line_long n, few)) in
      ap (λ (u : List ℕ). end_states (option_map (λ (k : ℕ). 0 + k + 1) (first_place (10 ∷ []) u)) (nat_le frame_limit (length (line n)))) all
      ∙ (ap (λ (o : Option ℕ). end_states (option_map (λ (k : ℕ). 0 + k + 1) o) (nat_le frame_limit (length (line n)))) (end_at n)
      ∙ ap Long (omega (arith, line_long n)))

  is_line : (framing_of lines).whole (line n) [] ≡ true
  is_line = frame_test [] (terminated_states line_data) (line n) (record { some = omega (arith, line_long n); begin = refl; states_are = states_are })

  output_is : (framing_of lines).output (line n) ≡ plain (replicate n 65)
  output_is =
      let size : length (line n) - 1 ≡ n = omega (arith, line_long n) in
      ap (λ (k : ℕ). plain (take k (line n))) size ∙ ap plain (without_end n)

gives_line : (n : ℕ) → suc n ≤ 40 → IsCut (framing_of lines) (line (suc n)) (given (replicate (suc n) 65))
gives_line n few =
    let out : (framing_of lines).output (line (suc n)) ≡ plain (replicate (suc n) 65) = output_is (suc n) few in
    record {
      taken = record {
        parts = record { gap = []; frame = line (suc n) } ∷ [];
        gap = [];
        cut = ([], sym (append-nil (line (suc n))), is_line (suc n) few, tt, refl);
        clear = tt;
        outs_are = ap (λ (o : Output). and_output o o.bytes []) (sym out);
        skipped_is = refl;
        empty_is = ap (λ (o : Output). one_if_empty o.bytes + 0) (sym out);
      };
      ends = ends_nil (framing_of lines) (is_sound lines);
    }

pub lines_are_cut : LinesAreCut
lines_are_cut r =
    let more : 1 + r / 8 % 40 ≡ suc (r / 8 % 40) = omega arith in
    subst (λ (k : ℕ). IsCut (framing_of lines) (line k) (given (replicate k 65))) (sym more) (gives_line (r / 8 % 40) (omega arith))
