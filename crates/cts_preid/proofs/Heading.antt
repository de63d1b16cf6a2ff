-- What PREIDENTIFIED finds.
use Rattle.std.proofs.Common.{◌≡◌, ℕ, ◌+◌, ◌-◌, ◌≤◌, ◌<◌, Bool, true, false, List, ◌++◌, length, take, drop, refl, sym, ◌∙◌, ap, subst, arith, [], Some, None, slice_range}
use Rattle.std.specs.Prelude.{nat_le, ◌==◌}
use Rattle.std.proofs.lemmas.List.{take_all, length-take-le, length-drop, take-append-drop, drop-append-le, drop-drop}
use Rattle.std.proofs.lemmas.Bool.{lt-leb}
use Rattle.cts_def.specs.Protocols.{PreidentifiedData, Preidentified}
use Rattle.cts_def.specs.declared.bad_cause.BadCause.TheVariants.{OverMax, TooLong, Flags}
use Rattle.cts_framing.specs.Cuts.{Ends}
use Rattle.cts_framing.specs.Framing.{Agree, Output}
use Rattle.cts_framing.specs.Heads.{target_end, packet_end, HeadData}
use Rattle.cts_framing.specs.Layouts.{flag_len, flags_at, after_flags, has_flags, has_wrong_flags, has_laid, laid_of, laid_end, stored_at}
use Rattle.cts_def.specs.Most.{frame_limit}
use Rattle.cts_framing.specs.Rows.{is_over, count_states, preidentified_states, after_head, framing_of}
use Rattle.cts_framing.specs.Stating.{Long, is_open}
use Rattle.cts_framing.proofs.Endings.{open_ends, part_ends}
use Rattle.cts_framing.proofs.Fronts.{le_test}
use Rattle.cts_framing.proofs.Laid.{flags_front, has_laid_back, laid_end_back, laid_end_is, laid_of_front, laid_room, laid_some, wrong_front}
use Rattle.cts_framing.proofs.PreidentifiedSteady.{preidentified_steady, wrong_some}
use Rattle.cts_framing.proofs.ShortRests.{over_decided}
use Rattle.cts_encode.specs.HeadSpans.{IsHead}
use Rattle.cts_encode.specs.declared.head.Head.{Head}
use Rattle.cts_proto.specs.Founds.{FindsFrame, output_at, IsSpan}
use Rattle.cts_proto.specs.declared.step.Stamp.{Stamp}
use Rattle.cts_proto.proofs.Finding.{span_front, nil_of, error_ends, frame_found as stated_found}
use Rattle.cts_proto.proofs.Stepping.{moved_range}

over_limit : (n : ℕ) → frame_limit < n → nat_le n frame_limit ≡ false
over_limit n h = lt-leb n frame_limit h

-- a range after two moves
moved_twice : (u : List ℕ) (by k start end : ℕ) → slice_range (drop k (drop by u)) start end ≡ slice_range u (by + (k + start)) (by + (k + end))
moved_twice u by k start end = moved_range (drop by u) k start end ∙ moved_range u by (k + start) (k + end)

-- the bytes from a place on
pub all_after : (u : List ℕ) (n : ℕ) → take (length u - n) (drop n u) ≡ drop n u
all_after u n = take_all (length u - n) (drop n u) (omega (arith, length-drop n u))

-- a head in them
pub head_after : (b : Bool) (u : List ℕ) (n : ℕ) (h : Head) → IsHead b (take (length u - n) (drop n u)) h → IsHead b (drop n u) h
head_after b u n h is = subst (λ (v : List ℕ). IsHead b v h) (all_after u n) is

-- what a frame gives
abbrev given : PreidentifiedData → List ℕ → Output
given p w = after_head (has_flags p.layout) (drop (length p.sync) w)

-- the time of a head, and where its names stand after so many bytes
abbrev pub stamp_after : ℕ → Head → Stamp
stamp_after by h = record { time = h.time; target = (by + h.target.0, by + h.target.1); packet = (by + h.packet.0, by + h.packet.1); stored = h.flags == 128 }

nothing_laid : (b : Bool) → has_laid b [] ≡ false
nothing_laid true = refl
nothing_laid false = refl

nothing_wrong : (b : Bool) → has_wrong_flags b [] ≡ false
nothing_wrong true = refl
nothing_wrong false = refl

module _ (p : PreidentifiedData) (u : List ℕ) (a : Agree p.sync u) where
  abbrev b : Bool
  b = has_flags p.layout

  abbrev v : List ℕ
  v = drop (length p.sync) u

  -- flags that no packet has
  pub wrong : has_wrong_flags b v ≡ true → Ends (framing_of (Preidentified p)) u (Some (Flags (flags_at b v)))
  wrong h =
      let some : 1 ≤ length v = wrong_some b v h in
      error_ends p.sync (preidentified_states p) (given p) (preidentified_steady p) u a (Flags (flags_at b v)) (omega (arith, some, length-drop (length p.sync) u)) (omega (arith, some, length-drop (length p.sync) u)) (rw h refl)

  module _ (right : has_wrong_flags b v ≡ false) where
    pub no_head : has_laid b v ≡ false → Ends (framing_of (Preidentified p)) u None
    no_head h = open_ends p.sync (preidentified_states p) (given p) (preidentified_steady p) u a (rw (right, h) refl)

    module _ (h : Head) (is : IsHead b v h) where
      enough : length p.sync + h.begin ≤ length u
      enough = omega (arith, is.begin, laid_room b v is.whole, laid_some b v is.whole, length-drop (length p.sync) u)

      begins : 1 ≤ h.begin
      begins = omega (arith, is.begin, laid_end_is b v)

      states_are : preidentified_states p u ≡ count_states p h.begin h.count
      states_are = rw (right, is.whole, is.begin, is.count) refl

      pub over : is_over p.max h.count ≡ true → Ends (framing_of (Preidentified p)) u (Some (OverMax h.count))
      over o = error_ends p.sync (preidentified_states p) (given p) (preidentified_steady p) u a (OverMax h.count) (omega (arith, enough, begins)) (omega (arith, enough, begins)) (states_are ∙ rw o refl)

      module _ (n : ℕ) (n_is : n ≡ length p.sync + h.begin + h.count) (o : is_over p.max h.count ≡ false) where
        pub too_long : frame_limit < n → Ends (framing_of (Preidentified p)) u (Some TooLong)
        too_long l =
            let e : nat_le (length p.sync + h.begin + h.count) frame_limit ≡ false = over_limit (length p.sync + h.begin + h.count) (omega (arith, l, n_is)) in
            error_ends p.sync (preidentified_states p) (given p) (preidentified_steady p) u a TooLong (omega (arith, enough, begins)) (omega (arith, enough, begins)) (states_are ∙ rw (o, e) refl)

        states_long : n ≤ frame_limit → preidentified_states p u ≡ Long n
        states_long l =
            let e : nat_le (length p.sync + h.begin + h.count) frame_limit ≡ true = le_test (length p.sync + h.begin + h.count) frame_limit (omega (arith, l, n_is)) in
            states_are ∙ (rw (o, e) refl ∙ ap Long (sym n_is))

        pub part : n ≤ frame_limit → length u < n → Ends (framing_of (Preidentified p)) u None
        part l few = part_ends p.sync (preidentified_states p) (given p) (preidentified_steady p) u n a (states_long l) few

        module _ (l : n ≤ frame_limit) (fits : n ≤ length u) where
          abbrev w : List ℕ
          w = drop (length p.sync) (take n u)

          -- the frame's own bytes, and those after it
          parts : v ≡ w ++ drop n u
          parts =
              ap (drop (length p.sync)) (sym (take-append-drop n u))
              ∙ drop-append-le (length p.sync) (take n u) (drop n u) (omega (arith, length-take-le n u fits, n_is))

          w_length : length w ≡ n - length p.sync
          w_length = omega (arith, length-drop (length p.sync) (take n u), length-take-le n u fits)

          ends : laid_end b (w ++ drop n u) ≤ length w
          ends = omega (arith, w_length, n_is, is.begin, ap (laid_end b) parts)

          end_is : laid_end b w ≡ h.begin
          end_is = laid_end_back b w (drop n u) ends ∙ (ap (laid_end b) (sym parts) ∙ sym is.begin)

          there : has_laid b w ≡ true
          there = has_laid_back b w (drop n u) ends

          some : 1 ≤ length w
          some = omega (arith, laid_some b w there)

          head_is : laid_of b w ≡ laid_of b v
          head_is = sym (laid_of_front b w (drop n u) there) ∙ ap (laid_of b) (sym parts)

          flags_are : flags_at b w ≡ flags_at b v
          flags_are = sym (flags_front b w (drop n u) some) ∙ ap (flags_at b) (sym parts)

          right_there : has_wrong_flags b w ≡ false
          right_there = sym (wrong_front b w (drop n u) some) ∙ (ap (has_wrong_flags b) (sym parts) ∙ right)

          owns : is_open (preidentified_states p (take n u)) ≡ false
          owns = rw (right_there, there) (over_decided (is_over p.max (laid_of b w).count) (laid_of b w).count (length p.sync + laid_end b w + (laid_of b w).count))

          output_is : given p (take n u) ≡ output_at u (length p.sync + h.begin) n (Some (stamp_after (length p.sync) h))
          output_is =
              let s : ℕ = length p.sync in
              let bytes : drop (laid_end b w) w ≡ slice_range u (s + h.begin) n =
              ap (λ k. drop k w) end_is ∙ (drop-drop h.begin s (take n u) ∙ sym (span_front u (s + h.begin) n (s + h.begin) (omega (arith, n_is)))) in
              let time : (laid_of b w).time ≡ h.time = ap (λ (d : HeadData). d.time) head_is ∙ sym is.time in
              let target : (laid_of b w).target ≡ slice_range u (s + h.target.0) (s + h.target.1) =
              ap (λ (d : HeadData). d.target) head_is ∙ (moved_twice u s (flag_len b) 9 (target_end (after_flags b v)) ∙ sym (ap (λ (x : ℕ × ℕ). slice_range u (s + x.0) (s + x.1)) is.target)) in
              let packet : (laid_of b w).packet ≡ slice_range u (s + h.packet.0) (s + h.packet.1) =
              ap (λ (d : HeadData). d.packet) head_is
              ∙ (moved_twice u s (flag_len b) (target_end (after_flags b v) + 1) (packet_end (after_flags b v)) ∙ sym (ap (λ (x : ℕ × ℕ). slice_range u (s + x.0) (s + x.1)) is.packet)) in
              let stored : stored_at b w ≡ (h.flags == 128) = ap (λ (k : ℕ). k == 128) (flags_are ∙ sym is.flags) in
              (λ i. record { bytes = bytes i; heading = Some (record { time = time i; target = target i; packet = packet i; stored = stored i }) })

          pub frame : FindsFrame (framing_of (Preidentified p)) u n (output_at u (length p.sync + h.begin) n (Some (stamp_after (length p.sync) h)))
          frame =
              let states : preidentified_states p (take n u) ≡ Long n =
              sym (preidentified_steady p (take n u) (drop n u) owns) ∙ (ap (preidentified_states p) (take-append-drop n u) ∙ states_long l) in
              stated_found p.sync (preidentified_states p) (given p) (preidentified_steady p) u a n (output_at u (length p.sync + h.begin) n (Some (stamp_after (length p.sync) h)))
              (omega (arith, n_is, begins)) (omega (arith, n_is)) fits states output_is

          pub names : IsSpan n (length p.sync + h.target.0, length p.sync + h.target.1) × IsSpan n (length p.sync + h.packet.0, length p.sync + h.packet.1)
          names =
              let t0 : h.target.0 ≡ flag_len b + 9 = ap (λ (x : ℕ × ℕ). x.0) is.target in
              let t1 : h.target.1 ≡ flag_len b + target_end (after_flags b v) = ap (λ (x : ℕ × ℕ). x.1) is.target in
              let p0 : h.packet.0 ≡ flag_len b + (target_end (after_flags b v) + 1) = ap (λ (x : ℕ × ℕ). x.0) is.packet in
              let p1 : h.packet.1 ≡ flag_len b + packet_end (after_flags b v) = ap (λ (x : ℕ × ℕ). x.1) is.packet in
              let end = laid_end_is b v in
              ((omega (arith, t0, t1), omega (arith, t1, n_is, is.begin, end)), (omega (arith, p0, p1), omega (arith, p1, n_is, is.begin, end)))

          pub frame_found : (t k : ℕ × ℕ) → t ≡ (length p.sync + h.target.0, length p.sync + h.target.1) → k ≡ (length p.sync + h.packet.0, length p.sync + h.packet.1)
              → FindsFrame (framing_of (Preidentified p)) u n (output_at u (length p.sync + h.begin) n (Some (record { time = h.time; target = t; packet = k; stored = h.flags == 128 })))
              × (length p.sync + h.begin ≤ n) × (n ≤ n) × (IsSpan n t × IsSpan n k)
          frame_found t k e g = rw (e, g) (frame, omega (arith, n_is), omega arith, (names.0, names.1))

  pub few : length u < length p.sync → Ends (framing_of (Preidentified p)) u None
  few l =
      let none : v ≡ [] = nil_of v (omega (arith, l, length-drop (length p.sync) u)) in
      no_head (ap (has_wrong_flags b) none ∙ nothing_wrong b) (ap (has_laid b) none ∙ nothing_laid b)
